-- Prepare, decide and query in other words than their definitions: in which order their refusals are tried, whom a prepared transaction stops,
-- and that a decision asks for the identity.
use mathlib.Core.Path.{◌≡◌, refl, ap, ◌∙◌}
use mathlib.Core.Bool.{Bool, true, false, not, cond, ◌&&◌, ◌||◌}
use mathlib.Core.List.{List, [], ◌∷◌}
use mathlib.Core.Logic.{◌≢◌}
use mathlib.Core.Option.{Option, none, some}
use Prim.Native.Nat.{ℕ}
use Rattle.laws.proofs.Tests.{same_refl, ne_false}
use Rattle.laws.proofs.Booleans.{or_left}
use Rattle.rules.specs.Event.{Event, Access, lock, commit, prepare, decide, query}
use Rattle.rules.specs.State.{line_of, live}
use Rattle.rules.specs.Locks.{grantable}
use Rattle.rules.specs.Form.{Form}
use Rattle.rules.specs.Step.{done, first_of, has_child, is_for, is_top, StateOf, changes, busy, reserved, refusals, refusal, finished, decides, act, outcome_by, step}
use Rattle.rules.proofs.Waiting.{Refused, refuse}

-- a test that refuses; one that does not, before one that does
stops : (n : ℕ) (b : Bool) (rest : List (ℕ × Bool)) → b ≡ true → first_of ((n, b) ∷ rest) ≡ some n
unfolding first_of
stops n b rest e = ap (λ (x : Bool). cond x (some n) (first_of rest)) e

passes : (n : ℕ) (b : Bool) (rest : List (ℕ × Bool)) {o : Option ℕ} → b ≡ false → first_of rest ≡ o → first_of ((n, b) ∷ rest) ≡ o
unfolding first_of
passes n b rest e h = ap (λ (x : Bool). cond x (some n) (first_of rest)) e ∙ h

ends : {o : Option ℕ} → none ≡ o → first_of [] ≡ o
unfolding first_of
ends e = e

is : (b : Bool) → b ≡ true → not b ≡ false
is b e = ap not e

isnt : (b : Bool) → b ≡ false → not b ≡ true
isnt b e = ap not e

-- the identity is compared
pub not_for : (i : ℕ) (o : Option ℕ) → o ≢ some i → is_for i o ≡ false
unfolding is_for
not_for i none h = refl
not_for i (some j) h = ne_false j i (λ e. h (ap some e))

pub is_for_lem : (i : ℕ) (o : Option ℕ) → o ≡ some i → is_for i o ≡ true
is_for_lem i o h = ap (is_for i) h ∙ unfold is_for in same_refl i

module _ (f : Form) (s : StateOf f) where
  -- while down nothing is prepared, decided or told
  pub prepare_down : (t k i : ℕ) → s.up ≡ false → Refused f s (prepare t k i) 2
  unfolding refusal refusals
  prepare_down t k i d = refuse f s (prepare t k i) 2 (stops 2 (not s.up) _ (isnt s.up d))

  pub decide_down : (b : Bool) (k i : ℕ) → s.up ≡ false → Refused f s (decide b k i) 2
  unfolding refusal refusals
  decide_down b k i d = refuse f s (decide b k i) 2 (stops 2 (not s.up) _ (isnt s.up d))

  pub query_down : (i : ℕ) → s.up ≡ false → Refused f s (query i) 2
  unfolding refusal refusals
  query_down i d = refuse f s (query i) 2 (stops 2 (not s.up) _ (isnt s.up d))

  module _ (t : ℕ) (up : s.up ≡ true) (alive : live s t ≡ true) where
    -- a live child is told first, whatever is changed or prepared
    pub prepare_parent : (k i : ℕ) → has_child s t ≡ true → Refused f s (prepare t k i) 10
    unfolding refusal refusals
    prepare_parent k i child = refuse f s (prepare t k i) 10 (passes 2 (not s.up) _ (is s.up up) (passes 5 (not (live s t)) _ (is (live s t) alive) (stops 10 (has_child s t) _ child)))

    pub commit_parent : (k : ℕ) → has_child s t ≡ true → Refused f s (commit t k) 10
    unfolding refusal refusals
    commit_parent k child = refuse f s (commit t k) 10 (passes 2 (not s.up) _ (is s.up up) (passes 5 (not (live s t)) _ (is (live s t) alive) (stops 10 (has_child s t) _ child)))

    module _ (childless : has_child s t ≡ false) where
      -- what is tried after 10
      after_10 : {o : Option ℕ} (rest : List (ℕ × Bool)) → first_of rest ≡ o → first_of ((2, not s.up) ∷ (5, not (live s t)) ∷ (10, has_child s t) ∷ rest) ≡ o
      after_10 rest h = passes 2 (not s.up) _ (is s.up up) (passes 5 (not (live s t)) _ (is (live s t) alive) (passes 10 (has_child s t) _ childless h))

      -- beside one that is prepared a changed record is told next, of a child too
      pub prepare_beside : (k i : ℕ) → changes f s t ≡ true → busy f s ≡ true → Refused f s (prepare t k i) 13
      unfolding refusal refusals
      prepare_beside k i c b = refuse f s (prepare t k i) 13 (after_10 _ (stops 13 (changes f s t && busy f s) _ (rw (c, b))))

      -- and a child only then: it has changed nothing, or none is prepared
      pub prepare_child : (k i : ℕ) → (changes f s t && busy f s) ≡ false → is_top (line_of s.bearer t) ≡ false → Refused f s (prepare t k i) 27
      unfolding refusal refusals
      prepare_child k i c top = refuse f s (prepare t k i) 27 (after_10 _ (passes 13 (changes f s t && busy f s) _ c (stops 27 (not (is_top (line_of s.bearer t))) _ (isnt _ top))))

      -- any other is prepared
      pub prepare_open : (k i : ℕ) → (changes f s t && busy f s) ≡ false → is_top (line_of s.bearer t) ≡ true → refusal f s (prepare t k i) ≡ none
      unfolding refusal refusals
      prepare_open k i c top = after_10 _ (passes 13 (changes f s t && busy f s) _ c (passes 27 (not (is_top (line_of s.bearer t))) _ (is _ top) (ends refl)))

      -- of commits only a top one meets 13
      pub commit_beside : (k : ℕ) → is_top (line_of s.bearer t) ≡ true → changes f s t ≡ true → busy f s ≡ true → Refused f s (commit t k) 13
      unfolding refusal refusals
      commit_beside k top c b = refuse f s (commit t k) 13 (after_10 _ (stops 13 (is_top (line_of s.bearer t) && (changes f s t && busy f s)) _ (rw (top, c, b))))

      pub child_commits_beside : (k : ℕ) → is_top (line_of s.bearer t) ≡ false → refusal f s (commit t k) ≡ none
      unfolding refusal refusals
      child_commits_beside k top = after_10 _ (passes 13 (is_top (line_of s.bearer t) && (changes f s t && busy f s)) _ (ap (λ (b : Bool). b && (changes f s t && busy f s)) top) (ends refl))

      -- nobody locks what the prepared transaction changed, in any mode and whatever the locks are
      pub reserved_locked : (r : ℕ) (a : Access) → reserved f s r ≡ true → Refused f s (lock t r a) 8
      unfolding refusal refusals
      reserved_locked r a e =
          refuse f s (lock t r a) 8 (passes 2 (not s.up) _ (is s.up up) (passes 5 (not (live s t)) _ (is (live s t) alive) (passes 14 (has_child s t) _ childless
          (stops 8 (reserved f s r || not (grantable a s.held s.retained (line_of s.bearer t) t r)) _ (or_left (reserved f s r) _ e)))))

  -- a decision for another changes nothing
  pub for_another : (d : Bool) (k : ℕ) → decides f s d k false ≡ record { state = s; answer = done 0 }
  unfolding decides finished
  for_another d k = refl

  module _ (up : s.up ≡ true) where
    unrefused : (e : Event) → refusal f s e ≡ none → step f s (some e) ≡ act f s e
    unfolding step outcome_by
    unrefused e q = ap (outcome_by f s e) q

    -- so is a decision on another identity, whatever it is and whatever its count
    pub decide_another : (d : Bool) (k i : ℕ) → f.medium.prepared s.store ≢ some i → step f s (some (decide d k i)) ≡ record { state = s; answer = done 0 }
    unfolding refusal refusals act finished
    decide_another d k i h =
        unrefused (decide d k i) (passes 2 (not s.up) _ (is s.up up) (ends refl)) ∙ ap (decides f s d k) (not_for i _ h) ∙ for_another d k

    -- a query tells whether its identity is prepared, and changes nothing
    pub query_prepared : (i : ℕ) → f.medium.prepared s.store ≡ some i → step f s (some (query i)) ≡ record { state = s; answer = done 1 }
    unfolding refusal refusals act finished
    query_prepared i h = unrefused (query i) (passes 2 (not s.up) _ (is s.up up) (ends refl)) ∙ ap (λ (b : Bool). finished s (cond b 1 0)) (is_for_lem i _ h)

    pub query_another : (i : ℕ) → f.medium.prepared s.store ≢ some i → step f s (some (query i)) ≡ record { state = s; answer = done 0 }
    unfolding refusal refusals act finished
    query_another i h = unrefused (query i) (passes 2 (not s.up) _ (is s.up up) (ends refl)) ∙ ap (λ (b : Bool). finished s (cond b 1 0)) (not_for i _ h)

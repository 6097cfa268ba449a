-- A list without kinds 9 to 11, over a start store in which nothing is prepared: nothing ever is. So the refusals that a prepared transaction
-- brings are never given, and what the rules say of the list is what they said before there were such kinds.
use mathlib.Core.Path.{◌≡◌, refl, subst⁻¹, ◌∙◌}
use mathlib.Core.Bool.{Bool, true, false, cond, ◌&&◌, false≢true, true≢false, and-false}
use mathlib.Core.List.{List, [], ◌∷◌}
use mathlib.Core.Option.{Option, none, some}
use Prim.Native.Nat.{ℕ, zero, suc}
use Rattle.laws.specs.Tests.{under, open_tests}
use Rattle.rules.specs.Geometry.{Geometry}
use Rattle.rules.specs.Event.{Event, Fields, begin, lock, write, read, commit, abort, crash, recover, prepare, decide, query, fields, well_formed, event_at, event_of, decode}
use Rattle.rules.specs.State.{line_of, down}
use Rattle.rules.specs.Versions.{is_some}
use Rattle.rules.specs.Commit.{Cut}
use Rattle.rules.specs.Form.{Form}
use Rattle.rules.specs.Step.{is_busy, StateOf, OutcomeOf, begun, locked, wrote, ended as endedState, passed as passedState, retaining, aborted, raised, concluded, finished, changes, busy, reserved, refusal, commits_top, commits_child, commits, recovers, act, step}
use Rattle.rules.specs.Sound.{Sound}
use Rattle.rules.proofs.Medium.{MediumLaws}
use Rattle.rules.proofs.Acceptance.{commit_ok, Judged, acts, refuses, judge_cases}
use Rattle.rules.proofs.Reserved.{clear_of}
use Rattle.audit_rules.specs.Audit.{is_two_phase}

-- an event that is none of prepare, decide and query, or a bad one
abbrev pub is_plain : Option Event → Bool
is_plain none = true
is_plain (some (begin p)) = true
is_plain (some (lock t r a)) = true
is_plain (some (write t r o v)) = true
is_plain (some (read t r o)) = true
is_plain (some (commit t k)) = true
is_plain (some (abort t w)) = true
is_plain (some crash) = true
is_plain (some (recover k)) = true
is_plain (some (prepare t k i)) = false
is_plain (some (decide d k i)) = false
is_plain (some (query i)) = false

abbrev of_kind : ℕ → Fields → Fields
of_kind n x = record { kind = n; transaction = x.transaction; rec = x.rec; offset = x.offset; count = x.count; value = x.value; spare = x.spare }

plain_kind : (n : ℕ) (x : Fields) (k : ℕ) → (under 8 n && under n 12) ≡ false → is_plain (event_at (of_kind n x) k) ≡ true
unfolding event_at open_tests
plain_kind zero x k e = refl
plain_kind (suc zero) x k e = refl
plain_kind (suc (suc zero)) x k e = refl
plain_kind (suc (suc (suc zero))) x k e = refl
plain_kind (suc (suc (suc (suc zero)))) x k e = refl
plain_kind (suc (suc (suc (suc (suc zero))))) x k e = refl
plain_kind (suc (suc (suc (suc (suc (suc zero)))))) x k e = refl
plain_kind (suc (suc (suc (suc (suc (suc (suc zero))))))) x k e = refl
plain_kind (suc (suc (suc (suc (suc (suc (suc (suc zero)))))))) x k e = refl
plain_kind (suc (suc (suc (suc (suc (suc (suc (suc (suc zero))))))))) x k e = absurd (true≢false e)
plain_kind (suc (suc (suc (suc (suc (suc (suc (suc (suc (suc zero)))))))))) x k e = absurd (true≢false e)
plain_kind (suc (suc (suc (suc (suc (suc (suc (suc (suc (suc (suc zero))))))))))) x k e = absurd (true≢false e)
plain_kind (suc (suc (suc (suc (suc (suc (suc (suc (suc (suc (suc (suc n)))))))))))) x k e = refl

-- a word of another kind than 9 to 11
pub plain_word : (g : Geometry) (w : ℕ) → is_two_phase g w ≡ false → is_plain (decode g w) ≡ true
unfolding decode is_two_phase event_of
plain_word g w e = go (well_formed g (fields g w))
  where
    go : (b : Bool) → is_plain (cond b (event_of g (fields g w)) none) ≡ true
    go true = plain_kind (fields g w).kind (fields g w) _ e
    go false = refl

module _ (f : Form) where
  -- nothing is prepared
  abbrev pub Free : StateOf f → Type 0
  Free s = f.medium.prepared s.store ≡ none

  -- what is left of an event's store
  after_cut : (whole : StateOf f) (c : Cut f.medium.Store) (b : Bool) → whole.store ≡ c.store → f.medium.prepared c.store ≡ none → Free (concluded whole c b).state
  unfolding concluded down
  after_cut whole c true e k = k
  after_cut whole c false e k = rw e k

  module _ (M : MediumLaws f.geometry f.medium) (s : StateOf f) (F : Free s) where
    pub none-reserved : (r : ℕ) → reserved f s r ≡ false
    unfolding reserved is_some
    none-reserved r = rw (M.free_pending s.store r F)

    pub not-busy : (b : Bool) → (b && busy f s) ≡ false
    unfolding busy is_busy
    not-busy b = rw F (and-false b)

    free_commit : Sound f s → (t k : ℕ) → s.up ≡ true → (l : List ℕ) → Free (commits f s t k l).state
    unfolding commits commits_top commits_child finished endedState passedState
    free_commit S t k up (a ∷ y ∷ l) = F
    free_commit S t k up [] =
        after_cut _ (f.medium.commit s.store (s.version t) k) (f.medium.commit s.store (s.version t) k).crashed refl
        ((M.commit_unmoved s.store (s.version t) k (clear_of f s t (S.calm up) (not-busy (changes f s t)))).same_identity ∙ F)
    free_commit S t k up (a ∷ []) =
        after_cut _ (f.medium.commit s.store (s.version t) k) (f.medium.commit s.store (s.version t) k).crashed refl
        ((M.commit_unmoved s.store (s.version t) k (clear_of f s t (S.calm up) (not-busy (changes f s t)))).same_identity ∙ F)

    free_act : Sound f s → (e : Event) → is_plain (some e) ≡ true → refusal f s e ≡ none → Free (act f s e).state
    unfolding act finished begun locked wrote endedState retaining aborted down recovers raised
    free_act S (begin p) z q = F
    free_act S (lock t r a) z q = F
    free_act S (write t r o v) z q = F
    free_act S (read t r o) z q = F
    free_act S (commit t k) z q = free_commit S t k (commit_ok f s t k q).up (line_of s.bearer t)
    free_act S (abort t w) z q = F
    free_act S crash z q = F
    free_act S (recover k) z q =
        after_cut _ (f.medium.recover s.store k) (f.medium.recover s.store k).crashed refl ((M.recover_unmoved s.store k).same_identity ∙ F)
    free_act S (prepare t k i) z q = absurd (false≢true z)
    free_act S (decide d k i) z q = absurd (false≢true z)
    free_act S (query i) z q = absurd (false≢true z)

    pub step_free : Sound f s → (e : Option Event) → is_plain e ≡ true → Free (step f s e).state
    unfolding step
    step_free S none z = F
    step_free S (some e) z = go (judge_cases f s e)
      where
        go : Judged f s e → Free (step f s (some e)).state
        go (acts q k) = subst⁻¹ (λ (o : OutcomeOf f). Free o.state) k (free_act S e z q)
        go (refuses n q k) = subst⁻¹ (λ (o : OutcomeOf f). Free o.state) k F

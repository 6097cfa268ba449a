-- A yes is true when it is sent: the gateway is up, and its identity is prepared there, or it was a prepare that changed nothing and just committed.
use mathlib.Core.Path.{◌≡◌, refl, ap, subst, subst⁻¹}
use mathlib.Core.Bool.{Bool, true, false, false≢true}
use mathlib.Core.Logic.{◌≢◌, ◌⊎◌, inl, inr}
use mathlib.Core.Option.{Option, none, some}
use Prim.Native.Nat.{ℕ}
use native.Mathlib.Omega.{arith}
use Rattle.laws.specs.Tests.{same}
use Rattle.laws.proofs.Tests.{same_cases, Same, is, isnt, Is, is_cases, yes', no', ne_false}
use Rattle.laws.proofs.Booleans.{clash}
use Rattle.rules.specs.Event.{Event, begin, lock, write, read, commit, abort, crash, recover, prepare, decide, query, decode}
use Rattle.rules.specs.Commit.{Cut}
use Rattle.rules.specs.Form.{Form}
use Rattle.rules.specs.Step.{Answer, done, refused, cut, value_of, is_for, StateOf, OutcomeOf, ended as endedState, concluded, commits_top, act, step}
use Rattle.rules.specs.Sound.{Sound}
use Rattle.rules.proofs.Medium.{MediumLaws}
use Rattle.rules.proofs.Acceptance.{prepare_ok, Judged, acts, refuses, judge_cases}
use Rattle.rules.proofs.Reserved.{for_some}
use Rattle.rules.proofs.Joint.{is_for_lem, query_down, query_prepared, query_another}
use Rattle.depot_agreement.specs.Messages.{Message, order, vote, is_done, reply, News, news, prepare_news, taken_by}
use Rattle.depot_agreement.proofs.Table.{none-some}
use Rattle.depot_agreement.proofs.Follows.{Follows, follows_word}

-- whose vote a message is, and what it says
abbrev voter : Option Message → ℕ
voter none = 0
voter (some (order i q)) = 0
voter (some (vote i b)) = i

abbrev voted : Option Message → Bool
voted none = false
voted (some (order i q)) = false
voted (some (vote i b)) = b

-- only a prepare that is done and a query with value 1 say yes
abbrev Said : Event → Answer → ℕ → Type 0
Said e a i = ((t k : ℕ) × (e ≡ prepare t k i) × (is_done a ≡ true)) ⊎ ((e ≡ query i) × (same (value_of a) 1 ≡ true))

says : (e : Event) (a : Answer) (i : ℕ) → reply (some e) a ≡ some (vote i true) → Said e a i
unfolding reply
says (begin p) a i h = none-some h
says (lock t r m) a i h = none-some h
says (write t r o v) a i h = none-some h
says (read t r o) a i h = none-some h
says (commit t k) a i h = none-some h
says (abort t w) a i h = none-some h
says crash a i h = none-some h
says (recover k) a i h = none-some h
says (prepare t k j) a i h = inl (t, k, ap (prepare t k) (ap voter h), ap voted h)
says (decide d k j) a i h = none-some h
says (query j) a i h = inr (ap query (ap voter h), ap voted h)

-- a bad event says nothing
silent : (a : Answer) (i : ℕ) → reply none a ≡ some (vote i true) → ⊥
unfolding reply
silent a i h = none-some h

module _ (f : Form) (M : MediumLaws f.geometry f.medium) {s : StateOf f} (S : Sound f s) where
  -- what a yes on this event means of what it left
  abbrev Holds : Option Event → ℕ → OutcomeOf f → Type 0
  Holds e i o = (o.state.up ≡ true) × ((f.medium.prepared o.state.store ≡ some i) ⊎ ((t k : ℕ) × (e ≡ some (prepare t k i)) × (value_of o.answer ≡ 0)))

  -- a prepare that is done leaves the gateway up
  done_up : (t k i : ℕ) → is_done (step f s (some (prepare t k i))).answer ≡ true → (step f s (some (prepare t k i))).state.up ≡ true
  done_up t k i h = go (judge_cases f s (prepare t k i))
    where
      c : Cut f.medium.Store
      c = f.medium.prepare s.store (s.version t) i k

      whole : s.up ≡ true → (b : Bool) → is_done (concluded (endedState s (λ j. same j t) c.store) c b).answer ≡ true → (concluded (endedState s (λ j. same j t) c.store) c b).state.up ≡ true
      whole up true d = absurd (unfold is_done concluded in false≢true d)
      whole up false d = unfold concluded endedState in up

      go : Judged f s (prepare t k i) → (step f s (some (prepare t k i))).state.up ≡ true
      go (acts q e) =
          subst⁻¹ (λ (o : OutcomeOf f). o.state.up ≡ true) e
          (unfold act commits_top in whole (prepare_ok f s t k i q).as_commit.up c.crashed (subst (λ (o : OutcomeOf f). is_done o.answer ≡ true) e h))
      go (refuses n q e) = absurd (unfold is_done in false≢true (subst (λ (o : OutcomeOf f). is_done o.answer ≡ true) e h))

  -- what is prepared then, by the page writes made
  taken_or_not : (t k i : ℕ) (a : Answer) (o o' : Option ℕ) → is_done a ≡ true → Follows o (news (some (prepare t k i)) a) o' → (o' ≡ some i) ⊎ (value_of a ≡ 0)
  unfolding news prepare_news taken_by is_done value_of
  taken_or_not t k i (refused n) o o' d F = absurd (false≢true d)
  taken_or_not t k i (cut v) o o' d F = absurd (false≢true d)
  taken_or_not t k i (done v) o o' d F = go (same_cases v 0)
    where
      go : Same v 0 → (o' ≡ some i) ⊎ (value_of (done v) ≡ 0)
      go (is n z _) = inr n
      go (isnt n z _) = inl (subst (λ (t : News). Follows o t o') (ap (taken_by i) z) F)

  query_holds : (i : ℕ) → same (value_of (step f s (some (query i))).answer) 1 ≡ true → Holds (some (query i)) i (step f s (some (query i)))
  query_holds i h = go (is_cases s.up) (is_cases (is_for i (f.medium.prepared s.store)))
    where
      zero_no : {A : Type 0} → same 0 1 ≡ true → A
      zero_no e = clash e (ne_false 0 1 (λ q. omega (arith, q)))

      for_not : is_for i (f.medium.prepared s.store) ≡ false → f.medium.prepared s.store ≢ some i
      for_not n q = clash (is_for_lem i (f.medium.prepared s.store) q) n

      go : Is s.up → Is (is_for i (f.medium.prepared s.store)) → Holds (some (query i)) i (step f s (some (query i)))
      go (no' d) n = zero_no (unfold value_of in (subst (λ (o : OutcomeOf f). same (value_of o.answer) 1 ≡ true) (query_down f s i d) h))
      go (yes' u) (no' n) = zero_no (unfold value_of in (subst (λ (o : OutcomeOf f). same (value_of o.answer) 1 ≡ true) (query_another f s u i (for_not n)) h))
      go (yes' u) (yes' n) = let p = for_some i (f.medium.prepared s.store) n in subst⁻¹ (λ (o : OutcomeOf f). Holds (some (query i)) i o) (query_prepared f s u i p) (u, inl p)

  -- of every event word
  pub yes_holds : (x i : ℕ) → let e = decode f.geometry x in let o = step f s e in reply e o.answer ≡ some (vote i true) → Holds e i o
  yes_holds x i h = go (decode f.geometry x) refl h
    where
      go : (e : Option Event) → decode f.geometry x ≡ e → reply e (step f s e).answer ≡ some (vote i true) → Holds e i (step f s e)
      go none q h = absurd (silent _ i h)
      go (some e) q h = each (says e (step f s (some e)).answer i h)
        where
          F : Follows (f.medium.prepared s.store) (news (some e) (step f s (some e)).answer) (f.medium.prepared (step f s (some e)).state.store)
          F = subst (λ (d : Option Event). Follows (f.medium.prepared s.store) (news d (step f s d).answer) (f.medium.prepared (step f s d).state.store)) q (follows_word f M S x)

          each : Said e (step f s (some e)).answer i → Holds (some e) i (step f s (some e))
          each (inr (z, v)) = subst⁻¹ (λ (d : Event). Holds (some d) i (step f s (some d))) z (query_holds i (subst (λ (d : Event). same (value_of (step f s (some d)).answer) 1 ≡ true) z v))
          each (inl (t, k, z, d)) =
              let done : is_done (step f s (some (prepare t k i))).answer ≡ true = subst (λ (y : Event). is_done (step f s (some y)).answer ≡ true) z d in
              let G = subst (λ (y : Event). Follows (f.medium.prepared s.store) (news (some y) (step f s (some y)).answer) (f.medium.prepared (step f s (some y)).state.store)) z F in
              subst⁻¹ (λ (y : Event). Holds (some y) i (step f s (some y))) z (done_up t k i done, either t k (taken_or_not t k i (step f s (some (prepare t k i))).answer _ _ done G))
            where
              either : (t k : ℕ) → let o = step f s (some (prepare t k i)) in (f.medium.prepared o.state.store ≡ some i) ⊎ (value_of o.answer ≡ 0)
                  → (f.medium.prepared o.state.store ≡ some i) ⊎ ((t' k' : ℕ) × (some (prepare t k i) ≡ some (prepare t' k' i)) × (value_of o.answer ≡ 0))
              either t k (inl p) = inl p
              either t k (inr v) = inr (t, k, refl, v)

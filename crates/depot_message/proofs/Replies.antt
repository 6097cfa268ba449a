-- The vote on an event and its answer is the reply of which the agreement speaks, for every answer that the rules give to an event; a bad event
-- never has a yes.
use mathlib.Core.Path.{◌≡◌, refl, ap, subst⁻¹, ◌∙◌}
use mathlib.Core.Bool.{false, ◌&&◌, and-false}
use mathlib.Core.Option.{none, some}
use Prim.Native.Nat.{ℕ, ◌≤◌}
use native.Mathlib.Omega.{arith}
use Rattle.laws.specs.Tests.{same, open_tests}
use Rattle.laws.proofs.Tests.{ne_false, same_refl}
use Rattle.rules.specs.Event.{Event, begin, lock, write, read, commit, abort, crash, recover, prepare, decide, query, Fields, fields, decode}
use Rattle.rules.specs.Form.{Form}
use Rattle.rules.specs.Step.{Answer, done, refused, cut, number_of, value_of, StateOf, OutcomeOf, finished, act, step}
use Rattle.rules.proofs.Event.{fields_of, decode_fields}
use Rattle.rules.proofs.Acceptance.{refused_number, Judged, acts, refuses, judge_cases}
use Rattle.depot_agreement.specs.Messages.{is_done, reply}
use Rattle.depot_message.specs.Votes.{said, vote_on, is_yes, vote_code}
use Rattle.depot_message.proofs.Votes.{on_prepare, on_query, on_other}

-- an answer whose number is not 0 where it is a refusal
abbrev Numbered : Answer → Type 0
Numbered a = (n : ℕ) → a ≡ refused n → 1 ≤ n

done_number : (a : Answer) → Numbered a → same (number_of a) 0 ≡ is_done a
unfolding number_of is_done
done_number (done v) h = same_refl 0
done_number (refused n) h = let k = h n refl in ne_false n 0 (λ e. omega (arith, k, e))
done_number (cut v) h = ne_false 11 0 (λ e. omega (arith, e))

-- an event that is not cut
abbrev Uncut : Answer → Type 0
Uncut (done v) = Unit {0}
Uncut (refused n) = Unit {0}
Uncut (cut v) = ⊥

held_value : (a : Answer) → Numbered a → Uncut a → (same (number_of a) 0 && same (value_of a) 1) ≡ same (value_of a) 1
unfolding number_of value_of
held_value (done v) h u = rw (same_refl 0)
held_value (refused n) h u = let k = h n refl in rw (ne_false n 0 (λ e. omega (arith, k, e)), ne_false 0 1 (λ e. omega (arith, e)))
held_value (cut v) h u = absurd u

module _ (f : Form) (s : StateOf f) where
  query_uncut : (i : ℕ) → Uncut (step f s (some (query i))).answer
  query_uncut i = go (judge_cases f s (query i))
    where
      acted : Uncut (act f s (query i)).answer
      acted = unfold act finished in tt

      go : Judged f s (query i) → Uncut (step f s (some (query i))).answer
      go (acts r k) = subst⁻¹ (λ (o : OutcomeOf f). Uncut o.answer) k acted
      go (refuses n r k) = subst⁻¹ (λ (o : OutcomeOf f). Uncut o.answer) k tt

  numbered : (e : Event) → Numbered (step f s (some e)).answer
  numbered e n q = (refused_number f s (some e) n q).0

  by_event : (e : Event) → let a = (step f s (some e)).answer in vote_on (fields_of f.geometry e).kind (number_of a) (value_of a) ≡ vote_code (reply (some e) a)
  unfolding fields_of reply vote_code
  by_event (begin p) = on_other 1 _ _ (λ e. omega (arith, e)) (λ e. omega (arith, e))
  by_event (lock t r m) = on_other 2 _ _ (λ e. omega (arith, e)) (λ e. omega (arith, e))
  by_event (write t r o v) = on_other 3 _ _ (λ e. omega (arith, e)) (λ e. omega (arith, e))
  by_event (read t r o) = on_other 4 _ _ (λ e. omega (arith, e)) (λ e. omega (arith, e))
  by_event (commit t k) = on_other 5 _ _ (λ e. omega (arith, e)) (λ e. omega (arith, e))
  by_event (abort t w) = on_other 6 _ _ (λ e. omega (arith, e)) (λ e. omega (arith, e))
  by_event crash = on_other 7 _ _ (λ e. omega (arith, e)) (λ e. omega (arith, e))
  by_event (recover k) = on_other 8 _ _ (λ e. omega (arith, e)) (λ e. omega (arith, e))
  by_event (prepare t k i) = on_prepare 9 _ _ refl ∙ ap said (done_number _ (numbered (prepare t k i)))
  by_event (decide d k i) = on_other 10 _ _ (λ e. omega (arith, e)) (λ e. omega (arith, e))
  by_event (query i) = on_query 11 _ _ refl ∙ ap said (held_value _ (numbered (query i)) (query_uncut i))

  -- of every event word
  pub vote_replies : (x : ℕ) (e : Event) → decode f.geometry x ≡ some e → let a = (step f s (some e)).answer in
      vote_on (fields f.geometry x).kind (number_of a) (value_of a) ≡ vote_code (reply (some e) a)
  vote_replies x e h =
      let a = (step f s (some e)).answer in
      ap (λ (k : Fields). vote_on k.kind (number_of a) (value_of a)) (decode_fields f.geometry x e h) ∙ by_event e

  pub bad_never_yes : (kind : ℕ) → let a = (step f s none).answer in is_yes kind (number_of a) (value_of a) ≡ false
  unfolding step number_of value_of is_yes open_tests
  bad_never_yes kind = rw (and-false (same kind 9), and-false (same kind 11)) refl

-- The record number is checked; then the event is lock, write or read by its kind.
use mathlib.Core.Path.{sym, ap, ap₂, subst⁻¹, ◌∙◌}
use Prim.Native.Nat.{ℕ, ◌+◌, ◌≤◌}
use native.Mathlib.Omega.{arith}
use mathlib.Core.Option.{some}
use Rattle.laws.specs.Tests.{same}
use Rattle.rules.specs.Event.{Access, lock, write, read, access_of}
use Rattle.leaf_event.proofs.Meaning.{means_lock, means_write, means_read}
use Rattle.leaf_number.specs.Named.{transaction_of, record_of}
use Rattle.state_whole.proofs.Steps.{retold}
use Rattle.state_array.proofs.Modes.{access_is}
use Rattle.rules.specs.Editions.{geometry_of, form_in}
use Rattle.leaf_commit_page.proofs.Places.{laid}
use Rattle.engine_step.proofs.Lengths.{home_is, calm_of}
use Rattle.engine_step.proofs.ByKind.{from_rest}
use borrow.Author.Rules.{rules}
use Rattle.engine_step.proofs.record_event.Goals as goal

pub write_event-requires : goal.write_event-requires
write_event-requires g c =
    (search rules, (c.requires.sized, (c.requires.event.5, ((c.requires.event.4, subst⁻¹ (λ (m : ℕ). c.home_at.result + 32 ≤ m) c.requires.pages.1 c.home_at.ensures.1), (c.requires.pages.0, (c.requires.lives, c.requires.sources))))))

pub read_event-requires : goal.read_event-requires
read_event-requires g c =
    (search rules, (c.requires.sized, (c.requires.event.5, ((c.requires.event.4, subst⁻¹ (λ (m : ℕ). c.home_at-in_default.result + 32 ≤ m) c.requires.pages.1 c.home_at-in_default.ensures.1), (c.requires.pages.0, c.requires.sources)))))

pub returns-in-2-clause-stepped : goal.returns-in-2-clause-stepped
unfolding same
returns-in-2-clause-stepped g c =
    let a = c.args in
    let q = c.requires.event in
    λ k joint identity N I R H.
    retold (form_in _ (geometry_of k)) _ _ _ _ _ (means_lock a.e c.in-2.is ∙ ap₂ (λ (t r : ℕ). some (lock t r (access_of a.e.value))) (sym q.0) (sym q.1) ∙ ap (λ (q : Access). some (lock (transaction_of a.t) (record_of a.r) q)) (access_is a.e.value))
    (from_rest (form_in _ (geometry_of k)) _ _ _ _ _ _ _ c.lock_event.ensures.rest (c.lock_event.ensures.does k joint _ _ identity _ _ _ _ _ N H I R))

pub returns-in-3-clause-stepped : goal.returns-in-3-clause-stepped
returns-in-3-clause-stepped g c =
    let e = c.args.e in
    let q = c.requires.event in
    λ k joint identity N I R H.
    retold (form_in _ (geometry_of k)) _ _ _ _ _ (means_write e c.in-3.is ∙ ap₂ (λ (t r : ℕ). some (write t r e.offset e.value)) (sym q.0) (sym q.1))
    (from_rest (form_in _ (geometry_of k)) _ _ _ _ _ _ _ c.write_event.ensures.rest (c.write_event.ensures.does k _ _ _ _ (home_is _ (geometry_of k) (laid k).proper N.torn _ _ _ _ N.many q.5 c.home_at.ensures.0 (calm_of _ (geometry_of k) _ I R)) I R))

pub returns-in_default-clause-stepped : goal.returns-in_default-clause-stepped
returns-in_default-clause-stepped g c =
    let e = c.args.e in
    let q = c.requires.event in
    λ k joint identity N I R H.
    retold (form_in _ (geometry_of k)) _ _ _ _ _ (means_read e (omega arith) ∙ ap₂ (λ (t r : ℕ). some (read t r e.offset)) (sym q.0) (sym q.1))
    (c.read_event.ensures k _ _ _ _ (home_is _ (geometry_of k) (laid k).proper N.torn _ _ _ _ N.many q.5 c.home_at-in_default.ensures.0 (calm_of _ (geometry_of k) _ I R)) I R)

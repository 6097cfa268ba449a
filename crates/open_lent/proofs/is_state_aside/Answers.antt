-- The store that is laid is the fresh one.
use mathlib.Core.Bool.{false}
use mathlib.Core.Path.{◌≡◌, refl, subst}
use mathlib.Core.Logic.{inl}
use mathlib.Core.List.{List}
use Prim.Native.Nat.{ℕ}
use lib.ListN.{replicate, length-replicate}
use Rattle.rules.specs.Editions.{geometry1, edition1, first, work_bytes}
use Rattle.state_whole.specs.declared.State.{State}
use Rattle.state_whole.specs.Lain.{arrays_in}
use Rattle.state_whole.specs.Whole.{Intact}
use Rattle.sound_clause.specs.Decides.{Decides}
use Rattle.engine_portion.specs.Portion.{arrays_of}
use Rattle.leaf_commit_page.proofs.Places.{layout1}
use Rattle.store_record.proofs.Laying.{laid_all}
use borrow.Author.Rules.{rules}
use Rattle.open_lent.proofs.Portions.{first_in}
use Rattle.open_lent.proofs.is_state_aside.Goals as goal

pub lay-requires : goal.lay-requires
lay-requires c = (inl refl, search rules)

pub returns : goal.returns
returns c =
    let lay = c.lay in
    let e = c.args.e in
    subst (λ (s : List ℕ). Decides c.is_state.result (Intact edition1 (arrays_of e (replicate work_bytes 0) s) × (e.spare ≡ replicate 3 0))) (laid_all false geometry1 16 layout1.many (lay.ensures geometry1 layout1))
    (subst (λ (z : State 16 32). Decides c.is_state.result (Intact edition1 (arrays_in z (replicate work_bytes 0) c.lay.new.store) × (e.spare ≡ replicate 3 0))) c.state.ensures (c.is_state.ensures first (replicate work_bytes 0) first_in (length-replicate {A = ℕ} work_bytes 0)))

-- The count as far as the loop is, and the record that it ends at.
use mathlib.Core.Path.{◌≡◌, refl, sym, ap, ◌∙◌}
use mathlib.Core.Bool.{cond}
use Prim.Native.Nat.{◌+◌}
use native.Mathlib.Omega.{arith}
use Rattle.laws.specs.Counting.{count}
use Rattle.rules.specs.Store.{named}
use Rattle.engine_page_write.proofs.Numbered.{picked_at, past_last, named_more}
use Rattle.engine_page_write.proofs.record_at.Goals as goal
use Rattle.engine_page_write.proofs.record_at.Goals.{then-names+else-seen-n, else-names}

pub loop-r-init : goal.loop-r-init
unfolding count
loop-r-init c = (omega arith, omega arith, omega arith, λ g L. refl)

pub returns-then-seen-n : goal.returns-then-seen-n
returns-then-seen-n c =
    let l = c.loop-r in
    λ g L. picked_at (named g c.args.map) c.args.records l.r c.args.n c.args.records (sym (c.names.ensures g L.many) ∙ c.if-names.true) (sym (l.invariant.3 g L) ∙ c.if-seen-n.true) c.loop-r-test.true

pub loop-r-preserved : goal.loop-r-preserved
loop-r-preserved c =
    let l = c.loop-r in
    let h = l.invariant in
    let t = c.loop-r-test.true in
    elim c.if-names.branch [
      | then-names+else-seen-n w ↦
          let s = w.seen-is in
          let ne = w.if-seen-n.false in
          let k = h.1 in
          let m = h.2 in
          (omega arith, omega arith, omega (arith, s, ne, m), λ g L. s ∙ sym (ap (λ b. cond b (l.seen + 1) l.seen) w.if-names.true) ∙ named_more g c.args.map l.r l.seen c.names.result (c.names.ensures g L.many) (h.3 g L))
      | else-names w ↦
          let s = w.seen-is in
          let k = h.1 in
          let m = h.2 in
          (omega arith, omega arith, omega arith, λ g L. s ∙ sym (ap (λ b. cond b (l.seen + 1) l.seen) w.if-names.false) ∙ named_more g c.args.map l.r l.seen c.names.result (c.names.ensures g L.many) (h.3 g L))
    ]

pub returns : goal.returns
returns c =
    let l = c.loop-r in
    let m = l.invariant.2 in
    let e : l.r ≡ c.args.records = omega arith in
    λ g L. past_last (named g c.args.map) c.args.records c.args.n c.args.records (rw (← e, ← l.invariant.3 g L) m)

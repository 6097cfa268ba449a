-- The refusals of a prepare and of a top transaction's commit; then the page writes, what is prepared then, and the end of the transaction.
use mathlib.Core.Path.{sym, subst, ◌∙◌}
use Prim.Native.Nat.{ℕ, ◌<◌, ◌^◌}
use native.Mathlib.Omega.{arith}
use Rattle.laws.specs.Tests.{same}
use Rattle.event_commit.proofs.Commits.{settling_13, settling_27, settling_ends, settling_reserves}
use Rattle.rules.specs.Editions.{geometry_of}
use Rattle.state_whole.proofs.Reserves.{reserves_same}
use Rattle.event_crash.proofs.Editions.{layout_of}
use borrow.Author.Rules.{rules}
use Rattle.event_commit.proofs.settle_top.Goals as goal

pub map_of-map-requires : goal.map_of-map-requires
map_of-map-requires g c =
    let h = c.requires.named.0 in
    (omega arith, rw c.requires.sized.4 c.requires.sized.0)

pub returns-then-map-d-clause-stepped : goal.returns-then-map-d-clause-stepped
unfolding same
returns-then-map-d-clause-stepped g c =
    let r = c.requires.named in
    λ edition N I R n H. (settling_13 _ (geometry_of edition) _ I _ R n _ _ _ (c.map_of-map.ensures.0 _ (N.many ∙ sym c.requires.sized.4)) H c.args.prepares c.args.k c.args.i (λ e. sym r.1 ∙ r.2 e) c.if-map-d.true, H)

pub returns-then-level-ne1-clause-stepped : goal.returns-then-level-ne1-clause-stepped
unfolding same
returns-then-level-ne1-clause-stepped g c =
    let r = c.requires.named in
    λ edition N I R n H. (settling_27 _ (geometry_of edition) _ I _ R n _ _ _ (c.map_of-map.ensures.0 _ (N.many ∙ sym c.requires.sized.4)) H c.args.prepares c.args.k c.args.i (λ e. sym r.1 ∙ r.2 e) c.if-map-d.false (λ e. c.if-level-ne1.true (r.1 ∙ e)), H)

pub write_pages-m-requires : goal.write_pages-m-requires
write_pages-m-requires g c =
    let k = c.requires.known in
    (k.0, λ e. k.1 (k.3 e), λ e. k.2 (k.3 e), subst (λ (k : ℕ). c.map_of-map.result < 2 ^ k) c.requires.sized.4 c.map_of-map.ensures.1, c.requires.pages.1, c.requires.pages.0)

pub returns-clause-stepped : goal.returns-clause-stepped
unfolding same
returns-clause-stepped g c =
    let r = c.requires.named in
    let p = c.end_top.ensures.prepared in
    λ edition N I R n H.
    let G = layout_of edition _ _ _ N in
    let V = c.map_of-map.ensures.0 _ (N.many ∙ sym c.requires.sized.4) in
    let ends = settling_ends _ (geometry_of edition) _ I _ R n _ _ _ V H c.args.prepares c.args.k c.args.i c.if-map-d.false (sym r.1 ∙ c.if-level-ne1.false) in
    let T = c.end_top.ensures.stepped edition _ _ _ _ _ _ I R n ends (c.write_pages-m.ensures _ G) (search rules) in
    (T, reserves_same _ (geometry_of edition) _ _ _ _ _ (settling_reserves _ (geometry_of edition) _ I _ R n _ _ _ V H G.proper N.torn _ _ c.args.prepares c.args.k c.args.i _ _ T (c.reread.ensures.reserves.0 edition N) c.reread.ensures.reserves.1) p.0 p.1)

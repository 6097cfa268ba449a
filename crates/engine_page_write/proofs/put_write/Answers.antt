-- The page's number first, then the copy's where pages tear, then the page.
use mathlib.Core.Path.{◌≡◌, sym, ap, ◌∙◌}
use Prim.Native.Nat.{◌%◌, ◌≤◌}
use native.Mathlib.Omega.{arith}
use lib.ListN.{length, set, length-set}
use Rattle.engine_page_write.proofs.Numbered.{at_least, sized_copy, sized_page, put_copy, put_whole, bytes_long}
use borrow.Author.Rules.{rules}
use Rattle.engine_page_write.proofs.put_write.Goals as goal

pub bounds-write-0 : goal.bounds-write-0
bounds-write-0 c =
    at_least c.args.tears c.args.write.now c.requires

pub bounds-write-1 : goal.bounds-write-1
bounds-write-1 c =
    let a = c.args in
    let e = sized_copy a.tears a.write.now c.if-tears.true c.requires in
    let z = length-set a.write.now 0 a.number in
    omega (arith, e, z)

pub slice_bounds-write_page-end : goal.slice_bounds-write_page-end
slice_bounds-write_page-end c =
    let a = c.args in
    let l = set a.write.now 0 a.number in
    let e = sized_copy a.tears a.write.now c.if-tears.true c.requires in
    let z : length (set l 1 (a.index % 2)) ≡ 34 = length-set l 1 (a.index % 2) ∙ length-set a.write.now 0 a.number ∙ e in
    let h : 34 ≤ length (set l 1 (a.index % 2)) = omega (arith, z) in
    h

pub shape_of-write-then-tears : goal.shape_of-write-then-tears
shape_of-write-then-tears c =
    let if1 = c.if-tears in
    let a = c.args in
    let sized : length a.page ≡ 32 = search rules in
    ap length (put_copy a.tears a.write.now c.write_page.new.part a.page a.index a.number if1.true c.requires c.write_page.ensures) ∙ bytes_long a.tears a.index a.number a.page sized ∙ sym c.requires

pub returns-then-tears : goal.returns-then-tears
returns-then-tears c =
    let if1 = c.if-tears in
    let a = c.args in
    put_copy a.tears a.write.now c.write_page.new.part a.page a.index a.number if1.true c.requires c.write_page.ensures

pub slice_bounds-write_page-end-2 : goal.slice_bounds-write_page-end-2
slice_bounds-write_page-end-2 c =
    let a = c.args in
    let e : length (set a.write.now 0 a.number) ≡ 33 = length-set a.write.now 0 a.number ∙ sized_page a.tears a.write.now c.if-tears.false c.requires in
    let h : 33 ≤ length (set a.write.now 0 a.number) = omega (arith, e) in
    h

pub shape_of-write : goal.shape_of-write
shape_of-write c =
    let if1 = c.if-tears in
    let a = c.args in
    let sized : length a.page ≡ 32 = search rules in
    ap length (put_whole a.tears a.write.now c.write_page-2.new.part a.page a.index a.number if1.false c.requires c.write_page-2.ensures) ∙ bytes_long a.tears a.index a.number a.page sized ∙ sym c.requires

pub returns : goal.returns
returns c =
    let if1 = c.if-tears in
    let a = c.args in
    put_whole a.tears a.write.now c.write_page-2.new.part a.page a.index a.number if1.false c.requires c.write_page-2.ensures

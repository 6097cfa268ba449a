-- The loop's invariant: the number of the bytes that are read.
use borrow.Author.Rules.{rules}
use mathlib.Core.Path.{◌≡◌, refl, ap, ap₂, ◌∙◌}
use Prim.Native.Nat.{ℕ, ◌+◌, ◌*◌, ◌-◌}
use native.Mathlib.Omega.{arith}
use lib.ListN.{length, take, drop, length-drop}
use Rattle.std.proofs.lemmas.List.{length-take-le, take_all}
use Rattle.laws.specs.Bytes.{number, number_from}
use Rattle.leaf_commit_page.proofs.Places.{number_next, room, bound_next}
use Rattle.leaf_commit_page.proofs.map_in.Goals as goal

pub loop-byte-init : goal.loop-byte-init
unfolding number number_from
loop-byte-init c = (refl, omega arith)

pub overflow_mul-map : goal.overflow_mul-map
overflow_mul-map c = let l = c.loop-byte in let r = room l.byte-index (omega arith) in omega arith

pub overflow_add-map : goal.overflow_add-map
overflow_add-map c = let l = c.loop-byte in let r = room l.byte-index (omega arith) in omega arith

pub loop-byte-preserved : goal.loop-byte-preserved
loop-byte-preserved c =
    let l = c.loop-byte in
    let items = take (1 + c.args.m - 1) (drop 1 c.args.page) in (
      ap₂ (λ (x y : ℕ). x * 256 + y) l.invariant.0 c.from.ensures ∙ number_next l.byte-index items c.loop-byte-test.true,
      bound_next l.map c.from.result l.byte-index l.invariant.1 (search rules),
    )

pub returns : goal.returns
returns c =
    let l = c.loop-byte in
    let n = c.args.m in
    let rest = drop 1 c.args.page in
    let one : 1 + n - 1 ≡ n = omega arith in
    let many : length (take (1 + n - 1) rest) ≡ n = ap (λ (k : ℕ). length (take k rest)) one ∙ length-take-le n rest (omega (arith, length-drop 1 c.args.page)) in
    let all : l.byte-index ≡ n = omega (arith, many) in
    let items : take l.byte-index (take (1 + n - 1) rest) ≡ take n rest = take_all _ (take (1 + n - 1) rest) c.loop-byte-test.false ∙ ap (λ (k : ℕ). take k rest) one in
    (l.invariant.0 ∙ ap number items, rw (← all) l.invariant.1)

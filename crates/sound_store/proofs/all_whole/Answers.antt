-- So far each one is.
use mathlib.Core.Path.{◌≡◌, refl, ap, ap₂, ◌∙◌}
use mathlib.Core.Bool.{Bool, ◌&&◌}
use Prim.Native.Nat.{ℕ}
use native.Mathlib.Omega.{arith}
use borrow.Author.Rules.{rules}
use Rattle.laws.specs.Counting.{all}
use Rattle.laws.proofs.All.{all_next}
use Rattle.rules.specs.Pairs.{pairs_of, is_whole}
use Rattle.sound_store.proofs.all_whole.Goals as goal

pub loop-n-init : goal.loop-n-init
unfolding all
loop-n-init c = (search rules, refl)

pub loop-n-preserved : goal.loop-n-preserved
loop-n-preserved c =
    let a = c.args in
    let l = c.loop-n in
    let p : ℕ → Bool = λ k. is_whole (pairs_of a.bytes.now k) in
    (search rules, ap₂ (λ (x y : Bool). x && y) l.invariant.1 c.is_whole-whole.ensures ∙ all_next l.n p)

pub returns : goal.returns
returns c =
    let a = c.args in
    let l = c.loop-n in
    let e : l.n ≡ a.pages = omega arith in
    l.invariant.1 ∙ ap (λ (n : ℕ). all n (λ k. is_whole (pairs_of a.bytes.now k))) e

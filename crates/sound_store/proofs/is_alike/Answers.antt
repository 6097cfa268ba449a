-- So far the two pages are the same at each place.
use mathlib.Core.Path.{◌≡◌, refl, ap, ◌∙◌}
use mathlib.Core.Bool.{Bool, ◌&&◌}
use Prim.Native.Nat.{ℕ, ◌+◌, ◌*◌}
use native.Mathlib.Omega.{arith}
use lib.ListN.{get_or}
use Rattle.laws.specs.Tests.{same}
use borrow.Author.Rules.{rules}
use Rattle.laws.specs.Counting.{all}
use Rattle.laws.proofs.All.{all_next}
use Rattle.sound_store.proofs.Copies.{alike_is}
use Rattle.sound_store.proofs.is_alike.Goals as goal

pub loop-i-init : goal.loop-i-init
unfolding all
loop-i-init c = (search rules, refl)

pub loop-i-preserved : goal.loop-i-preserved
unfolding same
loop-i-preserved c =
    let a = c.args in
    let l = c.loop-i in
    let p : ℕ → Bool = λ k. same (get_or a.bytes.now (66 * a.n + 1 + k) 0) (get_or a.bytes.now (66 * a.n + 33 + 1 + k) 0) in
    (search rules, ap (λ (b : Bool). b && p l.i) l.invariant.1 ∙ all_next l.i p)

pub returns : goal.returns
returns c =
    let a = c.args in
    let l = c.loop-i in
    let e : l.i ≡ 32 = omega arith in
    l.invariant.1 ∙ ap (λ (m : ℕ). all m (λ (k : ℕ). same (get_or a.bytes.now (66 * a.n + 1 + k) 0) (get_or a.bytes.now (66 * a.n + 33 + 1 + k) 0))) e
    ∙ alike_is a.bytes.now a.n c.requires.1

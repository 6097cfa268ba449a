-- The sets of children, without that of the top transactions.
use mathlib.Core.Path.{◌≡◌, ap, ◌∙◌}
use mathlib.Core.List.{List}
use native.Mathlib.Omega.{arith}
use Prim.Native.Nat.{ℕ}
use lib.ListN.{length, take, get_or}
use lib.Seq.{get_or-take, length-take-le}
use Rattle.std.proofs.lemmas.Grind.{common_steps}
use Rattle.wait_graph.proofs.Reaching.{children_are}
use Rattle.wait_graph.proofs.to_children.Goals as goal

pub returns : goal.returns
returns c =
    let a = c.args in
    let k = c.children_of-children in
    let copied : c.copy_from_slice.new.self ≡ take 24 k.result = grind (arith, common_steps) in
    let long : length c.copy_from_slice.new.self ≡ 24 = ap (λ (l : List ℕ). length l) copied ∙ length-take-le 24 k.result (let n = k.ensures.0 in omega arith) in
    record {
      are = children_are c.copy_from_slice.new.self k.result a.parent.now a.depth.now long
          (λ j h. ap (λ (l : List ℕ). get_or l j 0) copied ∙ get_or-take 24 k.result j 0 h) k.ensures.1;
      long = long;
    }

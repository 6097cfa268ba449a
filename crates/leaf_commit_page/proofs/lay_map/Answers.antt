-- The last m of the number's eight bytes stand behind the first.
use mathlib.Core.Path.{◌≡◌, ap, ap₂, ◌∙◌}
use mathlib.Core.List.{List, ◌∷◌, ◌++◌}
use Prim.Native.Nat.{ℕ, ◌+◌, ◌-◌}
use native.Mathlib.Omega.{arith}
use lib.ListN.{take, drop, replicate}
use Rattle.std.proofs.lemmas.List.{take_all, drop-replicate}
use Rattle.laws.specs.Bytes.{bytes}
use Rattle.laws.proofs.Bytes.{bytes-length}
use Rattle.leaf_commit_page.proofs.Places.{last_bytes}
use Rattle.leaf_commit_page.proofs.lay_map.Goals as goal

pub returns : goal.returns
returns c =
    let m = c.args.m in
    let x = c.args.map in
    let few : 8 - (8 - m) ≡ m = omega (arith, c.requires) in
    let one : 1 + m - 1 ≡ m = omega arith in
    let laid : c.copy_from_slice.new.self ≡ bytes m x =
    c.copy_from_slice.ensures.after
    ∙ ap₂ (λ (k : ℕ) (l : List ℕ). take k (drop (8 - m) l)) few c.to_be_bytes-spelled.ensures
    ∙ ap (take m) (last_bytes m x c.requires)
    ∙ take_all m (bytes m x) (omega (arith, bytes-length m x)) in
    ap₂ (λ (l : List ℕ) (k : ℕ). 0 ∷ (l ++ drop k (replicate 31 0))) laid one
    ∙ ap (λ (l : List ℕ). 0 ∷ (bytes m x ++ l)) (drop-replicate m 31 0)

-- A page with the map's two bytes, and three more bytes set.
use mathlib.Core.Path.{sym, ap, subst, ◌∙◌}
use mathlib.Core.List.{List, ◌∷◌, ◌++◌}
use Prim.Native.Nat.{ℕ, ◌*◌, ◌^◌, ◌<◌}
use native.Mathlib.Omega.{arith}
use lib.ListN.{set, replicate}
use Rattle.laws.specs.Bytes.{bytes}
use Rattle.leaf_commit_page.proofs.Places.{prepared-set, prepared_bytes}
use Rattle.leaf_commit_page.proofs.prepared_page.Goals as goal

pub overflow_mul-held : goal.overflow_mul-held
overflow_mul-held c = let h = c.ones.ensures.1 16 c.requires in omega arith

pub returns : goal.returns
returns c =
    let a = c.args in
    λ g L.
    ap (λ (l : List ℕ). set (set (set l 0 19) 3 (c.ones.result * 8)) 4 a.identity) c.lay_map-held.ensures
    ∙ prepared-set a.map 19 (c.ones.result * 8) a.identity
    ∙ ap (λ (o : ℕ). 19 ∷ (bytes 2 a.map ++ (o * 8 ∷ a.identity ∷ replicate 27 0))) (c.ones.ensures.0 g (subst (λ (k : ℕ). a.map < 2 ^ k) (sym L.many) c.requires))
    ∙ sym (prepared_bytes g a.map a.identity L c.requires (omega arith))

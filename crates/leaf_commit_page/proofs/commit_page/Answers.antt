-- A page with the map's bytes, and then the first byte and the count's.
use mathlib.Core.Path.{sym, ap₂, subst, ◌∙◌}
use mathlib.Core.List.{List, ◌∷◌, ◌++◌}
use Prim.Native.Nat.{ℕ, ◌+◌, ◌*◌, ◌/◌, ◌-◌, ◌<◌, ◌^◌}
use native.Mathlib.Nat.{lt_of_le_of_lt}
use native.Mathlib.Omega.{arith}
use lib.ListN.{set, replicate}
use mathlib.Core.Bool.{cond}
use Rattle.laws.specs.Tests.{same}
use Rattle.laws.specs.Bytes.{bytes}
use Rattle.leaf_commit_page.specs.Layout.{head_of}
use Rattle.leaf_commit_page.proofs.Places.{known_small, count_fits, page_set, page_bytes, laid_out}
use Rattle.leaf_commit_page.proofs.commit_page.Goals as goal

pub overflow_mul-page : goal.overflow_mul-page
overflow_mul-page c =
    let few = c.ones.ensures.1 c.args.n (lt_of_le_of_lt (omega arith) c.requires.1) in
    let fits = count_fits c.args.n c.ones.result c.place.result c.requires.0 few c.place.ensures.0 in
    omega arith

pub returns : goal.returns
unfolding laid_out
returns c =
    let lay_map = c.lay_map-page in
    let a = c.args in
    let hd : ℕ = head_of a.n + cond (same a.map 0) 0 5 in
    let x : ℕ = c.ones.result * c.place.result in
    λ g L.
    ap₂ (λ (l : List ℕ) (h : ℕ). set (set l 0 h) (a.n / 8 + 1) x) lay_map.ensures c.head.ensures
    ∙ page_set a.n a.map hd x (known_small a.n c.requires.0).0
    ∙ ap₂ (λ (o k : ℕ). hd ∷ (bytes (a.n / 8) a.map ++ (o * k ∷ replicate (30 - a.n / 8) 0)))
    (c.ones.ensures.0 g (subst (λ (k : ℕ). a.map < 2 ^ k) (sym L.many) c.requires.1)) c.place.ensures.0
    ∙ sym (page_bytes g a.n a.map L c.requires.0 c.requires.1)

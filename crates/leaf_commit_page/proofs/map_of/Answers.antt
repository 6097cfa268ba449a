-- The loop's invariant: the map of the records before this word.
use mathlib.Core.Path.{◌≡◌, refl, sym, ap, ap₂, subst, ◌∙◌}
use mathlib.Core.Bool.{Bool, cond}
use Prim.Native.Nat.{ℕ, ◌+◌, ◌*◌, ◌^◌, ◌<◌}
use native.Mathlib.Omega.{arith}
use lib.ListN.{length}
use Rattle.leaf_set.specs.Sets.{sets}
use Rattle.rules.specs.Store.{bits_from, map_of}
use Rattle.rules.proofs.Map.{bits-lt}
use Rattle.leaf_commit_page.proofs.Maps.{map_room, map_next}
use Rattle.leaf_commit_page.proofs.map_of.Goals as goal

pub loop-word-init : goal.loop-word-init
unfolding bits_from
loop-word-init c = (c.requires.1, refl)

pub appended-map-requires : goal.appended-map-requires
appended-map-requires c =
    let l = c.loop-word in
    let a = c.args in
    omega (arith, l.invariant.1, map_room l.word-index (λ (r : ℕ). sets a.words.now r a.t) (omega arith))

pub loop-word-preserved : goal.loop-word-preserved
unfolding sets
loop-word-preserved c =
    let l = c.loop-word in
    let a = c.args in (
      l.invariant.0,
      c.appended-map.ensures ∙ ap₂ (λ (x : ℕ) (b : Bool). x * 2 + cond b 1 0) l.invariant.1 c.contains.ensures ∙ map_next l.word-index (λ (r : ℕ). sets a.words.now r a.t),
    )

pub returns : goal.returns
unfolding map_of
returns c =
    let l = c.loop-word in
    let a = c.args in
    let n = length a.words.now in
    let p : ℕ → Bool = λ r. sets a.words.now r a.t in
    let e : l.word-index ≡ n = omega arith in
    let q = l.invariant.1 ∙ ap (λ (k : ℕ). bits_from k p) e in
    (λ g z. q ∙ ap (λ (k : ℕ). bits_from k p) (sym z), subst (λ (x : ℕ). x < 2 ^ n) (sym q) (bits-lt n p))

-- The pair is lent, torn, and put back in its place.
use borrow.Author.Rules.{rules}
use mathlib.Core.Path.{◌≡◌, ap, ◌∙◌}
use mathlib.Core.List.{List, ◌++◌}
use Prim.Native.Nat.{ℕ, ◌+◌, ◌*◌, ◌-◌}
use native.Mathlib.Omega.{arith}
use Rattle.laws.specs.Functions.{updated}
use lib.ListN.{length, take, drop, length-drop}
use lib.Seq.{length-take-le}
use Rattle.leaf_page.proofs.Pages.{put_at}
use Rattle.rules.specs.Pairs.{Pair, torn, pair_in, pair_bytes, pairs_of}
use Rattle.rules.proofs.PairBytes.{in_bytes, torn_paired}
use Rattle.store_pair.proofs.Copies.{pairs_put, pair_long, paired_in}
use Rattle.store_pair.proofs.tear_page.Goals as goal

pub returns : goal.returns
unfolding pairs_of
returns c =
    let a = c.args in
    let s = a.bytes.now in
    let sized : length a.page ≡ 32 = search rules in
    let old = take 66 (drop (66 * a.n) s) in
    let long : length old ≡ 66 = length-take-le 66 (drop (66 * a.n) s) (let e = length-drop (66 * a.n) s in omega arith) in
    let size : 66 * a.n + 66 - 66 * a.n ≡ 66 = omega arith in
    let T = torn_paired a.way a.page (pair_in old) sized (paired_in old long) in
    ap pairs_of (put_at (66 * a.n) 66 s c.tear_pair.new.part ∙ ap (λ (p : List ℕ). take (66 * a.n) s ++ (p ++ drop (66 * a.n + 66) s)) (c.tear_pair.ensures ∙ ap (λ (k : ℕ). pair_bytes (torn a.way a.page (pair_in (take k (drop (66 * a.n) s))))) size))
    ∙ pairs_put a.n (pair_bytes (torn a.way a.page (pair_in old))) s (pair_long (torn a.way a.page (pair_in old)) T) (omega arith)
    ∙ ap (λ (q : Pair). updated a.n q (pairs_of s)) (in_bytes (torn a.way a.page (pair_in old)) T.one)

-- The pair is lent, written whole, and put back in its place.
use borrow.Author.Rules.{rules}
use mathlib.Core.Path.{◌≡◌, ap, ◌∙◌}
use mathlib.Core.List.{List, ◌++◌}
use Prim.Native.Nat.{ℕ, ◌+◌, ◌*◌}
use native.Mathlib.Omega.{arith}
use Rattle.laws.specs.Functions.{updated}
use lib.ListN.{length, take, drop}
use Rattle.leaf_page.proofs.Pages.{put_at}
use Rattle.rules.specs.Pairs.{Pair, whole, pair_bytes, pairs_of}
use Rattle.rules.proofs.PairBytes.{in_bytes, whole_paired}
use Rattle.store_pair.proofs.Copies.{pairs_put, pair_long}
use Rattle.store_pair.proofs.put_pair.Goals as goal

pub returns : goal.returns
returns c =
    let a = c.args in
    let s = a.bytes.now in
    let sized : length a.page ≡ 32 = search rules in
    let W = whole_paired a.page sized in
    ap pairs_of (put_at (66 * a.n) 66 s c.write_pair.new.part ∙ ap (λ (p : List ℕ). take (66 * a.n) s ++ (p ++ drop (66 * a.n + 66) s)) c.write_pair.ensures)
    ∙ pairs_put a.n (pair_bytes (whole a.page)) s (pair_long (whole a.page) W) (omega arith)
    ∙ ap (λ (q : Pair). updated a.n q (pairs_of s)) (in_bytes (whole a.page) W.one)

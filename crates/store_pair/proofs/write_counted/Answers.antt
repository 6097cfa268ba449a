-- A whole write where four quarters are left, a torn one where some are, else none.
use mathlib.Core.Path.{◌≡◌, refl, sym, ap, ◌∙◌}
use mathlib.Core.List.{[], ◌∷◌}
use Prim.Native.Nat.{ℕ}
use native.Mathlib.Omega.{arith}
use Rattle.rules.specs.Commit.{sets}
use Rattle.rules.specs.Pairs.{pairs_of, cut_pairs}
use Rattle.rules.proofs.Pairs.{cut_one_whole, cut_one_torn, cut_none}
use Rattle.store_pair.proofs.write_counted.Goals as goal

pub returns-then-left-ge4 : goal.returns-then-left-ge4
returns-then-left-ge4 c =
    let a = c.args in
    (c.put_pair.ensures ∙ sym (cut_one_whole a.left a.n a.page (pairs_of a.bytes.now) (omega arith)), refl)

pub returns-then-left-gt0 : goal.returns-then-left-gt0
returns-then-left-gt0 c =
    let a = c.args in
    (c.tear_page.ensures ∙ sym (cut_one_torn a.left a.n a.page (pairs_of a.bytes.now) (omega arith)), omega arith)

pub returns-else-left-gt0 : goal.returns-else-left-gt0
returns-else-left-gt0 c =
    let a = c.args in
    let z : 0 ≡ a.left = omega arith in
    (sym (cut_none (sets a.n a.page ∷ []) (pairs_of a.bytes.now)) ∙ ap (λ (k : ℕ). (cut_pairs k (sets a.n a.page ∷ []) (pairs_of a.bytes.now)).store) z, omega arith)

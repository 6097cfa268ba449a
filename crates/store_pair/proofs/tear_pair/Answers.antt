-- The three ways: the first copy left bad; the first new and the second left bad; the first new and the second old.
use borrow.Author.Rules.{rules}
use mathlib.Core.Path.{◌≡◌, sym, ap, ◌∙◌}
use mathlib.Core.List.{List}
use Prim.Native.Nat.{ℕ}
use lib.ListN.{length, set}
use Rattle.rules.specs.Pairs.{torn, pair_in, pair_bytes}
use Rattle.store_pair.proofs.Copies.{first_bad, second_bad}
use Rattle.store_pair.proofs.tear_pair.Goals as goal

pub returns-then-way-eq1 : goal.returns-then-way-eq1
returns-then-way-eq1 c =
    let a = c.args in
    first_bad a.part.now a.page c.requires.0 ∙ ap (λ (v : ℕ). pair_bytes (torn v a.page (pair_in a.part.now))) (sym c.if-way-eq1.true)

pub returns-then-way-eq2 : goal.returns-then-way-eq2
returns-then-way-eq2 c =
    let write_first_lem = c.write_first in
    let a = c.args in
    let sized : length a.page ≡ 32 = search rules in
    ap (λ (l : List ℕ). set l 33 0) write_first_lem.ensures ∙ second_bad a.part.now a.page sized
    ∙ ap (λ (v : ℕ). pair_bytes (torn v a.page (pair_in a.part.now))) (sym c.if-way-eq2.true)

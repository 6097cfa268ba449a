-- Where the map names the record its intention page, else its home page.
use mathlib.Core.Path.{◌≡◌, ap, sym, ◌∙◌}
use mathlib.Core.Bool.{true, false}
use native.Mathlib.Omega.{arith}
use Rattle.rules.specs.Store.{named}
use Rattle.leaf_number.specs.Named.{record_of}
use Rattle.store_record.proofs.settled_page.Goals as goal

pub returns-then-names : goal.returns-then-names
returns-then-names c =
    let index = c.index-at in
    let at = index.ensures in
    let small = c.requires in (
      λ g m.
          let yes : named g _ (record_of _) ≡ true = ap (named g _) (sym c.number.ensures.0) ∙ sym (c.names.ensures g m) ∙ c.if-names.true in
          rw yes (omega (arith, at.0)),
      omega (arith, at.0, small.1),
    )

pub returns : goal.returns
returns c =
    let index = c.index-at in
    let at = index.ensures in
    let small = c.requires in (
      λ g m.
          let no : named g _ (record_of _) ≡ false = ap (named g _) (sym c.number.ensures.0) ∙ sym (c.names.ensures g m) ∙ c.if-names.false in
          rw no (omega (arith, at.0)),
      omega (arith, at.0, small.1),
    )

-- A page begins with its first four bytes.
use mathlib.Core.Path.{ap, ◌∙◌}
use mathlib.Core.List.{List}
use Prim.Native.Nat.{ℕ}
use lib.ListN.{take}
use Rattle.laws.specs.Bytes.{number}
use Rattle.store_record.proofs.stamp_on.Goals as goal

pub returns : goal.returns
returns c = c.word_at.ensures ∙ ap (λ (p : List ℕ). number (take 4 p)) c.get_page-page.ensures

-- The ledger of some tables tells the parents and fates that are in them.
use mathlib.Core.Path.{refl}
use mathlib.Core.Bool.{Bool}
use mathlib.Core.List.{List}
use Prim.Native.Nat.{ℕ}
use Rattle.audit_link.specs.Links.{Linked}
use Rattle.audit_bearer.specs.Tables.{tables, ledger_of}

pub linked : (owner parent fate bearer events : List ℕ) (begun n : ℕ) (up : Bool) → Linked (ledger_of (tables owner parent fate bearer begun up) events n) parent fate
unfolding ledger_of tables
linked owner parent fate bearer events begun n up = record { parents = refl; fates = refl; passes = refl }

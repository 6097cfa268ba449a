-- The number of a kind of event in a word.
use Rattle.std.specs.Prelude.{ℕ}
use Rattle.sheet_list.specs.declared.Kind.{Kind}
use Rattle.sheet_list.specs.declared.Kind.TheVariants.{Begin, Lock, Write, Read, Commit, Abort}

abbrev pub kind_number : Kind → ℕ
kind_number Begin = 1
kind_number Lock = 2
kind_number Write = 3
kind_number Read = 4
kind_number Commit = 5
kind_number Abort = 6

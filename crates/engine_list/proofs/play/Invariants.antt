-- The loop's invariant: the first k events have been played, their answers stand, what is derived from the arrays is theirs, and what is prepared is what
-- the store says.
use mathlib.Core.Path.{◌≡◌}
use Prim.Native.Nat.{◌*◌, ◌/◌, ◌≤◌}
use lib.ListN.{length}
use Rattle.rules.specs.Editions.{geometry_of, form_in, edition_of}
use Rattle.state_array.specs.Kin.{DerivedSets}
use Rattle.state_whole.specs.Lain.{arrays_in}
use Rattle.state_whole.specs.Whole.{Reserves}
use Rattle.state_whole.proofs.Parameters.{flag}
use Rattle.state_whole.proofs.Playing.{Playing}
use Rattle.engine_list.proofs.play.Given as goal

abbrev pub invariant-loop-k : goal.invariant-loop-k
invariant-loop-k g l =
    let tears = flag g.row.TEARS in
    let edition = edition_of g.row.RECORDS (flag g.row.JOINT) tears in
    (l.k ≤ l.n) × (l.n ≡ length l.events / l.word) × (l.n ≤ 4096) × (l.word * l.n ≤ length l.events) × (2 * l.n ≤ length l.initial.answers)
    × Playing (form_in tears (geometry_of edition)) l.word (arrays_in l.initial.s l.initial.work l.initial.store) l.events l.initial.answers l.n l.k (arrays_in l.s l.work l.store) l.answers
    × DerivedSets l.s.parent l.s.depth l.d.live l.d.children × Reserves tears (geometry_of edition) l.store l.d.reserved l.d.identity

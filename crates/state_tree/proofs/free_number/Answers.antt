-- The three entries of t become zero.
use Rattle.state_array.proofs.Sweep.{cleared_one}
use Rattle.state_tree.proofs.free_number.Goals as goal

pub returns : goal.returns
returns c = let a = c.args in (cleared_one a.parent.now a.t c.requires.1 c.requires.0, cleared_one a.depth.now a.t c.requires.2 c.requires.0, cleared_one a.line.now a.t c.requires.3 c.requires.0)

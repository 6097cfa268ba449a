-- The promise of a run: its answer and the content of every buffer lent to it.
use Rattle.std.specs.Prelude.{◌≡◌, List, ◌≢◌, ℕ, length}
use Rattle.rules.specs.Form.{Form}
use Rattle.rules.specs.Run.{run}

-- a run with these buffers gave this answer and left these
pub record Ran (f : Form) (store events work answers : List ℕ) (answer : ℕ) (store' work' answers' : List ℕ) : Type 0 where
  pub answered : answer ≡ (run f store events work answers).answer
  pub stored : store' ≡ (run f store events work answers).store
  pub told : answers' ≡ (run f store events work answers).answers
  -- A refused run leaves the working buffer as well. What a run that is played leaves in it is the one thing left open; it keeps its length.
  pub untouched : answer ≢ 0 → work' ≡ work
  pub long : length work' ≡ length work

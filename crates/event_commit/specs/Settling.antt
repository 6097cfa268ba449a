-- A commit and a prepare, by whether it prepares: the event, and the page writes of a top transaction on a medium, cut at a count.
use Rattle.std.specs.Prelude.{Bool, true, false, ℕ}
use Rattle.std.proofs.Math.Option.{Option}
use Rattle.rules.specs.Store.{Page}
use Rattle.rules.specs.Event.{Event, commit, prepare}
use Rattle.rules.specs.Commit.{Cut}
use Rattle.rules.specs.Form.{Medium}

unfoldable pub settling : Bool → ℕ → ℕ → ℕ → Event
settling false t k i = commit t k
settling true t k i = prepare t k i

unfoldable pub settling_at : (m : Medium) → Bool → m.Store → (ℕ → Option Page) → ℕ → ℕ → Cut m.Store
settling_at m false s v i k = m.commit s v k
settling_at m true s v i k = m.prepare s v i k

-- What holds of a run of edition 1 that is played.
use mathlib.Core.Path.{◌≡◌}
use mathlib.Core.List.{List}
use Prim.Native.Nat.{ℕ}
use Rattle.rules.specs.Editions.{edition1}
use Rattle.history.specs.Demand3.{Demand3}
use Rattle.history.proofs.Demand3.{demand_3_edition1}
use Rattle.claim_serial.specs.OneAtATime.{OneRunAtATime}
use Rattle.claim_serial.proofs.Runs.{one_run_at_a_time_edition1}
use Rattle.open_run.specs.Running.{Ran}
use Rattle.open_run.proofs.Running.{ran_demand, ran_serial}

pub signed : {store events work answers store' work' answers' : List ℕ} {n : ℕ} → Ran edition1 store events work answers n store' work' answers'
    → Ran edition1 store events work answers n store' work' answers' × ((n ≡ 0 → Demand3 edition1 store events work answers) × (n ≡ 0 → OneRunAtATime edition1 store events work answers))
signed R = (R, (ran_demand edition1 demand_3_edition1 R, ran_serial edition1 one_run_at_a_time_edition1 R))

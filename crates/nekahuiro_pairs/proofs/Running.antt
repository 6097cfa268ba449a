-- What holds of a run on pages that can tear, where it is played.
use mathlib.Core.Path.{◌≡◌, refl}
use mathlib.Core.List.{List}
use Prim.Native.Nat.{ℕ}
use Rattle.rules.specs.Editions.{geometry_pairs, edition_pairs}
use Rattle.rules.proofs.Editions.{proper_pairs}
use Rattle.rules.proofs.PairedPages.{paired_laws}
use Rattle.history.specs.Demand3.{Demand3}
use Rattle.history.proofs.Editions.{demand_3_pairs}
use Rattle.claim_serial.specs.OneAtATime.{OneRunAtATime}
use Rattle.claim_serial.proofs.Runs.{one_run_at_a_time}
use Rattle.open_run.specs.Running.{Ran}
use Rattle.open_run.proofs.Running.{ran_demand, ran_serial}

pub signed : {store events work answers store' work' answers' : List ℕ} {n : ℕ} → Ran edition_pairs store events work answers n store' work' answers'
    → Ran edition_pairs store events work answers n store' work' answers' × ((n ≡ 0 → Demand3 edition_pairs store events work answers) × (n ≡ 0 → OneRunAtATime edition_pairs store events work answers))
signed R = (R, (ran_demand edition_pairs demand_3_pairs R, ran_serial edition_pairs (one_run_at_a_time edition_pairs (paired_laws geometry_pairs proper_pairs refl) proper_pairs) R))

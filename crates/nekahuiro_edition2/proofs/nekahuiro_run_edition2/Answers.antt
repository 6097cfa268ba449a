-- The lengths decide; where they are right a portion from the start is the run.
use borrow.Author.Rules.{rules}
use mathlib.Core.Bool.{false}
use mathlib.Core.Path.{◌≡◌, refl}
use mathlib.Core.List.{List}
use Prim.Native.Nat.{ℕ}
use native.Mathlib.Omega.{arith}
use Rattle.rules.specs.Editions.{geometry2, edition2}
use Rattle.history.specs.Demand3.{Demand3}
use Rattle.history.proofs.Editions.{demand_3_edition2}
use Rattle.claim_serial.specs.OneAtATime.{OneRunAtATime}
use Rattle.claim_serial.proofs.Runs.{one_run_at_a_time_edition2}
use Rattle.leaf_commit_page.proofs.Places.{layout2}
use Rattle.leaf_event.proofs.Words.{bytes2}
use Rattle.store_length.proofs.Lengths.{lengths_of, told_ok, told_err}
use Rattle.open_run.specs.Running.{Ran}
use Rattle.open_run.proofs.Running.{run_refused, run_played, from_start, ran_demand, ran_serial}
use Rattle.nekahuiro_edition2.proofs.nekahuiro_run_edition2.Goals as goal

-- a run, with what holds of it where it is played
signed : {store events work answers store' work' answers' : List ℕ} {n : ℕ} → Ran edition2 store events work answers n store' work' answers'
    → Ran edition2 store events work answers n store' work' answers' × ((n ≡ 0 → Demand3 edition2 store events work answers) × (n ≡ 0 → OneRunAtATime edition2 store events work answers))
signed R = (R, (ran_demand edition2 demand_3_edition2 R, ran_serial edition2 one_run_at_a_time_edition2 R))

pub refusal-n-requires : goal.refusal-n-requires
refusal-n-requires c = (omega arith, omega arith, omega arith)

pub returns-in-Err : goal.returns-in-Err
returns-in-Err c =
    let told = told_err c.refusal-n.result c.in-Err.wrong c.in-Err.is c.refusal-n.ensures c.from.ensures in
    let a = c.args in let all = signed (run_refused false 64 8 geometry2 layout2.many bytes2 refl a.store.now a.events.now a.work.now a.answers.now c.from.result told.0 told.1) in record {
      ran = all.0;
      demand_3 = all.1.0;
      one_run_at_a_time = all.1.1;
    }

pub from_start-requires : goal.from_start-requires
from_start-requires c =
    let refusal = c.refusal-n in
    let l = lengths_of false 64 8 _ _ _ _ (told_ok refusal.result c.in_default.field-0 c.in_default.is refusal.ensures) in
    (l.store, l.work, l.short, l.room)

pub returns : goal.returns
returns c =
    let refusal = c.refusal-n in
    let at_from_start = c.from_start in
    let a = c.args in
    let none = told_ok refusal.result c.in_default.field-0 c.in_default.is refusal.ensures in
    let E = at_from_start.ensures in
    let left = from_start edition2 a.store.now a.events.now a.answers.now _ _ _ E.begun E.leads in let all = signed (run_played false 64 8 geometry2 layout2.many bytes2 refl a.store.now a.events.now a.work.now a.answers.now _ _ _ none left (search rules)) in record {
      ran = all.0;
      demand_3 = all.1.0;
      one_run_at_a_time = all.1.1;
    }

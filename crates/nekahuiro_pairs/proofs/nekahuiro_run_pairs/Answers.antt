-- What holds of a run where it is played.
use Rattle.nekahuiro_pairs.proofs.Running.{signed}
use Rattle.nekahuiro_pairs.proofs.nekahuiro_run_pairs.Goals as goal

pub returns : goal.returns
returns c =
    let run_of = c.run_of in let all = signed run_of.ensures in record {
      ran = all.0;
      demand_3 = all.1.0;
      one_run_at_a_time = all.1.1;
    }

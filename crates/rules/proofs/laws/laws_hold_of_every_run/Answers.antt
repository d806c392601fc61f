use Rattle.rules.proofs.Runs.{laws_of_runs}
use Rattle.rules.proofs.laws.laws_hold_of_every_run.Goals as goal

pub returns : goal.returns
returns c = laws_of_runs

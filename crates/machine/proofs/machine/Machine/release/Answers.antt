use Rattle.machine.proofs.Tenures.{release_ends, release_stops}
use Rattle.machine.proofs.machine.Machine.release.Goals as goal

pub returns-in-Ok-clause-call : goal.returns-in-Ok-clause-call
returns-in-Ok-clause-call g c = release_ends _ _ _ _ g.met.V.Rule.chosen g.met.R.Rule.chosen _ c.args.tenure c.in-Ok.ensures

pub returns-in-Err-clause-call : goal.returns-in-Err-clause-call
returns-in-Err-clause-call g c = release_stops _ _ _ _ g.met.V.Rule.chosen g.met.R.Rule.chosen _ c.args.tenure _ c.in-Err.ensures

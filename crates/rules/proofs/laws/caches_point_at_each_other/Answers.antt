use Rattle.rules.proofs.Runs.{caches_point_at_each_other}
use Rattle.rules.proofs.laws.caches_point_at_each_other.Goals as goal

pub returns : goal.returns
returns c = caches_point_at_each_other

use Rattle.rules.proofs.Runs.{fetched_blocks_accounted}
use Rattle.rules.proofs.laws.fetched_blocks_are_accounted_for.Goals as goal

pub returns : goal.returns
returns c = fetched_blocks_accounted

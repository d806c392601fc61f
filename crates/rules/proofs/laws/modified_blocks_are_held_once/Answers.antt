use Rattle.rules.proofs.Runs.{modified_blocks_held_once}
use Rattle.rules.proofs.laws.modified_blocks_are_held_once.Goals as goal

pub returns : goal.returns
returns c = modified_blocks_held_once

use Rattle.rules.proofs.Example.{worked_example}
use Rattle.rules.proofs.laws.worked_example_is_listed.Goals as goal

pub returns : goal.returns
returns c = worked_example

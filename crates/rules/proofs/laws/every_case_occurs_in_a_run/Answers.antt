use Rattle.rules.proofs.Exhibit.{exhibited}
use Rattle.rules.proofs.laws.every_case_occurs_in_a_run.Goals as goal

pub returns : goal.returns
returns c = exhibited

use Rattle.rules.proofs.Runs.{reads_answer_latest_writes}
use Rattle.rules.proofs.laws.reads_answer_the_latest_write.Goals as goal

pub returns : goal.returns
returns c = reads_answer_latest_writes

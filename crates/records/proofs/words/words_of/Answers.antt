use Rattle.std.proofs.Common.{rules}
use Rattle.records.proofs.Whole.{words_chunks}
use Rattle.records.proofs.words.words_of.Goals as goal

pub returns : goal.returns
returns c = rw (← words_chunks c.args.bytes.now, ← c.as_chunks.ensures.front) (search rules)

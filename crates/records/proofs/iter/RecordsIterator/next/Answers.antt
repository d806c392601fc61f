use Rattle.std.proofs.Common.{arith}
use Rattle.records.proofs.Telling.{told_record}
use Rattle.records.proofs.iter.RecordsIterator.next.Goals as goal

pub returns-in-Ok-clause-steps : goal.returns-in-Ok-clause-steps
returns-in-Ok-clause-steps c = told_record c.args.self.now.number c.args.self.now.loose c.args.self.now.words.now c.in-Ok.rest.now c.in-Ok.record c.in-Ok.ensures.value

pub returns-in-Ok-clause-goes : goal.returns-in-Ok-clause-goes
returns-in-Ok-clause-goes c = grind (arith, told_record c.args.self.now.number c.args.self.now.loose c.args.self.now.words.now c.in-Ok.rest.now c.in-Ok.record c.in-Ok.ensures.value)

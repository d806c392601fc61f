use Rattle.tables.specs.Messages.{sender_number}
use Rattle.bus.proofs.Loops.{fetch_taken}
use Rattle.bus.proofs.pass.fetch.Goals as goal

pub returns-then-exclusive : goal.returns-then-exclusive
returns-then-exclusive g c =
    fetch_taken g.S.Memory c.args.exclusive c.args.count (sender_number c.args.sender) c.args.block.0 c.args.processors.now c.share-shared.new.processors c.invalidate.new.processors
    c.args.memory.now c.share-shared.new.memory c.share-shared.result c.if-exclusive.true c.share-shared.ensures c.invalidate.ensures

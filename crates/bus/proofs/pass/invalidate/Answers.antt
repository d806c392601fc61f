use Rattle.std.proofs.Common.{List, ◌++◌, drop, ap, ◌∙◌, arith}
use Rattle.tables.specs.declared.types.Processor.{Processor}
use Rattle.bus.proofs.Loops.{board_long, take_skipped, take_turn}
use Rattle.bus.proofs.pass.invalidate.Goals as goal
use Rattle.bus.proofs.pass.invalidate.Goals.{then-i-writer, else-i-writer}

pub loop-i-preserved : goal.loop-i-preserved
loop-i-preserved c =
    elim c.if-i-writer.branch [
      | then-i-writer w ↦
          (λ sn. ap (λ (z : List Processor). z ++ drop c.args.count c.args.processors.now) w.p-items-is
          ∙ take_turn c.args.count c.loop-i.i c.from-writer.result c.args.block.0 c.args.processors.now c.loop-i.p-items (drop c.args.count c.args.processors.now) (omega arith)
          w.snoop_take.new.p (omega (arith, board_long c.args.count c.min.result c.args.processors.now c.min.ensures c.told-processors sn)) w.if-i-writer.true w.snoop_take.ensures c.loop-i.invariant sn)
      | else-i-writer w ↦
          (λ sn. ap (λ (z : List Processor). z ++ drop c.args.count c.args.processors.now) w.p-items-is
          ∙ take_skipped c.args.count c.loop-i.i c.from-writer.result c.args.block.0 c.args.processors.now c.loop-i.p-items (drop c.args.count c.args.processors.now) (omega arith)
          w.if-i-writer.false c.loop-i.invariant sn)
    ]

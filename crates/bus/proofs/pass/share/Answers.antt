use Rattle.std.proofs.Common.{drop, arith}
use Rattle.bus.proofs.Loops.{board_long, share_skipped, share_turn}
use Rattle.bus.proofs.pass.share.Goals as goal
use Rattle.bus.proofs.pass.share.Goals.{then-i-reader, else-i-reader}

pub loop-i-preserved : goal.loop-i-preserved
loop-i-preserved g c =
    elim c.if-i-reader.branch [
      | then-i-reader w ↦
          (λ sn so lb. rw (w.p-items-is, w.memory-is, w.shared-is)
          (share_turn c.args.count c.loop-i.i c.from-reader.result c.args.block.0 c.args.processors.now c.loop-i.p-items (drop c.args.count c.args.processors.now) (omega arith)
          g.S.Memory c.args.memory.now c.loop-i.memory c.loop-i.shared c.loop-i.invariant w.share_at-shared.new.p w.share_at-shared.new.memory w.share_at-shared.result
          (omega (arith, board_long c.args.count c.min.result c.args.processors.now c.min.ensures c.told-processors sn)) w.if-i-reader.true w.share_at-shared.ensures sn so lb))
      | else-i-reader w ↦
          (λ sn so lb. rw (w.p-items-is, w.memory-is, w.shared-is)
          (share_skipped c.args.count c.loop-i.i c.from-reader.result c.args.block.0 c.args.processors.now c.loop-i.p-items (drop c.args.count c.args.processors.now) (omega arith)
          g.S.Memory c.args.memory.now c.loop-i.memory c.loop-i.shared c.loop-i.invariant w.if-i-reader.false sn so lb))
    ]

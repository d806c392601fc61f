use Rattle.std.proofs.Common.{◌<◌, ◌++◌, drop}
use Rattle.bus.specs.Passes.{Shares, Snoopable}
use Rattle.bus.proofs.pass.share.Given as goal

-- the board's records so far, and those past the board
abbrev pub invariant-loop-i : goal.invariant-loop-i
invariant-loop-i g l =
    Snoopable l.count l.fn.processors → g.S.Memory.sound l.initial.memory → l.block.0 < g.S.Memory.count l.initial.memory
    → Shares g.S.Memory l.i l.reader l.block.0 l.fn.processors (l.p-items ++ drop l.count l.fn.processors) l.initial.memory l.memory l.shared

use Rattle.std.proofs.Common.{◌≡◌, ◌++◌, drop}
use Rattle.rules.specs.Bus.{take_pass}
use Rattle.bus.specs.Passes.{Snoopable}
use Rattle.bus.proofs.pass.invalidate.Given as goal

-- the board's records so far, and those past the board
abbrev pub invariant-loop-i : goal.invariant-loop-i
invariant-loop-i l = Snoopable l.count l.fn.processors → l.p-items ++ drop l.count l.fn.processors ≡ take_pass l.i l.writer l.block.0 l.fn.processors

use Rattle.std.proofs.Common.{◌≡◌, ◌++◌, map, take, drop}
use Rattle.rules.specs.Calls.{swap_pages}
use Rattle.processors.proofs.remap.swap_pages.Given as goal

abbrev pub invariant-loop-p : goal.invariant-loop-p
invariant-loop-p l = l.processors ≡ map (swap_pages l.process.0 l.page.0) (take l.p-index l.initial.processors) ++ drop l.p-index l.initial.processors

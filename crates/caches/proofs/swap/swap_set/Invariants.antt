use Rattle.std.proofs.Common.{◌≡◌, ◌++◌, map, take, drop}
use Rattle.caches.specs.Swapped.{swapped}
use Rattle.caches.proofs.swap.swap_set.Given as goal

abbrev pub invariant-loop-line : goal.invariant-loop-line
invariant-loop-line l = l.lines ≡ map (swapped l.page) (take l.line-index l.initial.lines) ++ drop l.line-index l.initial.lines

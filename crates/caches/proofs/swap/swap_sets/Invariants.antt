use Rattle.std.proofs.Common.{◌≡◌, ◌++◌, map, take, drop}
use Rattle.caches.specs.Swapped.{swapped}
use Rattle.caches.proofs.swap.swap_sets.Given as goal

abbrev pub invariant-loop-lines : goal.invariant-loop-lines
invariant-loop-lines l = l.sets ≡ map (map (swapped l.page)) (take l.lines-index l.initial.sets) ++ drop l.lines-index l.initial.sets

use Rattle.std.proofs.Common.{◌≡◌, None}
use Rattle.rules.specs.Basic.{first_below}
use Rattle.rules.specs.Cache.{hits, line_at}
use Rattle.caches.proofs.find.find_line.Given as goal

-- no way so far is a hit
abbrev pub invariant-loop-way : goal.invariant-loop-way
invariant-loop-way l = first_below l.way (λ k. hits l.block.0 (line_at l.p l.set k)) ≡ None

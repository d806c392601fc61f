use Rattle.std.proofs.Common.{◌≡◌, None}
use Rattle.rules.specs.Basic.{first_below}
use Rattle.rules.specs.Cache.{holds, entry_at}
use Rattle.caches.proofs.find.find_entry.Given as goal

-- no way so far holds the block
abbrev pub invariant-loop-way : goal.invariant-loop-way
invariant-loop-way l = first_below l.way (λ k. holds l.block.0 (entry_at l.p l.set k)) ≡ None

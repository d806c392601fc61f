use Rattle.std.proofs.Common.{◌≡◌, ◌+◌, ◌*◌, ◌≤◌, drop}
use Rattle.rules.specs.Sizes.{r_ways}
use Rattle.rules.specs.Invariant.{resident}
use Rattle.processors.proofs.count.present_in_all.Given as goal

-- the sets so far are counted, and each counts for its ways at most
abbrev pub invariant-loop-set : goal.invariant-loop-set
invariant-loop-set l = (l.count + resident (drop l.set-index l.sets) ≡ resident l.sets) × (l.count ≤ l.set-index * r_ways)

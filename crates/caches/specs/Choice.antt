-- A replacement rule of the code as one of the rules, and the ways that it is asked for.
use Rattle.std.specs.Prelude.{ℕ, Bool, List, Some, None, Option, nat_lt}
use Rattle.replacement.specs.Sizes.{ways}
use Rattle.replacement.specs.declared.rule.Rule as rule
use Rattle.rules.specs.Basic.{flags}
use Rattle.rules.specs.Rule.{Rule}
use Rattle.rules.specs.Sizes.{r_ways}

module _ {R : Type 0} (g : rule.Ghosts R) where
  -- the functions of a rule
  abbrev pub rule_of : R → Rule
  rule_of r = record { first = g.first r; used = g.used r; loaded = g.loaded r; choice = g.choice r }

-- the ways below n
abbrev pub ways_below : ℕ → List Bool
ways_below n = flags ways (λ w. nat_lt w n)

-- the ways asked for in an R-set: the free ones where there is one, else all
abbrev pub asked_by : List Bool → Option ℕ → List Bool
asked_by free None = ways_below r_ways
asked_by free (Some k) = free

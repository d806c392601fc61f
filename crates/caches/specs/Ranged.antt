-- A processor whose tables name no place outside them.
use Rattle.std.specs.Prelude.{◌≡◌, ℕ, ◌<◌, Bool}
use Rattle.rules.specs.Sizes.{v_sets, v_ways, r_sets, r_ways}
use Rattle.tables.specs.declared.types.Child.{Child}
use Rattle.tables.specs.declared.types.Child.TheVariants.{NoChild, At}
use Rattle.tables.specs.declared.types.Place.{Place}
use Rattle.tables.specs.declared.types.Processor.{Processor}
use Rattle.rules.specs.Cache.{line_at, entry_at}
use Rattle.rules.specs.Invariant.{Filled}

-- the R-place of a filled line and the place of a child are in range
-- A premise, and no invariant of Processor: each function that writes one would owe it again at its end, while it follows
-- once, by the lemma ok_ranged, from what the machine's past keeps.
pub record Ranged (p : Processor) : Type 0 where
  pub lines : (s w : ℕ) → Filled (line_at p s w) → ((line_at p s w).rplace.set < r_sets) × ((line_at p s w).rplace.way < r_ways)
  pub children : (a b : ℕ) (q : Place) (d : Bool) → (entry_at p a b).child ≡ At q d → (q.set < v_sets) × (q.way < v_ways)

-- the place of a child is in range
abbrev pub ChildIn : Child → Type 0
ChildIn NoChild = Unit {0}
ChildIn (At q d) = (q.set < v_sets) × (q.way < v_ways)

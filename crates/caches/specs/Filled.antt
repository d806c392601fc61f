-- A line filled from an entry.
use Rattle.std.specs.Prelude.{ℕ, false}
use Rattle.tables.specs.declared.types.LineState.TheVariants.{Valid}
use Rattle.tables.specs.declared.types.Place.{Place}
use Rattle.tables.specs.declared.types.VLine.{VLine}
use Rattle.tables.specs.declared.types.REntry.{REntry}

-- valid and clean, under the tag t
abbrev pub line_of : REntry → Place → ℕ → VLine
line_of e q t = record { state = Valid; tag = record { 0 = t }; words = e.words; dirty = false; rplace = q }

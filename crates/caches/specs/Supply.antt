-- What a holder supplies.
use Rattle.std.specs.Prelude.{ℕ, false, List}
use Rattle.tables.specs.declared.types.EntryState.TheVariants.{Shared}
use Rattle.tables.specs.declared.types.REntry.{REntry}
use Rattle.rules.specs.Bus.{clean_child}

-- the entry afterwards, shared and clean, with the words that it supplied
abbrev pub supplied_with : REntry → List ℕ → REntry
supplied_with e ws = record { state = Shared; block = e.block; words = ws; rdirty = false; child = clean_child e.child }

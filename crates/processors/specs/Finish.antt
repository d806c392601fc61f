-- The end of a reference at a processor: its line at (s, w), the word k of it.
use Rattle.std.specs.Prelude.{ℕ, Some, None, Option, slice_index}
use Rattle.tables.specs.declared.types.Processor.{Processor}
use Rattle.rules.specs.Cache.{line_at, stored}

-- a write stores its word, a read changes nothing
abbrev pub finished : Option ℕ → Processor → ℕ → ℕ → ℕ → Processor
finished None p s w k = p
finished (Some x) p s w k = stored p s w k x

-- the word answered: 0 for a write
abbrev pub answered : Option ℕ → Processor → ℕ → ℕ → ℕ → ℕ
answered None p s w k = slice_index (line_at p s w).words k
answered (Some x) p s w k = 0

-- What code may rely on of a board that was set up and has a past.
use Rattle.std.specs.Prelude.{ℕ, ◌<◌, ◌≤◌}
use Rattle.base.specs.Sizes.{processes}
use Rattle.tables.specs.declared.types.Processor.{Processor}
use Rattle.rules.specs.Sizes.{most_accepted, most_processors}
use Rattle.rules.specs.Cache.{entry_at}
use Rattle.rules.specs.Bus.{Blocks}
use Rattle.rules.specs.Calls.{Board, cpu_at}
use Rattle.rules.specs.Invariant.{Present}
use Rattle.rules.specs.Sound.{InvOf}

-- the counts of a processor stay small
pub record Small (p : Processor) : Type 0 where
  pub fetched : p.counts.fetched ≤ most_accepted
  pub replaced : p.counts.replaced ≤ most_accepted
  pub invalidated : p.counts.invalidated ≤ most_accepted

-- the tables are sound with f as what each block reads as, every block in them is one of the memory's, counts are small,
-- and processes are in range
pub record Ready (f : Blocks) (st : Board) : Type 0 where
  pub inv : InvOf st f
  pub few : st.cpus ≤ most_processors
  pub below : (i s w : ℕ) → Present (entry_at (cpu_at st i) s w) → (entry_at (cpu_at st i) s w).block.0 < st.count
  pub small : (i : ℕ) → i < st.cpus → Small (cpu_at st i)
  pub known : (i : ℕ) → (cpu_at st i).process.0 < processes

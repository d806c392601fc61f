-- The checks of a reading of a place in a table.
use Rattle.std.specs.Prelude.{◌≡◌, ℕ, ◌<◌, ◌≤◌, ◌||◌, Ok, Err, Option, Result, nat_le}
use Rattle.records.specs.declared.record.ProcessorNumber.{ProcessorNumber}
use Rattle.faults.specs.declared.machine_fault.SetupFault.{SetupFault}
use Rattle.faults.specs.declared.machine_fault.MachineFault.{MachineFault}
use Rattle.faults.specs.MachineFaults.{fault_number}
use Rattle.rules.specs.Basic.{pick}
use Rattle.rules.specs.Calls.{or_else, or_next}
use Rattle.rules.specs.Sizes.{most_processors}
use Rattle.machine.specs.Refusals.{reading_fault}
use Rattle.machine.specs.State.{setup_told}

-- the number of a reading of the place (s, w) of processor i, the first n of the records being the board's
abbrev pub place_told : Option SetupFault → ℕ → ℕ → ℕ → ℕ → ℕ → ℕ → ℕ
place_told o n i sets ways s w = or_next (setup_told o) (or_else (nat_le n i) 4 (pick (nat_le sets s || nat_le ways w) 14 0))

module _ (o : Option SetupFault) (n : ℕ) (p : ProcessorNumber) (sets ways s w : ℕ) where
  pub record Placed (i : ℕ) : Type 0 where
    pub number : place_told o n p.0 sets ways s w ≡ 0
    pub place : i ≡ p.0
    pub within : i < most_processors
    pub set : s < sets
    pub way : w < ways

  pub record Unplaced (e : MachineFault) : Type 0 where
    pub number : fault_number e ≡ place_told o n p.0 sets ways s w
    pub fault : e ≡ reading_fault p (place_told o n p.0 sets ways s w)

  -- the processor's place, or the fault of the number, where a machine that was set up has no more than the records
  abbrev pub LocatesPlace : Result ℕ MachineFault → Type 0
  LocatesPlace (Ok i) = Placed i
  LocatesPlace (Err e) = (setup_told o ≡ 0 → n ≤ most_processors) → Unplaced e

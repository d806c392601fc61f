-- The checks that come first, as the code makes them.
use Rattle.std.specs.Prelude.{◌≡◌, ℕ, ◌<◌, ◌≤◌, Some, None, Ok, Err, Option, Result, nat_le}
use Rattle.records.specs.declared.record.ProcessorNumber.{ProcessorNumber}
use Rattle.faults.specs.declared.machine_fault.Caller.{Caller}
use Rattle.faults.specs.declared.machine_fault.SetupFault.{SetupFault}
use Rattle.faults.specs.declared.machine_fault.MachineFault.{MachineFault}
use Rattle.faults.specs.declared.machine_fault.MachineFault.TheVariants.{Setup, Full, NoProcessor}
use Rattle.rules.specs.Basic.{pick}
use Rattle.rules.specs.Sizes.{most_accepted, most_processors}

abbrev pub passed : Result (Unit {0}) MachineFault
passed = Ok tt

abbrev pub set_up : Option SetupFault → Result (Unit {0}) MachineFault
set_up (Some f) = Err (Setup f)
set_up None = passed

abbrev pub admitted : Option SetupFault → ℕ → Caller → Result (Unit {0}) MachineFault
admitted (Some f) n who = Err (Setup f)
admitted None n who = pick (nat_le most_accepted n) (Err (Full who)) passed

-- the place of a processor among the first n of the records, or none
pub record Located (n : ℕ) (p : ProcessorNumber) (i : ℕ) : Type 0 where
  pub place : i ≡ p.0
  pub within : i < most_processors
  pub below : p.0 < n

pub record Missing (n : ℕ) (p : ProcessorNumber) (e : MachineFault) : Type 0 where
  pub above : n ≤ most_processors → n ≤ p.0
  pub fault : e ≡ NoProcessor p

abbrev pub Locates : ℕ → ProcessorNumber → Result ℕ MachineFault → Type 0
Locates n p (Ok i) = Located n p i
Locates n p (Err e) = Missing n p e

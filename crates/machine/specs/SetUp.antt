-- Setting a machine up.
use Rattle.std.specs.Prelude.{◌≡◌, ℕ, ◌%◌, ◌||◌, Some, None, Ok, Err, Option, Result, ◌==◌, nat_le, nat_lt}
use Rattle.base.specs.Sizes.{page_blocks}
use Rattle.faults.specs.declared.machine_fault.SetupFault.{SetupFault}
use Rattle.faults.specs.declared.machine_fault.SetupFault.TheVariants.{Processors, MemorySize}
use Rattle.faults.specs.declared.machine_fault.MachineFault.{MachineFault}
use Rattle.faults.specs.declared.machine_fault.MachineFault.TheVariants.{Setup}
use Rattle.faults.specs.MachineFaults.{fault_number}
use Rattle.rules.specs.Basic.{pick}
use Rattle.rules.specs.Calls.{setup_number}
use Rattle.rules.specs.Sizes.{most_processors}

-- the fault of so many processors over so many blocks
abbrev pub setup_of : ℕ → ℕ → Option SetupFault
setup_of n c = pick (nat_le n 0 || nat_lt most_processors n) (Some Processors) (pick (c == 0 || nat_le 1 (c % page_blocks)) (Some MemorySize) None)

-- the fault of a number
abbrev pub setup_fault : ℕ → MachineFault
setup_fault n = pick (n == 1) (Setup Processors) (Setup MemorySize)

-- what the check answers: accepted where the rules' number is 0, else the fault of that number
abbrev pub Checks : ℕ → ℕ → Result (Unit {0}) MachineFault → Type 0
Checks n c (Ok _) = setup_number n c ≡ 0
Checks n c (Err e) = (fault_number e ≡ setup_number n c) × (e ≡ setup_fault (setup_number n c))

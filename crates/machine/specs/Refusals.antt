-- Which fault a call tells, by its number: number, layer and place of each are those of the fault.
use Rattle.std.specs.Prelude.{◌≡◌, ℕ, Ok, Err, Result, ◌==◌}
use Rattle.base.specs.declared.block.Page.{Page}
use Rattle.base.specs.declared.block.PhysicalBlock.{PhysicalBlock}
use Rattle.memory.specs.declared.fault.MemoryFault.TheVariants.{Outside}
use Rattle.paging.specs.declared.fault.MapFault.TheVariants.{NoFrame, OutOfRange}
use Rattle.records.specs.declared.record.ProcessorNumber.{ProcessorNumber}
use Rattle.faults.specs.declared.machine_fault.Caller.{Caller}
use Rattle.faults.specs.declared.machine_fault.Caller.TheVariants.{Processor, Device, Nobody}
use Rattle.faults.specs.declared.machine_fault.SetupFault.TheVariants.{Processors, MemorySize}
use Rattle.faults.specs.declared.machine_fault.MachineFault.{MachineFault}
use Rattle.faults.specs.declared.machine_fault.MachineFault.TheVariants.{Setup, Full, NoProcessor, NoAddress, Map, BeyondMemory, BusHeld, NoProcess, BusTaken, NoTenure, Memory, SliceLength, NoPlace}
use Rattle.faults.specs.MachineFaults.{fault_number}
use Rattle.rules.specs.Basic.{pick}
use Rattle.rules.specs.Calls.{Answer, Step}

-- the numbers that any call can tell first: 1 and 2
abbrev pub first_fault : ℕ → MachineFault → MachineFault
first_fault n other = pick (n == 1) (Setup Processors) (pick (n == 2) (Setup MemorySize) other)

-- and 3, of the calls that count
abbrev pub counted_fault : ℕ → Caller → MachineFault → MachineFault
counted_fault n who other = first_fault n (pick (n == 3) (Full who) other)

-- a reference of processor p to page g
abbrev pub reference_fault : ProcessorNumber → Page → ℕ → MachineFault
reference_fault p g n =
    counted_fault n (Processor p)
    (pick (n == 4) (NoProcessor p)
    (pick (n == 5) (NoAddress p)
    (pick (n == 6) (Map (Processor p) (NoFrame g))
    (pick (n == 7) (BeyondMemory p) (BusHeld p)))))

-- a switch of processor p
abbrev pub switch_fault : ProcessorNumber → ℕ → MachineFault
switch_fault p n = counted_fault n (Processor p) (pick (n == 4) (NoProcessor p) (NoProcess p))

-- an enter or an erase of page g
abbrev pub remap_fault : Page → ℕ → MachineFault
remap_fault g n = counted_fault n Nobody (Map Nobody (OutOfRange g))

abbrev pub take_fault : ℕ → MachineFault
take_fault n = first_fault n BusTaken

abbrev pub release_fault : ℕ → MachineFault
release_fault n = first_fault n NoTenure

-- a transfer of block b
abbrev pub transfer_fault : PhysicalBlock → ℕ → MachineFault
transfer_fault b n = counted_fault n Device (pick (n == 11) NoTenure (pick (n == 12) (Memory Device (Outside b)) SliceLength))

-- a reading of a table or of the counts of processor p
abbrev pub reading_fault : ProcessorNumber → ℕ → MachineFault
reading_fault p n = first_fault n (pick (n == 4) (NoProcessor p) (NoPlace p))

-- what a result tells of a step: accepted with its answer, or refused with the fault of its number
pub record Accepts (s : Step) (a : Answer) : Type 0 where
  pub number : s.number ≡ 0
  pub answer : a ≡ s.answer

pub record Refuses (s : Step) (which : ℕ → MachineFault) (e : MachineFault) : Type 0 where
  pub number : fault_number e ≡ s.number
  pub fault : e ≡ which s.number

module _ {A : Type 0} (answer : A → Answer) (which : ℕ → MachineFault) where
  abbrev pub Tells : Result A MachineFault → Step → Type 0
  Tells (Ok a) s = Accepts s (answer a)
  Tells (Err e) s = Refuses s which e

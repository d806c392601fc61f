-- What a machine's fault tells: number, layer and place.
use Rattle.std.specs.Prelude.{ℕ, ◌<◌, ◌≤◌}
use Rattle.std.proofs.Common.{arith}
use Rattle.base.specs.Faults.{last_number}
use Rattle.base.specs.declared.layer.Layer.{Layer}
use Rattle.base.specs.declared.layer.Layer.TheVariants.{Machine}
use Rattle.memory.specs.Fault as memory
use Rattle.memory.specs.declared.fault.MemoryFault.{MemoryFault}
use Rattle.memory.specs.declared.fault.MemoryFault.TheVariants.{Outside}
use Rattle.paging.specs.declared.fault.MapFault.{MapFault}
use Rattle.paging.specs.declared.fault.MapFault.TheVariants.{NoFrame, OutOfRange}
use Rattle.paging.specs.Fault as map
use Rattle.faults.specs.declared.machine_fault.Caller.{Caller}
use Rattle.faults.specs.declared.machine_fault.Caller.TheVariants.{Processor, Device, Nobody}
use Rattle.faults.specs.declared.machine_fault.SetupFault.{SetupFault}
use Rattle.faults.specs.declared.machine_fault.SetupFault.TheVariants.{Processors, MemorySize}
use Rattle.faults.specs.declared.machine_fault.MachineFault.{MachineFault}
use Rattle.faults.specs.declared.machine_fault.MachineFault.TheVariants.{Setup, Full, NoProcessor, NoAddress, Map, BeyondMemory, BusHeld, NoProcess, BusTaken, NoTenure, Memory, SliceLength, NoPlace}

-- the processor as given, 8 for the device, 9 for none
abbrev pub caller_number : Caller → ℕ
caller_number (Processor p) = p.0
caller_number Device = 8
caller_number Nobody = 9

abbrev pub setup_fault_number : SetupFault → ℕ
setup_fault_number Processors = 1
setup_fault_number MemorySize = 2

abbrev pub fault_number : MachineFault → ℕ
fault_number (Setup f) = setup_fault_number f
fault_number (Full c) = 3
fault_number (NoProcessor p) = 4
fault_number (NoAddress p) = 5
fault_number (Map c f) = map.fault_number f
fault_number (BeyondMemory p) = 7
fault_number (BusHeld p) = 8
fault_number (NoProcess p) = 9
fault_number BusTaken = 10
fault_number NoTenure = 11
fault_number (Memory c f) = memory.fault_number f
fault_number SliceLength = 13
fault_number (NoPlace p) = 14

abbrev pub fault_layer : MachineFault → Layer
fault_layer f = Machine

abbrev pub fault_place : MachineFault → ℕ
fault_place (Setup f) = caller_number Nobody
fault_place (Full c) = caller_number c
fault_place (NoProcessor p) = p.0
fault_place (NoAddress p) = p.0
fault_place (Map c f) = caller_number c
fault_place (BeyondMemory p) = p.0
fault_place (BusHeld p) = p.0
fault_place (NoProcess p) = p.0
fault_place BusTaken = caller_number Device
fault_place NoTenure = caller_number Device
fault_place (Memory c f) = caller_number c
fault_place SliceLength = caller_number Device
fault_place (NoPlace p) = p.0

-- each number is one of the list of refusals
setup_numbered : (f : SetupFault) → (0 < setup_fault_number f) × (setup_fault_number f ≤ last_number)
setup_numbered Processors = (omega arith, omega arith)
setup_numbered MemorySize = (omega arith, omega arith)

map_numbered : (f : MapFault) → (0 < map.fault_number f) × (map.fault_number f ≤ last_number)
map_numbered (NoFrame g) = (omega arith, omega arith)
map_numbered (OutOfRange g) = (omega arith, omega arith)

memory_numbered : (f : MemoryFault) → (0 < memory.fault_number f) × (memory.fault_number f ≤ last_number)
memory_numbered (Outside b) = (omega arith, omega arith)

pub machine_numbered : (f : MachineFault) → (0 < fault_number f) × (fault_number f ≤ last_number)
machine_numbered (Setup f) = setup_numbered f
machine_numbered (Full c) = (omega arith, omega arith)
machine_numbered (NoProcessor p) = (omega arith, omega arith)
machine_numbered (NoAddress p) = (omega arith, omega arith)
machine_numbered (Map c f) = map_numbered f
machine_numbered (BeyondMemory p) = (omega arith, omega arith)
machine_numbered (BusHeld p) = (omega arith, omega arith)
machine_numbered (NoProcess p) = (omega arith, omega arith)
machine_numbered BusTaken = (omega arith, omega arith)
machine_numbered NoTenure = (omega arith, omega arith)
machine_numbered (Memory c f) = memory_numbered f
machine_numbered SliceLength = (omega arith, omega arith)
machine_numbered (NoPlace p) = (omega arith, omega arith)

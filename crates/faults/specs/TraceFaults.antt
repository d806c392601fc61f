-- What a trace's fault tells: number, layer and place.
use Rattle.std.specs.Prelude.{ℕ, ◌<◌, ◌≤◌}
use Rattle.std.proofs.Common.{arith}
use Rattle.base.specs.Faults.{last_number}
use Rattle.records.specs.declared.fault.FormatFault.{FormatFault}
use Rattle.records.specs.declared.fault.FormatFault.TheVariants.{TooLong, UnknownKind, UnnamedBit, CutShort, ShortBuffer}
use Rattle.base.specs.declared.layer.Layer.{Layer}
use Rattle.base.specs.declared.layer.Layer.TheVariants.{Trace}
use Rattle.records.specs.Faults.{number_of, place_of}
use Rattle.faults.specs.MachineFaults.{fault_number, machine_numbered}
use Rattle.faults.specs.declared.trace_fault.TraceFault.{TraceFault}
use Rattle.faults.specs.declared.trace_fault.TraceFault.TheVariants.{Machine, Format}

abbrev pub trace_number : TraceFault → ℕ
trace_number (Machine n f) = fault_number f
trace_number (Format f) = number_of f

abbrev pub trace_layer : TraceFault → Layer
trace_layer f = Trace

abbrev pub trace_place : TraceFault → ℕ
trace_place (Machine n f) = n
trace_place (Format f) = place_of f

-- each number is one of the list of refusals
format_numbered : (f : FormatFault) → (0 < number_of f) × (number_of f ≤ last_number)
format_numbered TooLong = (omega arith, omega arith)
format_numbered (UnknownKind n) = (omega arith, omega arith)
format_numbered (UnnamedBit n) = (omega arith, omega arith)
format_numbered (CutShort n) = (omega arith, omega arith)
format_numbered (ShortBuffer n) = (omega arith, omega arith)

pub trace_numbered : (f : TraceFault) → (0 < trace_number f) × (trace_number f ≤ last_number)
trace_numbered (Machine n f) = machine_numbered f
trace_numbered (Format f) = format_numbered f

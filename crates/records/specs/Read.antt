-- What the reading of a whole trace answers.
use Rattle.std.specs.Prelude.{◌≡◌, ℕ, List, Some, None, Ok, Err, vec_items, codes, Result, Vec}
use Rattle.records.specs.Faults.{shown_as}
use Rattle.records.specs.Traces.{Trace}
use Rattle.records.specs.declared.record.Record.{Record}
use Rattle.records.specs.declared.trace.TraceError.{TraceError}
use Rattle.records.specs.declared.trace.TraceError.TheVariants.{Format, NoMemory}
use Rattle.std.specs.declared.alloc.Global.{Global}

-- the fault of the trace; a want of memory says nothing of it
abbrev pub Fails : Trace → TraceError → Type 0
Fails t (Format f) = t.fault ≡ Some f
Fails t NoMemory = Unit {0}

-- all records of a trace that has no fault, or its fault
abbrev pub Reads : Trace → Result (Vec Record Global) TraceError → Type 0
Reads t (Ok v) = (t.fault ≡ None) × (vec_items v ≡ t.records)
Reads t (Err e) = Fails t e

-- how an error is printed
abbrev pub shown_error : TraceError → List ℕ
shown_error (Format f) = shown_as f
shown_error NoMemory = codes "no memory for the records of the trace"

-- What an iterator over the records of a trace has left to tell.
use Rattle.std.specs.Prelude.{◌≡◌, ℕ, ◌<◌, ◌≤◌, Bool, List, length, Ok, Err, Result}
use Rattle.records.specs.Traces.{told, trace_from, trace_words}
use Rattle.records.specs.declared.fault.FormatFault.{FormatFault}
use Rattle.records.specs.declared.fault.FormatFault.TheVariants.{TooLong}
use Rattle.records.specs.declared.iter.Records.{Records}
use Rattle.records.specs.declared.record.Record.{Record}

abbrev pub told_by : Records → List (Result (ℕ × Record) FormatFault)
told_by s = told s.number (trace_from (length s.words.now) s.number s.loose s.words.now)

-- an iterator over words has the whole trace to tell, or there is none, as there are more words than a trace has
abbrev pub Begins : Bool → List ℕ → Result Records FormatFault → Type 0
Begins loose ws (Ok s) = (told_by s ≡ told 0 (trace_from (length ws) 0 loose ws)) × (length ws ≤ trace_words)
Begins loose ws (Err e) = (e ≡ TooLong) × (trace_words < length ws)

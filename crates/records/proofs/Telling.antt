-- How the iterator over records goes on, and what its items say of the trace.
use Rattle.std.proofs.Common.{◌≡◌, ℕ, ◌+◌, Bool, List, [], ◌∷◌, length, Ok, Err, Some, None, Option, Result, refl, ap}
use Rattle.records.proofs.Steps.{trace_more}
use Rattle.records.specs.Records.{decoded}
use Rattle.records.specs.Traces.{Trace, in_front, stopped, told, trace_from}
use Rattle.records.specs.declared.fault.FormatFault.{FormatFault}
use Rattle.records.specs.declared.record.Record.{Record}

-- at a record, that record is told, with its number, and then what is left
pub told_record : (n : ℕ) (l : Bool) (ws rest : List ℕ) (r : Record) → Ok (r, rest) ≡ decoded n ws
    → told n (trace_from (length ws) n l ws) ≡ Ok (n, r) ∷ told (n + 1) (trace_from (length rest) (n + 1) l rest)
told_record n l ws rest r e = ap (told n) (trace_more n l ws rest r e)

-- the trace that items tell
abbrev pub heard : List (Result (ℕ × Record) FormatFault) → Trace
heard [] = record { records = []; fault = None }
heard (Ok p ∷ xs) = in_front p.1 (heard xs)
heard (Err e ∷ xs) = stopped e

heard_from : (n : ℕ) (rs : List Record) (f : Option FormatFault) → heard (told n (record { records = rs; fault = f })) ≡ record { records = rs; fault = f }
heard_from n [] None = refl
heard_from n [] (Some e) = refl
heard_from n (r ∷ rs) f = ap (in_front r) (heard_from (n + 1) rs f)

-- a trace that is told is heard
pub heard_told : (n : ℕ) (t : Trace) → heard (told n t) ≡ t
heard_told n t = heard_from n t.records t.fault

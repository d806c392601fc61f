-- A whole trace: its records, and the fault that ends it early.
use Rattle.std.specs.Prelude.{ℕ, zero, suc, ◌+◌, ◌%◌, Bool, true, false, if◌then◌else◌, not, List, [], ◌∷◌, ◌++◌, map, length, Some, None, Ok, Err, Option, Result, ◌==◌, nat_lt}
use Rattle.std.specs.List.{enumerate_from}
use Rattle.records.specs.Bytes.{words_of}
use Rattle.records.specs.Records.{decoded}
use Rattle.records.specs.declared.fault.FormatFault.{FormatFault}
use Rattle.records.specs.declared.fault.FormatFault.TheVariants.{TooLong, CutShort}
use Rattle.records.specs.declared.record.Record.{Record}

-- the most bytes that a trace has
abbrev pub trace_bytes : ℕ
trace_bytes = 65536

-- the most words that it has
abbrev pub trace_words : ℕ
trace_words = 16384

-- the records up to the first fault, and that fault
pub record Trace : Type 0 where
  pub records : List Record
  pub fault : Option FormatFault

-- a trace with one record more in front
abbrev pub in_front : Record → Trace → Trace
in_front r t = record { records = r ∷ t.records; fault = t.fault }

-- no record, and a fault
abbrev pub stopped : FormatFault → Trace
stopped e = record { records = []; fault = Some e }

-- no word is left: loose bytes would begin the record n
abbrev pub ended : ℕ → Bool → Trace
ended n true = stopped (CutShort n)
ended n false = record { records = []; fault = None }

-- one record, and what the words after it make
abbrev pub carried : Result (Record × List ℕ) FormatFault → (List ℕ → Trace) → Trace
carried (Ok p) more = in_front p.0 (more p.1)
carried (Err e) more = stopped e

-- the trace of words from the record n on, where loose says that bytes are left over after the words.
-- The first number is how many records there can be: the number of words is enough.
abbrev pub trace_from : ℕ → ℕ → Bool → List ℕ → Trace
trace_from zero n loose ws = ended n loose
trace_from (suc k) n loose [] = ended n loose
trace_from (suc k) n loose (w ∷ ws) = carried (decoded n (w ∷ ws)) (λ rest. trace_from k (n + 1) loose rest)

-- one to three bytes are left over after the whole words
abbrev pub loose_after : List ℕ → Bool
loose_after bs = not (length bs % 4 == 0)

-- the trace of bytes
abbrev pub trace_of : List ℕ → Trace
trace_of bs =
    if nat_lt trace_bytes (length bs) then stopped TooLong
    else trace_from (length (words_of bs)) 0 (loose_after bs) (words_of bs)

-- a fault, told last
abbrev pub told_last : Option FormatFault → List (Result (ℕ × Record) FormatFault)
told_last None = []
told_last (Some e) = Err e ∷ []

-- a trace told in order: its records, each with its number, from n on, and then its fault
abbrev pub told : ℕ → Trace → List (Result (ℕ × Record) FormatFault)
told n t = map Ok (enumerate_from n t.records) ++ told_last t.fault

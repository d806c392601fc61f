-- How a trace goes on record by record.
use Rattle.std.proofs.Common.{◌≡◌, ℕ, zero, suc, ◌+◌, ◌<◌, ◌≤◌, Bool, List, [], ◌∷◌, ◌++◌, length, Ok, Err, Result, sym, refl, ap, ◌∙◌, arith}
use Rattle.records.specs.Records.{decoded, record_by, record_of, checked_kind, kind_of, write_of, device_write_of}
use Rattle.records.specs.Traces.{Trace, carried, ended, in_front, stopped, trace_from}
use Rattle.records.specs.declared.fault.FormatFault.{FormatFault}
use Rattle.records.specs.declared.record.Kind.{Kind}
use Rattle.records.specs.declared.record.Kind.TheVariants.{Read, Write, Switch, Enter, Erase, DeviceRead, DeviceWrite}
use Rattle.records.specs.declared.record.Record.{Record}

-- a write and a device write leave at most the words after the first
write_rest : (n w : ℕ) (ws rest : List ℕ) (r : Record) → Ok (r, rest) ≡ write_of n w ws → length rest ≤ length ws
write_rest n w [] rest r e = grind arith
write_rest n w (v ∷ ws) rest r e = grind arith

device_rest : (n w : ℕ) (ws rest : List ℕ) (r : Record) → Ok (r, rest) ≡ device_write_of n w ws → length rest ≤ length ws
device_rest n w [] rest r e = grind arith
device_rest n w (a ∷ []) rest r e = grind arith
device_rest n w (a ∷ b ∷ []) rest r e = grind arith
device_rest n w (a ∷ b ∷ c ∷ []) rest r e = grind arith
device_rest n w (a ∷ b ∷ c ∷ d ∷ ws) rest r e = grind arith

-- a record of any kind does
record_rest : (n w : ℕ) (k : Kind) (ws rest : List ℕ) (r : Record) → Ok (r, rest) ≡ record_of n k w ws → length rest ≤ length ws
record_rest n w Read ws rest r e = grind arith
record_rest n w Write ws rest r e = write_rest n w ws rest r e
record_rest n w Switch ws rest r e = grind arith
record_rest n w Enter ws rest r e = grind arith
record_rest n w Erase ws rest r e = grind arith
record_rest n w DeviceRead ws rest r e = grind arith
record_rest n w DeviceWrite ws rest r e = device_rest n w ws rest r e

checked_rest : (n w : ℕ) (q : Result Kind FormatFault) (ws rest : List ℕ) (r : Record) → Ok (r, rest) ≡ record_by n q w ws → length rest ≤ length ws
checked_rest n w (Ok k) ws rest r e = record_rest n w k ws rest r e
checked_rest n w (Err f) ws rest r e = grind arith

-- a record takes at least one word
pub decoded_shorter : (n : ℕ) (ws rest : List ℕ) (r : Record) → Ok (r, rest) ≡ decoded n ws → length rest < length ws
decoded_shorter n [] rest r e = grind arith
decoded_shorter n (w ∷ ws) rest r e = let h = checked_rest n w (checked_kind n w (kind_of w)) ws rest r e in omega arith

-- two ways to go on that agree on what is left make the same trace
carried_same : (d : Result (Record × List ℕ) FormatFault) (f g : List ℕ → Trace)
    → ((r : Record) (rest : List ℕ) → Ok (r, rest) ≡ d → f rest ≡ g rest) → carried d f ≡ carried d g
carried_same (Ok p) f g h = ap (λ (t : Trace). in_front p.0 t) (h p.0 p.1 refl)
carried_same (Err e) f g h = refl

-- once every word can be a record, a larger number changes nothing
pub trace_enough : (j k n : ℕ) (l : Bool) (ws : List ℕ) → length ws ≤ j → length ws ≤ k → trace_from j n l ws ≡ trace_from k n l ws
trace_enough zero zero n l ws h i = refl
trace_enough zero (suc k) n l [] h i = refl
trace_enough zero (suc k) n l (w ∷ ws) h i = absurd (omega arith)
trace_enough (suc j) zero n l [] h i = refl
trace_enough (suc j) zero n l (w ∷ ws) h i = absurd (omega arith)
trace_enough (suc j) (suc k) n l [] h i = refl
trace_enough (suc j) (suc k) n l (w ∷ ws) h i =
    carried_same (decoded n (w ∷ ws)) (λ rest. trace_from j (n + 1) l rest) (λ rest. trace_from k (n + 1) l rest)
    (λ r rest e. let s = decoded_shorter n (w ∷ ws) rest r e in trace_enough j k (n + 1) l rest (omega arith) (omega arith))

pub trace_fuel : (k n : ℕ) (l : Bool) (ws : List ℕ) → length ws ≤ k → trace_from k n l ws ≡ trace_from (length ws) n l ws
trace_fuel k n l ws h = trace_enough k (length ws) n l ws h (omega arith)

-- at a record, the trace is that record in front of the trace of what is left
pub trace_more : (n : ℕ) (l : Bool) (ws rest : List ℕ) (r : Record) → Ok (r, rest) ≡ decoded n ws
    → trace_from (length ws) n l ws ≡ in_front r (trace_from (length rest) (n + 1) l rest)
trace_more n l [] rest r e = cc
trace_more n l (w ∷ ws) rest r e =
    let s = decoded_shorter n (w ∷ ws) rest r e in
    let f : List ℕ → Trace = λ x. trace_from (length ws) (n + 1) l x in
    sym (ap (λ (d : Result (Record × List ℕ) FormatFault). carried d f) e)
    ∙ ap (λ (t : Trace). in_front r t) (trace_fuel (length ws) (n + 1) l rest (omega arith))

-- a trace behind the records that were read before it
abbrev pub behind : List Record → Trace → Trace
behind rs t = record { records = rs ++ t.records; fault = t.fault }

-- Whatever is decoded has its fields in their ranges.
use Rattle.std.proofs.Common.{◌≡◌, ℕ, List, [], ◌∷◌, IfOk, Ok, Err, Result, arith}
use Rattle.records.specs.Records.{InRange, checked_kind, decoded, device_write_of, kind_of, record_by, record_of, write_of}
use Rattle.records.specs.declared.fault.FormatFault.{FormatFault}
use Rattle.records.specs.declared.record.Kind.{Kind}
use Rattle.records.specs.declared.record.Kind.TheVariants.{Read, Write, Switch, Enter, Erase, DeviceRead, DeviceWrite}
use Rattle.records.specs.declared.record.Record.{Record}

abbrev pub Ranged : Result (Record × List ℕ) FormatFault → Type 0
Ranged r = IfOk r (λ p. InRange p.0)

write_ranged : (n w : ℕ) (ws : List ℕ) → Ranged (write_of n w ws)
write_ranged n w [] = tt
write_ranged n w (v ∷ ws) = grind arith

device_ranged : (n w : ℕ) (ws : List ℕ) → Ranged (device_write_of n w ws)
device_ranged n w [] = tt
device_ranged n w (a ∷ []) = tt
device_ranged n w (a ∷ b ∷ []) = tt
device_ranged n w (a ∷ b ∷ c ∷ []) = tt
device_ranged n w (a ∷ b ∷ c ∷ d ∷ ws) = tt

record_ranged : (n w : ℕ) (k : Kind) (ws : List ℕ) → Ranged (record_of n k w ws)
record_ranged n w Read ws = grind arith
record_ranged n w Write ws = write_ranged n w ws
record_ranged n w Switch ws = grind arith
record_ranged n w Enter ws = grind arith
record_ranged n w Erase ws = grind arith
record_ranged n w DeviceRead ws = tt
record_ranged n w DeviceWrite ws = device_ranged n w ws

checked_ranged : (n w : ℕ) (q : Result Kind FormatFault) (ws : List ℕ) → Ranged (record_by n q w ws)
checked_ranged n w (Ok k) ws = record_ranged n w k ws
checked_ranged n w (Err e) ws = tt

pub decoded_ranged : (n : ℕ) (ws : List ℕ) → Ranged (decoded n ws)
decoded_ranged n [] = tt
decoded_ranged n (w ∷ ws) = checked_ranged n w (checked_kind n w (kind_of w)) ws

pub ranged : (n : ℕ) (ws rest : List ℕ) (r : Record) → Ok (r, rest) ≡ decoded n ws → InRange r
ranged n ws rest r e = rw (← e) at (decoded_ranged n ws)

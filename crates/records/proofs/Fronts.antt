-- What the front of the words makes, by the pieces that a slice pattern gives.
use Rattle.std.proofs.Common.{◌≡◌, ℕ, ◌-◌, ◌≤◌, List, [], ◌∷◌, length, get_or, take, drop, Ok, Result, sym, ap, ◌∙◌, arith}
use Rattle.base.specs.declared.block.PhysicalBlock.{PhysicalBlock}
use Rattle.records.specs.Records.{InRange, address_in, at_front, checked_kind, decoded, device_block, device_write_of, kind_of, processor_of, record_by, record_of, write_of}
use Rattle.records.proofs.Ranges.{ranged}
use Rattle.records.specs.declared.fault.FormatFault.{FormatFault}
use Rattle.records.specs.declared.record.Kind.{Kind}
use Rattle.records.specs.declared.record.ProcessorNumber.{ProcessorNumber}
use Rattle.records.specs.declared.record.Record.{Record}
use Rattle.records.specs.declared.record.Record.TheVariants.{Write, DeviceWrite}
use Rattle.std.proofs.lemmas.List.{take_rest}

-- one word and the words after it
pub front_one : (ws : List ℕ) → 1 ≤ length ws → ws ≡ get_or ws 0 0 ∷ take (length ws - 1) (drop 1 ws)
front_one [] h = absurd (omega arith)
front_one (a ∷ rest) h = ap (λ (r : List ℕ). a ∷ r) (sym (take_rest (a ∷ rest) 1))

-- two words and the words after them
pub front_two : (ws : List ℕ) → 2 ≤ length ws → ws ≡ get_or ws 0 0 ∷ get_or ws 1 0 ∷ take (length ws - 2) (drop 2 ws)
front_two [] h = absurd (omega arith)
front_two (a ∷ []) h = absurd (omega arith)
front_two (a ∷ b ∷ rest) h = ap (λ (r : List ℕ). a ∷ b ∷ r) (sym (take_rest (a ∷ b ∷ rest) 2))

-- five words and the words after them
pub front_five : (ws : List ℕ) → 5 ≤ length ws
    → ws ≡ get_or ws 0 0 ∷ get_or ws 1 0 ∷ get_or ws 2 0 ∷ get_or ws 3 0 ∷ get_or ws 4 0 ∷ take (length ws - 5) (drop 5 ws)
front_five [] h = absurd (omega arith)
front_five (a ∷ []) h = absurd (omega arith)
front_five (a ∷ b ∷ []) h = absurd (omega arith)
front_five (a ∷ b ∷ c ∷ []) h = absurd (omega arith)
front_five (a ∷ b ∷ c ∷ d ∷ []) h = absurd (omega arith)
front_five (a ∷ b ∷ c ∷ d ∷ e ∷ rest) h =
    ap (λ (r : List ℕ). a ∷ b ∷ c ∷ d ∷ e ∷ r) (sym (take_rest (a ∷ b ∷ c ∷ d ∷ e ∷ rest) 5))

pub write_front : (n : ℕ) (ws : List ℕ) (p : ProcessorNumber) (a : ℕ) → 2 ≤ length ws → p ≡ processor_of (get_or ws 0 0) → a ≡ address_in (get_or ws 0 0)
    → Ok (Write p a (get_or ws 1 0), take (length ws - 2) (drop 2 ws)) ≡ at_front n (write_of n) ws
write_front n ws p a h e f = rw (e, f) (sym (ap (at_front n (write_of n)) (front_two ws h)))

pub device_write_front : (n : ℕ) (ws : List ℕ) (b : PhysicalBlock) → 5 ≤ length ws → b ≡ device_block (get_or ws 0 0)
    → Ok (DeviceWrite b (get_or ws 1 0 ∷ get_or ws 2 0 ∷ get_or ws 3 0 ∷ get_or ws 4 0 ∷ []), take (length ws - 5) (drop 5 ws)) ≡ at_front n (device_write_of n) ws
device_write_front n ws b h e = rw e (sym (ap (at_front n (device_write_of n)) (front_five ws h)))

-- a record of a checked kind that takes just the first word: it is what is decoded, and in its ranges
pub decoded_one : (n : ℕ) (ws : List ℕ) (k j : Kind) (r q : Record) → 1 ≤ length ws → k ≡ j → r ≡ q
    → Ok k ≡ checked_kind n (get_or ws 0 0) (kind_of (get_or ws 0 0))
    → ((rest : List ℕ) → Ok (q, rest) ≡ record_of n j (get_or ws 0 0) rest)
    → (Ok (r, take (length ws - 1) (drop 1 ws)) ≡ decoded n ws) × InRange r
decoded_one n ws k j r q h a b e f =
    let w = get_or ws 0 0 in
    let rest = take (length ws - 1) (drop 1 ws) in
    let v : Ok (r, rest) ≡ decoded n ws = rw (b, f rest, ← a) (ap (λ (x : Result Kind FormatFault). record_by n x w rest) e ∙ sym (ap (decoded n) (front_one ws h))) in
    (v, ranged n ws rest r v)

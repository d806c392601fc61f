-- The format of a trace's records: big-endian words of 32 bits.
use Rattle.std.specs.Prelude.{ℕ, ◌+◌, ◌-◌, ◌/◌, ◌%◌, ◌^◌, ◌<◌, if◌then◌else◌, List, [], ◌∷◌, Some, None, Ok, Err, Option, Result, ◌==◌, bit_and}
use Rattle.std.specs.Option.{ok_or}
use Rattle.std.specs.Borrow.{Bor}
use Rattle.base.specs.Sizes.{addresses, frames, pages, processes}
use Rattle.base.specs.declared.block.Frame.{Frame}
use Rattle.base.specs.declared.block.Page.{Page}
use Rattle.base.specs.declared.block.PhysicalBlock.{PhysicalBlock}
use Rattle.base.specs.declared.block.Process.{Process}
use Rattle.records.specs.declared.fault.FormatFault.{FormatFault}
use Rattle.records.specs.declared.fault.FormatFault.TheVariants.{UnknownKind, UnnamedBit, CutShort}
use Rattle.records.specs.declared.record.Kind.{Kind}
use Rattle.records.specs.declared.record.Kind.TheVariants.{Read as ReadKind, Write as WriteKind, Switch as SwitchKind, Enter as EnterKind, Erase as EraseKind, DeviceRead as DeviceReadKind, DeviceWrite as DeviceWriteKind}
use Rattle.records.specs.declared.record.NoKind.{NoKind}
use Rattle.records.specs.declared.record.ProcessorNumber.{ProcessorNumber}
use Rattle.records.specs.declared.record.Record.{Record}
use Rattle.records.specs.declared.record.Record.TheVariants.{Read, Write, Switch, Enter, Erase, DeviceRead, DeviceWrite}

-- the number that the bits from high down to low of a word make
abbrev pub bits : ℕ → ℕ → ℕ → ℕ
bits high low w = w / 2 ^ low % 2 ^ (high + 1 - low)

-- a word with just the bits from high down to low set
abbrev pub span : ℕ → ℕ → ℕ
span high low = 2 ^ (high + 1) - 2 ^ low

-- the kind that a number names
abbrev pub kind_numbered : ℕ → Option Kind
kind_numbered n =
    if n == 1 then Some ReadKind
    else if n == 2 then Some WriteKind
    else if n == 3 then Some SwitchKind
    else if n == 4 then Some EnterKind
    else if n == 5 then Some EraseKind
    else if n == 6 then Some DeviceReadKind
    else if n == 7 then Some DeviceWriteKind
    else None

-- that kind, or the number where it names none
abbrev pub kind_named : ℕ → Result Kind NoKind
kind_named n = ok_or (kind_numbered n) (record { 0 = n })

-- the kind of a record, in the highest four bits of its first word
abbrev pub kind_of : ℕ → Option Kind
kind_of w = kind_numbered (bits 31 28 w)

-- the bits of a first word that its kind does not name
abbrev pub unnamed_bits : Kind → ℕ
unnamed_bits ReadKind = span 23 11
unnamed_bits WriteKind = span 23 11
unnamed_bits SwitchKind = span 23 3
unnamed_bits EnterKind = span 27 27 + span 23 14 + span 7 6
unnamed_bits EraseKind = span 27 27 + span 23 14 + span 7 0
unnamed_bits DeviceReadKind = span 27 16
unnamed_bits DeviceWriteKind = span 27 16

-- the processor of a read, a write or a switch
abbrev pub processor_of : ℕ → ProcessorNumber
processor_of w = record { 0 = bits 27 24 w }

-- the address of a read or a write
abbrev pub address_in : ℕ → ℕ
address_in w = bits 10 0 w

-- the process that a switch goes to
abbrev pub switched_to : ℕ → Process
switched_to w = record { 0 = bits 2 0 w }

-- the process whose map an enter or an erase changes
abbrev pub process_of : ℕ → Process
process_of w = record { 0 = bits 26 24 w }

-- the page of an enter or an erase
abbrev pub page_in : ℕ → Page
page_in w = record { 0 = bits 13 8 w }

-- the frame of an enter
abbrev pub frame_in : ℕ → Frame
frame_in w = record { 0 = bits 5 0 w }

-- the block of a device read or a device write
abbrev pub device_block : ℕ → PhysicalBlock
device_block w = record { 0 = bits 15 0 w }

-- what the front of the words makes, where the record n has a first word
abbrev pub at_front : ℕ → (ℕ → List ℕ → Result (Record × List ℕ) FormatFault) → List ℕ → Result (Record × List ℕ) FormatFault
at_front n made [] = Err (CutShort n)
at_front n made (w ∷ rest) = made w rest

-- a read, of one word
abbrev pub read_of : ℕ → Record
read_of w = Read (processor_of w) (address_in w)

-- a switch, of one word
abbrev pub switch_of : ℕ → Record
switch_of w = Switch (processor_of w) (switched_to w)

-- an enter, of one word
abbrev pub enter_of : ℕ → Record
enter_of w = Enter (process_of w) (page_in w) (frame_in w)

-- an erase, of one word
abbrev pub erase_of : ℕ → Record
erase_of w = Erase (process_of w) (page_in w)

-- a device read, of one word
abbrev pub device_read_of : ℕ → Record
device_read_of w = DeviceRead (device_block w)

-- a write and the word after it, its value
abbrev pub write_of : ℕ → ℕ → List ℕ → Result (Record × List ℕ) FormatFault
write_of n w [] = Err (CutShort n)
write_of n w (v ∷ rest) = Ok (Write (processor_of w) (address_in w) v, rest)

-- a device write and the four words after it, its block's
abbrev pub device_write_of : ℕ → ℕ → List ℕ → Result (Record × List ℕ) FormatFault
device_write_of n w [] = Err (CutShort n)
device_write_of n w (a ∷ []) = Err (CutShort n)
device_write_of n w (a ∷ b ∷ []) = Err (CutShort n)
device_write_of n w (a ∷ b ∷ c ∷ []) = Err (CutShort n)
device_write_of n w (a ∷ b ∷ c ∷ d ∷ rest) = Ok (DeviceWrite (device_block w) (a ∷ b ∷ c ∷ d ∷ []), rest)

-- the record n of a kind, from its first word and the words after that, with the words left over
abbrev pub record_of : ℕ → Kind → ℕ → List ℕ → Result (Record × List ℕ) FormatFault
record_of n ReadKind w rest = Ok (read_of w, rest)
record_of n WriteKind w rest = write_of n w rest
record_of n SwitchKind w rest = Ok (switch_of w, rest)
record_of n EnterKind w rest = Ok (enter_of w, rest)
record_of n EraseKind w rest = Ok (erase_of w, rest)
record_of n DeviceReadKind w rest = Ok (device_read_of w, rest)
record_of n DeviceWriteKind w rest = device_write_of n w rest

-- the kind of the record n that begins with a word, all of whose set bits it names
abbrev pub checked_kind : ℕ → ℕ → Option Kind → Result Kind FormatFault
checked_kind n w None = Err (UnknownKind n)
checked_kind n w (Some k) = if bit_and w (unnamed_bits k) == 0 then Ok k else Err (UnnamedBit n)

-- the record of a checked kind
abbrev pub record_by : ℕ → Result Kind FormatFault → ℕ → List ℕ → Result (Record × List ℕ) FormatFault
record_by n (Ok k) w rest = record_of n k w rest
record_by n (Err e) w rest = Err e

-- the record n at the front of the words, and the words left over
abbrev pub decoded : ℕ → List ℕ → Result (Record × List ℕ) FormatFault
decoded n = at_front n (λ w. record_by n (checked_kind n w (kind_of w)) w)

-- an answer with the words that its reference points to
abbrev pub seen : Result (Record × Bor (List ℕ)) FormatFault → Result (Record × List ℕ) FormatFault
seen (Ok p) = Ok (p.0, p.1.now)
seen (Err e) = Err e

-- the fields of a record are in the ranges of a map and of addresses
abbrev pub InRange : Record → Type 0
InRange (Read _ a) = a < addresses
InRange (Write _ a _) = a < addresses
InRange (Switch _ q) = q.0 < processes
InRange (Enter q g f) = (q.0 < processes) × (g.0 < pages) × (f.0 < frames)
InRange (Erase q g) = (q.0 < processes) × (g.0 < pages)
InRange (DeviceRead _) = Unit {0}
InRange (DeviceWrite _ _) = Unit {0}

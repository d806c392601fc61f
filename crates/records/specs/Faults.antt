-- The number, layer, place and words of a fault.
use Rattle.std.specs.Prelude.{ℕ, List, ◌++◌, codes, decimal}
use Rattle.base.specs.declared.layer.Layer.{Layer}
use Rattle.base.specs.declared.layer.Layer.TheVariants.{Trace}
use Rattle.records.specs.declared.fault.FormatFault.{FormatFault}
use Rattle.records.specs.declared.fault.FormatFault.TheVariants.{TooLong, UnknownKind, UnnamedBit, CutShort, ShortBuffer}

-- the number that a listing shows
abbrev pub number_of : FormatFault → ℕ
number_of TooLong = 15
number_of (UnknownKind _) = 16
number_of (UnnamedBit _) = 17
number_of (CutShort _) = 18
number_of (ShortBuffer _) = 19

-- each comes from the trace
abbrev pub layer_of : FormatFault → Layer
layer_of TooLong = Trace
layer_of (UnknownKind _) = Trace
layer_of (UnnamedBit _) = Trace
layer_of (CutShort _) = Trace
layer_of (ShortBuffer _) = Trace

-- the record at which it came about
abbrev pub place_of : FormatFault → ℕ
place_of TooLong = 0
place_of (UnknownKind n) = n
place_of (UnnamedBit n) = n
place_of (CutShort n) = n
place_of (ShortBuffer n) = n

-- what it is, in words
abbrev pub meaning_of : FormatFault → List ℕ
meaning_of TooLong = codes "the trace has over 65,536 bytes"
meaning_of (UnknownKind _) = codes "no kind of record has this number"
meaning_of (UnnamedBit _) = codes "a bit that this kind of record does not name is set"
meaning_of (CutShort _) = codes "the trace ends inside this record"
meaning_of (ShortBuffer _) = codes "the buffer is too short for a line"

-- how it is printed
abbrev pub shown_as : FormatFault → List ℕ
shown_as f = codes "record " ++ (decimal (place_of f) ++ (codes ", number " ++ (decimal (number_of f) ++ (codes ": " ++ meaning_of f))))

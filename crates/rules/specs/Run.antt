-- The calls of a machine as values, and what each does to a board.
use Rattle.std.specs.Prelude.{ℕ, List, Some, None}
use Rattle.rules.specs.Calls.{Board, Rules, Step, reference, switch, enter, erase, take, release, device_read, device_write, told, line_number, entry_number, counts_number}

pub data Call : Type 0 where
  -- processor, address, and the value of a write
  reading : ℕ → ℕ → Call
  writing : ℕ → ℕ → ℕ → Call
  -- processor, process
  switching : ℕ → ℕ → Call
  -- process, page, frame
  entering : ℕ → ℕ → ℕ → Call
  erasing : ℕ → ℕ → Call
  taking : Call
  -- the tenure's number
  releasing : ℕ → Call
  -- the tenure's number, the block, and the length of the slice or the words in it
  device_reading : ℕ → ℕ → ℕ → Call
  device_writing : ℕ → ℕ → List ℕ → Call
  -- processor, set, way
  line_reading : ℕ → ℕ → ℕ → Call
  entry_reading : ℕ → ℕ → ℕ → Call
  counts_reading : ℕ → Call

abbrev pub perform : Rules → Call → Board → Step
perform rs (reading i a) st = reference rs st i a None
perform rs (writing i a x) st = reference rs st i a (Some x)
perform rs (switching i q) st = switch st i q
perform rs (entering q g f) st = enter st q g f
perform rs (erasing q g) st = erase st q g
perform rs taking st = take st
perform rs (releasing t) st = release st t
perform rs (device_reading t b k) st = device_read st t b k
perform rs (device_writing t b ws) st = device_write st t b ws
perform rs (line_reading i s w) st = told (line_number st i s w) st
perform rs (entry_reading i s w) st = told (entry_number st i s w) st
perform rs (counts_reading i) st = told (counts_number st i) st

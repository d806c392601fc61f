-- From the bytes of a trace to the bytes of its listing.
use Rattle.std.specs.Prelude.{ℕ, zero, suc, ◌+◌, List, [], ◌∷◌, ◌++◌, Some, None, Option}
use Rattle.base.specs.Sizes.{block_words, most_blocks}
use Rattle.tables.specs.declared.message.Message.{Message}
use Rattle.tables.specs.Messages.{message_word}
use Rattle.lines.specs.declared.line.Line.{Line}
use Rattle.lines.specs.declared.line.Level.TheVariants.{NoReference}
use Rattle.lines.specs.Lines.{line_bytes}
use Rattle.records.specs.declared.record.Record.{Record}
use Rattle.records.specs.declared.record.Record.TheVariants.{Read, Write, Switch, Enter, Erase, DeviceRead, DeviceWrite}
use Rattle.records.specs.declared.fault.FormatFault.{FormatFault}
use Rattle.records.specs.Faults.{number_of, place_of}
use Rattle.records.specs.Traces.{Trace, trace_of}
use Rattle.rules.specs.Sizes.{most_processors}
use Rattle.rules.specs.Rule.{lru}
use Rattle.rules.specs.Cache.{zeros}
use Rattle.rules.specs.Calls.{Board, Rules, Step, made, reference, switch, enter, erase, take, release, device_read, device_write}

-- a device record takes the bus itself and releases it, its transfer refused or not
abbrev pub transfer_by : ℕ → (Board → Step) → Step → Step
transfer_by zero transfer taken =
    let s = transfer taken.after in
    record { number = s.number; answer = s.answer; after = (release s.after taken.after.number).after }
transfer_by (suc n) transfer taken = taken

abbrev pub transferred : (Board → Step) → Board → Step
transferred transfer st = transfer_by (take st).number transfer (take st)

-- one record played on a board
abbrev pub played : Rules → Record → Board → Step
played rs (Read i a) st = reference rs st i.0 a None
played rs (Write i a x) st = reference rs st i.0 a (Some x)
played rs (Switch i q) st = switch st i.0 q.0
played rs (Enter q g f) st = enter st q.0 g.0 f.0
played rs (Erase q g) st = erase st q.0 g.0
played rs (DeviceRead b) st = transferred (λ s. device_read s s.number b.0 block_words) st
played rs (DeviceWrite b ws) st = transferred (λ s. device_write s s.number b.0 ws) st

-- the message words of a line: the first two, 0 after the last
abbrev pub word_at : List Message → ℕ → ℕ
word_at [] k = 0
word_at (m ∷ ms) zero = message_word m
word_at (m ∷ ms) (suc k) = word_at ms k

abbrev pub line_of : ℕ → Step → Line
line_of n s = record { «record» = n; status = s.number; level = s.answer.level; word = s.answer.word; messages = word_at s.answer.sent 0 ∷ word_at s.answer.sent 1 ∷ [] }

-- the line of a fault of the trace, which ends the listing
abbrev pub fault_line : FormatFault → Line
fault_line f = record { «record» = place_of f; status = number_of f; level = NoReference; word = 0; messages = 0 ∷ 0 ∷ [] }

abbrev pub last_line : Option FormatFault → List Line
last_line None = []
last_line (Some f) = fault_line f ∷ []

-- the lines of records from the number n on
abbrev pub lines_from : Rules → ℕ → Board → List Record → Option FormatFault → List Line
lines_from rs n st [] f = last_line f
lines_from rs n st (r ∷ more) f = let s = played rs r st in line_of n s ∷ lines_from rs (n + 1) s.after more f

abbrev pub listing_bytes : List Line → List ℕ
listing_bytes [] = []
listing_bytes (l ∷ ls) = line_bytes l ++ listing_bytes ls

-- the program's board: four processors, the most blocks, all zeros, no page mapped, least recently used
abbrev pub lru_rules : Rules
lru_rules = record { for_v = lru; for_r = lru }

abbrev pub zero_blocks : ℕ → List ℕ
zero_blocks b = zeros

abbrev pub no_frames : ℕ → ℕ → Option ℕ
no_frames q g = None

abbrev pub fresh : Board
fresh = made lru_rules most_processors 0 zero_blocks most_blocks no_frames

abbrev pub lines_of : Trace → List Line
lines_of t = lines_from lru_rules 0 fresh t.records t.fault

-- the listing of a trace's bytes
abbrev pub listing : List ℕ → List ℕ
listing bs = listing_bytes (lines_of (trace_of bs))

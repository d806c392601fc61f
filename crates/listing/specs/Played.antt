-- One record played on a machine.
use Rattle.std.specs.Prelude.{◌≡◌, ℕ, [], ◌∷◌, ◌++◌, Ok, Err, Result}
use Rattle.base.specs.Sizes.{block_words}
use Rattle.base.specs.Blocks.{block_of, page_of}
use Rattle.memory.specs.declared.memory.Memory as memories
use Rattle.paging.specs.declared.map.Map as maps
use Rattle.replacement.specs.declared.rule.Rule as replacements
use Rattle.records.specs.declared.record.Record.{Record}
use Rattle.records.specs.declared.record.Record.TheVariants.{Read, Write, Switch, Enter, Erase, DeviceRead, DeviceWrite}
use Rattle.lines.specs.declared.line.Level.TheVariants.{NoReference}
use Rattle.lines.specs.declared.line.Line.{Line}
use Rattle.faults.specs.declared.machine_fault.MachineFault.{MachineFault}
use Rattle.faults.specs.declared.trace_fault.TraceFault.{TraceFault}
use Rattle.faults.specs.declared.trace_fault.TraceFault.TheVariants.{Machine}
use Rattle.faults.specs.TraceFaults.{trace_number, trace_place}
use Rattle.rules.specs.Calls.{Answer, Board, Rules, Step}
use Rattle.rules.specs.Run.{device_reading, device_writing, entering, erasing, perform, reading, switching, writing}
use Rattle.rules.specs.History.{History, Setup, event}
use Rattle.rules.specs.Laws.{Laws}
use Rattle.rules.specs.Listing.{line_of, played, word_at}
use Rattle.machine.specs.Refusals.{Refuses, reference_fault, remap_fault, switch_fault}
use Rattle.machine.specs.State.{HasPast, board, rules_of}
use Rattle.machine.specs.Transfers.{block_fault, moving_events}
use Rattle.machine.specs.declared.machine.Machine.{Machine as TheMachine}
use Rattle.listing.specs.declared.shown.Shown.{Shown}

-- the faults of a record, by number
abbrev pub record_fault : Record → ℕ → MachineFault
record_fault (Read p a) = reference_fault p (record { 0 = page_of (block_of a) })
record_fault (Write p a x) = reference_fault p (record { 0 = page_of (block_of a) })
record_fault (Switch p q) = switch_fault p
record_fault (Enter q g f) = remap_fault g
record_fault (Erase q g) = remap_fault g
record_fault (DeviceRead b) = block_fault b
record_fault (DeviceWrite b ws) = block_fault b

-- the events of a record, the latest first: a device record takes and releases the bus itself
abbrev pub record_events : Rules → Record → Board → History
record_events rs (Read i a) st = event (reading i.0 a) (perform rs (reading i.0 a) st) ∷ []
record_events rs (Write i a x) st = event (writing i.0 a x) (perform rs (writing i.0 a x) st) ∷ []
record_events rs (Switch i q) st = event (switching i.0 q.0) (perform rs (switching i.0 q.0) st) ∷ []
record_events rs (Enter q g f) st = event (entering q.0 g.0 f.0) (perform rs (entering q.0 g.0 f.0) st) ∷ []
record_events rs (Erase q g) st = event (erasing q.0 g.0) (perform rs (erasing q.0 g.0) st) ∷ []
record_events rs (DeviceRead b) st = moving_events rs (λ t. device_reading t b.0 block_words) st
record_events rs (DeviceWrite b ws) st = moving_events rs (λ t. device_writing t b.0 ws) st

-- what a line shows of an answer
abbrev pub shown_of : Answer → Shown
shown_of a = record { level = a.level; word = a.word; messages = word_at a.sent 0 ∷ word_at a.sent 1 ∷ [] }

-- what a played record tells of its step
abbrev pub Shows : Record → Result Shown MachineFault → Step → Type 0
Shows r (Ok s) d = (d.number ≡ 0) × (s ≡ shown_of d.answer)
Shows r (Err e) d = Refuses d (record_fault r) e

-- what the run of record n tells: its line, or a trace fault that carries the machine's fault whole
abbrev pub Lists : ℕ → Record → Result Line TraceFault → Step → Type 0
Lists n r (Ok l) d = (d.number ≡ 0) × (l ≡ line_of n d)
Lists n r (Err e) d = (e ≡ Machine n (record_fault r d.number)) × (trace_number e ≡ d.number) × (trace_place e ≡ n)

-- the line of a refusal at record n, by its number
abbrev pub refused : ℕ → ℕ → Line
refused n k = record { «record» = n; status = k; level = NoReference; word = 0; messages = 0 ∷ 0 ∷ [] }

-- the line of a run record, refused or not
abbrev pub line_for : ℕ → Result Line TraceFault → Line
line_for n (Ok l) = l
line_for n (Err e) = refused n (trace_number e)

module _ {M S V R : Type 0} (m : maps.Ghosts M) (s : memories.Ghosts S) (v : replacements.Ghosts V) (u : replacements.Ghosts R) where
  -- a record r played on x with this past: it is the rules' step, its events make the past longer, and the laws hold
  pub record Played (r : Record) (c : Setup) (h : History) (x y : TheMachine M S V R) (T : Step → Type 0) : Type 0 where
    pub told : T (played (rules_of m s v u x) r (board m s v u x))
    pub after : board m s v u y ≡ (played (rules_of m s v u x) r (board m s v u x)).after
    pub rules : rules_of m s v u y ≡ rules_of m s v u x
    pub past : HasPast m s v u c (record_events (rules_of m s v u x) r (board m s v u x) ++ h) y
    pub laws : Laws c (record_events (rules_of m s v u x) r (board m s v u x) ++ h) (board m s v u y)

  abbrev pub Plays : Record → TheMachine M S V R → TheMachine M S V R → (Step → Type 0) → Type 0
  Plays r x y T = (c : Setup) (h : History) → HasPast m s v u c h x → Played r c h x y T

-- The bus: messages, and what the other processors do where they see one.
use Rattle.std.specs.Prelude.{ℕ, zero, suc, ◌%◌, Bool, true, false, ◌||◌, List, [], Some, None, Option, ◌==◌, slice_index_or, slice_set}
use Rattle.rules.specs.Sizes.{r_sets}
use Rattle.tables.specs.declared.types.EntryState.TheVariants.{Shared}
use Rattle.tables.specs.declared.types.Child.{Child}
use Rattle.tables.specs.declared.types.Child.TheVariants.{NoChild, At}
use Rattle.tables.specs.declared.types.VLine.{VLine}
use Rattle.tables.specs.declared.types.Snoop.{Snoop}
use Rattle.tables.specs.declared.types.Snoop.TheVariants.{NotHeld, Held, Supplied}
use Rattle.tables.specs.declared.types.REntry.{REntry}
use Rattle.tables.specs.declared.types.Processor.{Processor}
use Rattle.tables.specs.declared.message.Message.{Message}
use Rattle.tables.specs.declared.message.MessageKind.{MessageKind}
use Rattle.tables.specs.declared.message.Sender.{Sender}
use Rattle.tables.specs.declared.message.Sender.TheVariants.{Cpu, Device}
use Rattle.tables.specs.declared.message.Supplier.{Supplier}
use Rattle.tables.specs.declared.message.Supplier.TheVariants.{Holder, Memory, NoData}
use Rattle.tables.specs.Messages.{sender_number}
use Rattle.rules.specs.Basic.{pick}
use Rattle.rules.specs.Cache.{line_at, entry_at, put_line, put_entry, no_line, no_entry, vdirty_of, r_find, with_state, with_counts, count_invalidated}

-- kind, sender, supplier, block
abbrev pub message : MessageKind → Sender → Supplier → ℕ → Message
message k s f b = record { kind = k; sender = s; supplier = f; block = record { 0 = b } }

-- the device as sender; a processor as sender, and as supplier
abbrev pub from_device : Sender
from_device = Device

abbrev pub from_cpu : ℕ → Sender
from_cpu i = Cpu (record { 0 = i })

abbrev pub by_cpu : ℕ → Supplier
by_cpu i = Holder (record { 0 = i })

-- the device as sender, by its number among the processors; the memory as supplier, and no supplier
abbrev pub device : ℕ
device = sender_number Device

abbrev pub memory : Supplier
memory = Memory

abbrev pub no_data : Supplier
no_data = NoData

-- a memory's meaning, and the writing of one block
abbrev pub Blocks : Type 0
Blocks = ℕ → List ℕ

abbrev pub put_block : Blocks → ℕ → List ℕ → Blocks
put_block m b ws = λ k. pick (k == b) ws (m k)

abbrev pub no_processor : Processor
no_processor = record { v = []; r = []; vrule = []; rrule = []; process = record { 0 = 0 }; counts = record { fetched = 0; replaced = 0; invalidated = 0 } }

abbrev pub proc_at : List Processor → ℕ → Processor
proc_at ps i = slice_index_or ps i no_processor

abbrev pub modified : REntry → Bool
modified e = e.rdirty || vdirty_of e.child

abbrev pub clean_child : Child → Child
clean_child NoChild = NoChild
clean_child (At q d) = At q false

abbrev pub clean_line : VLine → VLine
clean_line l = record { state = l.state; tag = l.tag; words = l.words; dirty = false; rplace = l.rplace }

abbrev pub child_words : Processor → Child → List ℕ → List ℕ
child_words p NoChild ws = ws
child_words p (At q d) ws = pick d (line_at p q.set q.way).words ws

abbrev pub clean_at : Processor → Child → Processor
clean_at p NoChild = p
clean_at p (At q d) = put_line p q.set q.way (clean_line (line_at p q.set q.way))

abbrev pub empty_at : Processor → Child → Processor
empty_at p NoChild = p
empty_at p (At q d) = put_line p q.set q.way no_line

-- what an entry's block reads as in its processor
abbrev pub current : Processor → REntry → List ℕ
current p e = child_words p e.child e.words

-- a modified holder supplies
abbrev pub supplied : Processor → REntry → REntry
supplied p e = record { state = Shared; block = e.block; words = current p e; rdirty = false; child = clean_child e.child }

-- a read-miss or a device read at one processor: what it answers, and what becomes of it
abbrev pub seen_held : Bool → Processor → REntry → Snoop
seen_held true p e = Supplied (current p e)
seen_held false p e = Held

abbrev pub seen_by : Option ℕ → ℕ → Processor → Snoop
seen_by None b p = NotHeld
seen_by (Some w) b p = seen_held (modified (entry_at p (b % r_sets) w)) p (entry_at p (b % r_sets) w)

abbrev pub shared_held : Bool → ℕ → ℕ → Processor → REntry → Processor
shared_held true s w p e = put_entry (clean_at p e.child) s w (supplied p e)
shared_held false s w p e = put_entry p s w (with_state e Shared)

abbrev pub shared_by : Option ℕ → ℕ → Processor → Processor
shared_by None b p = p
shared_by (Some w) b p = shared_held (modified (entry_at p (b % r_sets) w)) (b % r_sets) w p (entry_at p (b % r_sets) w)

pub record Passed : Type 0 where
  pub procs : List Processor
  pub mem : Blocks
  pub supplier : Supplier
  pub acked : Bool

abbrev pub noted_by : Snoop → ℕ → ℕ → List Processor → Passed → Passed
noted_by NotHeld b i ps q = record { procs = ps; mem = q.mem; supplier = q.supplier; acked = q.acked }
noted_by Held b i ps q = record { procs = ps; mem = q.mem; supplier = q.supplier; acked = true }
noted_by (Supplied ws) b i ps q = record { procs = ps; mem = put_block q.mem b ws; supplier = by_cpu i; acked = true }

abbrev pub read_skip : Bool → ℕ → ℕ → Passed → Passed
read_skip true b i q = q
read_skip false b i q =
    let p = proc_at q.procs i in
    noted_by (seen_by (r_find p b) b p) b i (slice_set q.procs i (shared_by (r_find p b) b p)) q

-- a read-miss or a device read, seen by the processors below n in rising order, but for the sender: their records, the
-- memory, the supplier so far, and whether one acknowledged
abbrev pub read_pass : ℕ → ℕ → ℕ → Passed → Passed
read_pass zero sender b q = q
read_pass (suc i) sender b q = read_skip (i == sender) b i (read_pass i sender b q)

-- an invalidation at one processor: its entry of the block becomes absent and the child empty, counted as invalidated
abbrev pub take_by : Option ℕ → ℕ → Processor → Processor
take_by None b p = p
take_by (Some w) b p = with_counts (put_entry (empty_at p (entry_at p (b % r_sets) w).child) (b % r_sets) w no_entry) (count_invalidated p.counts)

abbrev pub take_skip : Bool → ℕ → ℕ → List Processor → List Processor
take_skip true b i ps = ps
take_skip false b i ps = slice_set ps i (take_by (r_find (proc_at ps i) b) b (proc_at ps i))

abbrev pub take_pass : ℕ → ℕ → ℕ → List Processor → List Processor
take_pass zero sender b ps = ps
take_pass (suc i) sender b ps = take_skip (i == sender) b i (take_pass i sender b ps)

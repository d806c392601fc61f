-- The whole machine: references, switches, remapping and the device.
use Rattle.std.specs.Prelude.{ℕ, zero, suc, ◌+◌, ◌*◌, ◌/◌, ◌%◌, Bool, true, false, ◌||◌, List, [], ◌∷◌, ◌++◌, map, length, replicate, Some, None, Option, ◌==◌, nat_le, nat_lt, slice_index, slice_set}
use Rattle.base.specs.Sizes.{addresses, block_words, frames, pages, processes}
use Rattle.lines.specs.declared.line.Level.{Level}
use Rattle.lines.specs.declared.line.Level.TheVariants.{VHit, RHit, Synonym, Miss, NoReference}
use Rattle.tables.specs.declared.message.Message.{Message}
use Rattle.tables.specs.declared.message.MessageKind.{MessageKind}
use Rattle.tables.specs.declared.message.MessageKind.TheVariants.{ReadMiss, Invalidation, ReadModifyWrite, WriteBack, DeviceRead, DeviceWrite}
use Rattle.rules.specs.Sizes.{v_sets, v_ways, r_sets, r_ways, page_blocks, most_accepted, most_processors}
use Rattle.tables.specs.declared.types.EntryState.{EntryState}
use Rattle.tables.specs.declared.types.EntryState.TheVariants.{Private, Shared}
use Rattle.tables.specs.declared.types.Child.{Child}
use Rattle.tables.specs.declared.types.Child.TheVariants.{NoChild, At}
use Rattle.tables.specs.declared.types.VLine.{VLine}
use Rattle.tables.specs.declared.types.REntry.{REntry}
use Rattle.tables.specs.declared.types.Processor.{Processor}
use Rattle.rules.specs.Basic.{pick, both}
use Rattle.rules.specs.Invariant.{resident}
use Rattle.rules.specs.Rule.{Rule}
use Rattle.rules.specs.Cache.{line_at, entry_at, put_entry, v_find, r_find, v_way, r_way, free_line, free_child, evict, moved, filled, stored, retagged, put_line, with_state, is_shared, v_used, v_loaded, r_used, r_loaded, with_counts, count_fetched, swap_all, swap_line, with_v, new_processor}
use Rattle.rules.specs.Bus.{device, memory, no_data, message, from_cpu, by_cpu, from_device, Blocks, put_block, proc_at, Passed, read_pass, take_pass}

-- The whole board: the processors' records, of which the first cpus count; the memory's and the map's meaning; whether
-- the bus is held by the device; how many calls were accepted; the number that set-up told (0 for none); and the
-- machine's own number.
pub record Board : Type 0 where
  pub procs : List Processor
  pub cpus : ℕ
  pub mem : Blocks
  pub count : ℕ
  pub table : ℕ → ℕ → Option ℕ
  pub held : Bool
  pub accepted : ℕ
  pub setup : ℕ
  pub number : ℕ

pub record Rules : Type 0 where
  pub for_v : Rule
  pub for_r : Rule

-- a reference: processor, virtual block, word in the block, and the value of a write
pub record Ref : Type 0 where
  pub cpu : ℕ
  pub vb : ℕ
  pub word : ℕ
  pub value : Option ℕ

-- what an accepted call answers: the level, the word read, the four words of a device read, and the messages
pub record Answer : Type 0 where
  pub level : Level
  pub word : ℕ
  pub block : List ℕ
  pub sent : List Message

-- what a reference comes to: the state, the V-place of its line, its level and its messages
pub record Reached : Type 0 where
  pub at : Board
  pub set : ℕ
  pub way : ℕ
  pub level : Level
  pub sent : List Message

abbrev pub with_procs : Board → List Processor → Board
with_procs st ps = record { procs = ps; cpus = st.cpus; mem = st.mem; count = st.count; table = st.table; held = st.held; accepted = st.accepted; setup = st.setup; number = st.number }

abbrev pub with_mem : Board → Blocks → Board
with_mem st m = record { procs = st.procs; cpus = st.cpus; mem = m; count = st.count; table = st.table; held = st.held; accepted = st.accepted; setup = st.setup; number = st.number }

abbrev pub counted : Board → Board
counted st = record { procs = st.procs; cpus = st.cpus; mem = st.mem; count = st.count; table = st.table; held = st.held; accepted = st.accepted + 1; setup = st.setup; number = st.number }

abbrev pub cpu_at : Board → ℕ → Processor
cpu_at st i = proc_at st.procs i

abbrev pub put_cpu : Board → ℕ → Processor → Board
put_cpu st i p = with_procs st (slice_set st.procs i p)

abbrev pub is_write : Option ℕ → Bool
is_write None = false
is_write (Some x) = true

abbrev pub physical : ℕ → ℕ → ℕ
physical f vb = f * page_blocks + vb % page_blocks

-- a write that finds a shared entry: the others drop the block, and the entry becomes private
abbrev pub upgrade_by : Bool → Board → ℕ → ℕ → ℕ → Board
upgrade_by false st i rs rw = st
upgrade_by true st i rs rw =
    let b = (entry_at (cpu_at st i) rs rw).block.0 in
    let ps = take_pass (st.cpus) i b st.procs in
    with_procs st (slice_set ps i (put_entry (proc_at ps i) rs rw (with_state (entry_at (proc_at ps i) rs rw) Private)))

abbrev pub upgrade_sent : Bool → Board → ℕ → ℕ → ℕ → List Message
upgrade_sent false st i rs rw = []
upgrade_sent true st i rs rw = message Invalidation (from_cpu i) no_data (entry_at (cpu_at st i) rs rw).block.0 ∷ []

abbrev pub needs_upgrade : Option ℕ → REntry → Bool
needs_upgrade v e = both (is_write v) (is_shared e.state)

-- a V-hit: level 0
abbrev pub v_hit : Rules → Board → Ref → ℕ → Reached
v_hit rs st r w =
    let s = r.vb % v_sets in
    let l = line_at (cpu_at st r.cpu) s w in
    let c = needs_upgrade r.value (entry_at (cpu_at st r.cpu) l.rplace.set l.rplace.way) in
    let st₁ = upgrade_by c st r.cpu l.rplace.set l.rplace.way in
    record { at = put_cpu st₁ r.cpu (v_used rs.for_v (cpu_at st₁ r.cpu) s w); set = s; way = w; level = VHit; sent = upgrade_sent c st r.cpu l.rplace.set l.rplace.way }

-- an R-hit past the upgrade: the line is retagged, moved or filled, by the child of the entry at way k of the R-set
pub record Attached : Type 0 where
  pub cpu : Processor
  pub way : ℕ
  pub level : Level

abbrev pub attach_same : Bool → Rule → Rule → Processor → ℕ → ℕ → ℕ → ℕ → ℕ → Attached
attach_same true rv rr p vb q w b k =
    record { cpu = r_used rr (v_used rv (put_line p q w (retagged (line_at p q w) vb)) q w) (b % r_sets) k; way = w; level = Synonym }
attach_same false rv rr p vb q w b k =
    let u = v_way rv p (vb % v_sets) in
    let p₁ = free_line p (vb % v_sets) u in
    record { cpu = r_used rr (v_loaded rv (moved p₁ q w (vb % v_sets) u (b % r_sets) k vb) (vb % v_sets) u) (b % r_sets) k; way = u; level = Synonym }

abbrev pub attach : Child → Rule → Rule → Processor → ℕ → ℕ → ℕ → Attached
attach (At q d) rv rr p vb b k = attach_same (q.set == vb % v_sets) rv rr p vb q.set q.way b k
attach NoChild rv rr p vb b k =
    let u = v_way rv p (vb % v_sets) in
    let p₁ = free_line p (vb % v_sets) u in
    record { cpu = r_used rr (v_loaded rv (filled p₁ (vb % v_sets) u (b % r_sets) k vb) (vb % v_sets) u) (b % r_sets) k; way = u; level = RHit }

abbrev pub r_hit : Rules → Board → Ref → ℕ → ℕ → Reached
r_hit rs st r b k =
    let e = entry_at (cpu_at st r.cpu) (b % r_sets) k in
    let c = needs_upgrade r.value e in
    let st₁ = upgrade_by c st r.cpu (b % r_sets) k in
    let a = attach e.child rs.for_v rs.for_r (cpu_at st₁ r.cpu) r.vb b k in
    record { at = put_cpu st₁ r.cpu a.cpu; set = r.vb % v_sets; way = a.way; level = a.level; sent = upgrade_sent c st r.cpu (b % r_sets) k }

-- an R-miss: room is made, an rdirty entry that goes is written back, the block is fetched over the bus, and a line filled
abbrev pub write_back_by : Bool → Board → REntry → Board
write_back_by false st e = st
write_back_by true st e = with_mem st (put_block st.mem e.block.0 e.words)

abbrev pub write_back_sent : Bool → ℕ → REntry → List Message
write_back_sent false i e = []
write_back_sent true i e = message WriteBack (from_cpu i) (by_cpu i) e.block.0 ∷ []

abbrev pub snooped_by : Bool → ℕ → ℕ → Board → Passed
snooped_by false i b st = read_pass (st.cpus) i b (record { procs = st.procs; mem = st.mem; supplier = memory; acked = false })
snooped_by true i b st =
    let q = read_pass (st.cpus) i b (record { procs = st.procs; mem = st.mem; supplier = memory; acked = false }) in
    record { procs = take_pass (st.cpus) i b q.procs; mem = q.mem; supplier = q.supplier; acked = q.acked }

abbrev pub fetch_kind : Bool → MessageKind
fetch_kind false = ReadMiss
fetch_kind true = ReadModifyWrite

abbrev pub fetch_state : Bool → Bool → EntryState
fetch_state true a = Private
fetch_state false true = Shared
fetch_state false false = Private

abbrev pub r_miss : Rules → Board → Ref → ℕ → Reached
r_miss rs st r b =
    let i = r.cpu in
    let s = r.vb % v_sets in
    let p = cpu_at st i in
    let u = v_way rs.for_v p s in
    let p₁ = free_line p s u in
    let k = r_way rs.for_r p₁ (b % r_sets) in
    let p₂ = free_child p₁ (entry_at p₁ (b % r_sets) k).child in
    let e = entry_at p₂ (b % r_sets) k in
    let st₁ = write_back_by e.rdirty (put_cpu st i (evict p₂ (b % r_sets) k)) e in
    let x = is_write r.value in
    let q = snooped_by x i b st₁ in
    let p₃ = proc_at q.procs i in
    let n : REntry = record { state = fetch_state x q.acked; block = record { 0 = b }; words = q.mem b; rdirty = false; child = NoChild } in
    let p₄ = filled (with_counts (put_entry p₃ (b % r_sets) k n) (count_fetched p₃.counts)) s u (b % r_sets) k r.vb in
    let p₅ = r_loaded rs.for_r (v_loaded rs.for_v p₄ s u) (b % r_sets) k in
    record { at = with_mem (with_procs st₁ (slice_set q.procs i p₅)) q.mem; set = s; way = u; level = Miss; sent = write_back_sent e.rdirty i e ++ (message (fetch_kind x) (from_cpu i) q.supplier b ∷ []) }

abbrev pub miss_by : Option ℕ → Rules → Board → Ref → ℕ → Reached
miss_by (Some k) rs st r b = r_hit rs st r b k
miss_by None rs st r b = r_miss rs st r b

-- the block, where there is one
abbrev pub block_of : Board → Ref → Option ℕ → ℕ
block_of st r None = 0
block_of st r (Some f) = physical f r.vb

abbrev pub frame_of : Board → Ref → Option ℕ
frame_of st r = st.table (cpu_at st r.cpu).process.0 (r.vb / page_blocks)

abbrev pub v_miss : Rules → Board → Ref → Reached
v_miss rs st r = let b = block_of st r (frame_of st r) in miss_by (r_find (cpu_at st r.cpu) b) rs st r b

abbrev pub reach_by : Option ℕ → Rules → Board → Ref → Reached
reach_by (Some w) rs st r = v_hit rs st r w
reach_by None rs st r = v_miss rs st r

abbrev pub reach : Rules → Board → Ref → Reached
reach rs st r = reach_by (v_find (cpu_at st r.cpu) r.vb) rs st r

pub record Step : Type 0 where
  pub number : ℕ
  pub answer : Answer
  pub after : Board

abbrev pub nothing : Answer
nothing = record { level = NoReference; word = 0; block = []; sent = [] }

abbrev pub completed : Option ℕ → Ref → Reached → Step
completed None r a = record { number = 0; answer = record { level = a.level; word = slice_index (line_at (cpu_at a.at r.cpu) a.set a.way).words r.word; block = []; sent = a.sent }; after = counted a.at }
completed (Some x) r a = record { number = 0; answer = record { level = a.level; word = 0; block = []; sent = a.sent }; after = counted (put_cpu a.at r.cpu (stored (cpu_at a.at r.cpu) a.set a.way r.word x)) }

-- refusals, in their order: 0 is none, and the first that is not 0 counts
abbrev pub or_else : Bool → ℕ → ℕ → ℕ
or_else true n m = n
or_else false n m = m

abbrev pub or_next : ℕ → ℕ → ℕ
or_next zero m = m
or_next (suc n) m = suc n

abbrev pub bus_number : Bool → Bool → ℕ
bus_number h need = pick (both h need) 8 0

abbrev pub r_number : Option ℕ → Board → Ref → ℕ → ℕ
r_number None st r b = bus_number st.held true
r_number (Some k) st r b = bus_number st.held (needs_upgrade r.value (entry_at (cpu_at st r.cpu) (b % r_sets) k))

abbrev pub frame_number : Option ℕ → Board → Ref → ℕ
frame_number None st r = 6
frame_number (Some f) st r = or_else (nat_le st.count (physical f r.vb)) 7 (r_number (r_find (cpu_at st r.cpu) (physical f r.vb)) st r (physical f r.vb))

abbrev pub v_number : Option ℕ → Board → Ref → ℕ
v_number (Some w) st r =
    let l = line_at (cpu_at st r.cpu) (r.vb % v_sets) w in
    bus_number st.held (needs_upgrade r.value (entry_at (cpu_at st r.cpu) l.rplace.set l.rplace.way))
v_number None st r = frame_number (frame_of st r) st r

abbrev pub full_number : Board → ℕ
full_number st = or_next st.setup (pick (nat_le most_accepted st.accepted) 3 0)

abbrev pub ref_number : Board → ℕ → ℕ → Ref → ℕ
ref_number st i a r = or_next (full_number st) (or_else (nat_le (st.cpus) i) 4 (or_else (nat_le addresses a) 5 (v_number (v_find (cpu_at st i) r.vb) st r)))

abbrev pub refer : ℕ → Rules → Board → Ref → Step
refer zero rs st r = completed r.value r (reach rs st r)
refer (suc n) rs st r = record { number = suc n; answer = nothing; after = st }

abbrev pub make_ref : ℕ → ℕ → Option ℕ → Ref
make_ref i a v = record { cpu = i; vb = a / block_words; word = a % block_words; value = v }

abbrev pub reference : Rules → Board → ℕ → ℕ → Option ℕ → Step
reference rs st i a v = refer (ref_number st i a (make_ref i a v)) rs st (make_ref i a v)

-- a switch: 4, then 9
abbrev pub switch_number : Board → ℕ → ℕ → ℕ
switch_number st i q = or_next (full_number st) (or_else (nat_le (st.cpus) i) 4 (pick (nat_le processes q) 9 0))

abbrev pub switch_by : ℕ → Board → ℕ → ℕ → Step
switch_by zero st i q = record { number = 0; answer = nothing; after = counted (put_cpu st i (swap_all (cpu_at st i) q)) }
switch_by (suc n) st i q = record { number = suc n; answer = nothing; after = st }

abbrev pub switch : Board → ℕ → ℕ → Step
switch st i q = switch_by (switch_number st i q) st i q

-- enter and erase: 9; valid lines of the page become swapped on every processor that runs the process
abbrev pub swap_page : ℕ → VLine → VLine
swap_page g l = pick (l.tag.0 / page_blocks == g) (swap_line l) l

abbrev pub swap_pages : ℕ → ℕ → Processor → Processor
swap_pages q g p = pick (p.process.0 == q) (with_v p (map (map (swap_page g)) p.v)) p

abbrev pub put_frame : (ℕ → ℕ → Option ℕ) → ℕ → ℕ → Option ℕ → ℕ → ℕ → Option ℕ
put_frame t q g f = λ a b. pick (both (a == q) (b == g)) f (t a b)

abbrev pub remap_number : Board → ℕ → ℕ → ℕ → ℕ
remap_number st q g f = or_next (full_number st) (pick (nat_le processes q || nat_le pages g || nat_le frames f) 9 0)

abbrev pub remap_by : ℕ → Board → ℕ → ℕ → Option ℕ → Step
remap_by zero st q g f = record { number = 0; answer = nothing; after = record { procs = map (swap_pages q g) st.procs; cpus = st.cpus; mem = st.mem; count = st.count; table = put_frame st.table q g f; held = st.held; accepted = st.accepted + 1; setup = st.setup; number = st.number } }
remap_by (suc n) st q g f = record { number = suc n; answer = nothing; after = st }

abbrev pub enter : Board → ℕ → ℕ → ℕ → Step
enter st q g f = remap_by (remap_number st q g f) st q g (Some f)

abbrev pub erase : Board → ℕ → ℕ → Step
erase st q g = remap_by (remap_number st q g 0) st q g None

-- the device takes the bus, under the machine's number, and releases it
abbrev pub with_held : Board → Bool → Board
with_held st h = record { procs = st.procs; cpus = st.cpus; mem = st.mem; count = st.count; table = st.table; held = h; accepted = st.accepted; setup = st.setup; number = st.number }

abbrev pub take_number : Board → ℕ
take_number st = or_next st.setup (pick st.held 10 0)

abbrev pub take_bus : ℕ → Board → Step
take_bus zero st = record { number = 0; answer = nothing; after = with_held st true }
take_bus (suc n) st = record { number = suc n; answer = nothing; after = st }

abbrev pub take : Board → Step
take st = take_bus (take_number st) st

-- the bus is held, and by a tenure t of this machine
abbrev pub tenured : Board → ℕ → Bool
tenured st t = both st.held (t == st.number)

abbrev pub release_number : Board → ℕ → ℕ
release_number st t = or_next st.setup (pick (tenured st t) 0 11)

abbrev pub release_bus : ℕ → Board → Step
release_bus zero st = record { number = 0; answer = nothing; after = with_held st false }
release_bus (suc n) st = record { number = suc n; answer = nothing; after = st }

abbrev pub release : Board → ℕ → Step
release st t = release_bus (release_number st t) st

-- a transfer of block b under the tenure t, with a slice of k words
abbrev pub device_number : Board → ℕ → ℕ → ℕ → ℕ
device_number st t b k = or_next (full_number st) (or_next (pick (tenured st t) 0 11) (or_else (nat_le st.count b) 12 (pick (k == block_words) 0 13)))

abbrev pub device_read_by : ℕ → Board → ℕ → Step
device_read_by zero st b =
    let q = read_pass (st.cpus) device b (record { procs = st.procs; mem = st.mem; supplier = memory; acked = false }) in
    record { number = 0; answer = record { level = NoReference; word = slice_index (q.mem b) 0; block = q.mem b; sent = message DeviceRead from_device q.supplier b ∷ [] }; after = counted (with_mem (with_procs st q.procs) q.mem) }
device_read_by (suc n) st b = record { number = suc n; answer = nothing; after = st }

abbrev pub device_read : Board → ℕ → ℕ → ℕ → Step
device_read st t b k = device_read_by (device_number st t b k) st b

abbrev pub device_write_by : ℕ → Board → ℕ → List ℕ → Step
device_write_by zero st b ws =
    record { number = 0; answer = record { level = NoReference; word = 0; block = []; sent = message DeviceWrite from_device no_data b ∷ [] }; after = counted (with_mem (with_procs st (take_pass st.cpus device b st.procs)) (put_block st.mem b ws)) }
device_write_by (suc n) st b ws = record { number = suc n; answer = nothing; after = st }

abbrev pub device_write : Board → ℕ → ℕ → List ℕ → Step
device_write st t b ws = device_write_by (device_number st t b (length ws)) st b ws

-- readings of a V-line or an R-entry by processor, set and way, and of a processor's counts: they change nothing
abbrev pub place_number : Board → ℕ → ℕ → ℕ → ℕ → ℕ → ℕ
place_number st sets ways i s w = or_next st.setup (or_else (nat_le st.cpus i) 4 (pick (nat_le sets s || nat_le ways w) 14 0))

abbrev pub line_number : Board → ℕ → ℕ → ℕ → ℕ
line_number st i s w = place_number st v_sets v_ways i s w

abbrev pub entry_number : Board → ℕ → ℕ → ℕ → ℕ
entry_number st i s w = place_number st r_sets r_ways i s w

abbrev pub counts_number : Board → ℕ → ℕ
counts_number st i = or_next st.setup (pick (nat_le st.cpus i) 4 0)

-- what they tell: an empty line and an absent entry have zeros, false and no child in their other fields
abbrev pub line_told : Board → ℕ → ℕ → ℕ → VLine
line_told st i s w = line_at (cpu_at st i) s w

abbrev pub entry_told : Board → ℕ → ℕ → ℕ → REntry
entry_told st i s w = entry_at (cpu_at st i) s w

pub record CountsTold : Type 0 where
  pub fetched : ℕ
  pub resident : ℕ
  pub replaced : ℕ
  pub invalidated : ℕ

abbrev pub counts_told : Board → ℕ → CountsTold
counts_told st i = let p = cpu_at st i in record { fetched = p.counts.fetched; resident = resident p.r; replaced = p.counts.replaced; invalidated = p.counts.invalidated }

abbrev pub told : ℕ → Board → Step
told n st = record { number = n; answer = nothing; after = st }

-- set-up: the processors are one to four, and the memory's count is a positive multiple of a page's blocks
abbrev pub setup_number : ℕ → ℕ → ℕ
setup_number n c = or_else (nat_le n 0 || nat_lt most_processors n) 1 (pick (c == 0 || nat_le 1 (c % page_blocks)) 2 0)

-- making a machine
abbrev pub made : Rules → ℕ → ℕ → Blocks → ℕ → (ℕ → ℕ → Option ℕ) → Board
made rs n id m c t = record { procs = replicate most_processors (new_processor rs.for_v rs.for_r); cpus = n; mem = m; count = c; table = t; held = false; accepted = 0; setup = setup_number n c; number = id }

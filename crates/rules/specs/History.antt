-- What callers saw of a run, the latest first, and what follows from it with no machine in sight.
use Rattle.std.specs.Prelude.{◌≡◌, ℕ, zero, suc, ◌+◌, ◌*◌, ◌/◌, ◌%◌, ◌<◌, Bool, true, false, List, [], ◌∷◌, ◌++◌, Some, None, Option, ◌==◌, slice_index}
use Rattle.base.specs.Sizes.{block_words}
use Rattle.tables.specs.declared.message.Message.{Message}
use Rattle.tables.specs.declared.message.MessageKind.{MessageKind}
use Rattle.tables.specs.declared.message.MessageKind.TheVariants.{ReadMiss, Invalidation, ReadModifyWrite, WriteBack, DeviceRead, DeviceWrite}
use Rattle.rules.specs.Basic.{pick, both}
use Rattle.tables.specs.Messages.{sender_number}
use Rattle.rules.specs.Bus.{Blocks}
use Rattle.rules.specs.Calls.{Answer, Step, put_frame}
use Rattle.rules.specs.Run.{Call, reading, writing, switching, entering, erasing, taking, releasing, device_reading, device_writing, line_reading, entry_reading, counts_reading}
use Rattle.rules.specs.Sound.{translate}

-- an accepted call with its answer; every refused call, take, release and reading is Nothing
pub data Event : Type 0 where
  Read : ℕ → ℕ → Answer → Event
  Wrote : ℕ → ℕ → ℕ → Answer → Event
  Switched : ℕ → ℕ → Event
  Entered : ℕ → ℕ → ℕ → Event
  Erased : ℕ → ℕ → Event
  DeviceHadRead : ℕ → Answer → Event
  DeviceWrote : ℕ → List ℕ → Answer → Event
  Nothing : Event

abbrev pub History : Type 0
History = List Event

-- the event of a call that was answered with a number, 0 for accepted
abbrev pub accepted : Call → Answer → Event
accepted (reading i a) r = Read i a r
accepted (writing i a x) r = Wrote i a x r
accepted (switching i q) r = Switched i q
accepted (entering q g f) r = Entered q g f
accepted (erasing q g) r = Erased q g
accepted taking r = Nothing
accepted (releasing t) r = Nothing
accepted (device_reading t b k) r = DeviceHadRead b r
accepted (device_writing t b ws) r = DeviceWrote b ws r
accepted (line_reading i s w) r = Nothing
accepted (entry_reading i s w) r = Nothing
accepted (counts_reading i) r = Nothing

abbrev pub event_by : ℕ → Call → Answer → Event
event_by zero c r = accepted c r
event_by (suc n) c r = Nothing

abbrev pub event : Call → Step → Event
event c s = event_by s.number c s.answer

-- what set-up gives: the map's and the memory's meaning; every processor begins with process 0
pub record Setup : Type 0 where
  pub table : ℕ → ℕ → Option ℕ
  pub blocks : Blocks

-- the word of a physical word number at set-up
abbrev pub first_word : Setup → ℕ → ℕ
first_word s n = slice_index (s.blocks (n / block_words)) (n % block_words)

-- the process of a processor: that of the latest accepted switch
abbrev pub process_at : History → ℕ → ℕ
process_at [] i = 0
process_at (Read j a r ∷ h) i = process_at h i
process_at (Wrote j a x r ∷ h) i = process_at h i
process_at (Switched j q ∷ h) i = pick (i == j) q (process_at h i)
process_at (Entered q g f ∷ h) i = process_at h i
process_at (Erased q g ∷ h) i = process_at h i
process_at (DeviceHadRead b r ∷ h) i = process_at h i
process_at (DeviceWrote b ws r ∷ h) i = process_at h i
process_at (Nothing ∷ h) i = process_at h i

-- the frames: those of set-up with the accepted enters and erases since
abbrev pub table_at : Setup → History → ℕ → ℕ → Option ℕ
table_at s [] = s.table
table_at s (Read j a r ∷ h) = table_at s h
table_at s (Wrote j a x r ∷ h) = table_at s h
table_at s (Switched j q ∷ h) = table_at s h
table_at s (Entered q g f ∷ h) = put_frame (table_at s h) q g (Some f)
table_at s (Erased q g ∷ h) = put_frame (table_at s h) q g None
table_at s (DeviceHadRead b r ∷ h) = table_at s h
table_at s (DeviceWrote b ws r ∷ h) = table_at s h
table_at s (Nothing ∷ h) = table_at s h

-- the physical block of an address on a processor, after a history
abbrev pub physical_block : Setup → History → ℕ → ℕ → Option ℕ
physical_block s h i a = translate (table_at s h) (process_at h i) (a / block_words)

-- a word of a block, by its number
abbrev pub word_in : ℕ → ℕ → ℕ
word_in b k = b * block_words + k

-- the event e, which came after the history older, stored v at the physical word n
abbrev pub Stores : Setup → Event → History → ℕ → ℕ → Type 0
Stores s (Read i a r) older n v = ⊥
Stores s (Wrote i a x r) older n v = (b : ℕ) × (physical_block s older i a ≡ Some b) × (n ≡ word_in b (a % block_words)) × (v ≡ x)
Stores s (Switched i q) older n v = ⊥
Stores s (Entered q g f) older n v = ⊥
Stores s (Erased q g) older n v = ⊥
Stores s (DeviceHadRead b r) older n v = ⊥
Stores s (DeviceWrote b ws r) older n v = (k : ℕ) × (k < block_words) × (n ≡ word_in b k) × (v ≡ slice_index ws k)
Stores s Nothing older n v = ⊥

-- no event of newer, which came after the history older, stored anything at the physical word n
abbrev pub Untouched : Setup → History → History → ℕ → Type 0
Untouched s [] older n = Unit {0}
Untouched s (e ∷ es) older n = ((v : ℕ) → Stores s e (es ++ older) n v → ⊥) × Untouched s es older n

-- v is the word of the latest accepted write to the physical word n; failing one, the word at set-up
pub data Latest (s : Setup) (h : History) (n v : ℕ) : Type 0 where
  written : (newer older : History) (e : Event) → h ≡ newer ++ (e ∷ older) → Stores s e older n v → Untouched s newer (e ∷ older) n → Latest s h n v
  at_setup : Untouched s h [] n → v ≡ first_word s n → Latest s h n v

-- messages by which a processor fetches a block
abbrev pub is_fetch : MessageKind → Bool
is_fetch ReadMiss = true
is_fetch Invalidation = false
is_fetch ReadModifyWrite = true
is_fetch WriteBack = false
is_fetch DeviceRead = false
is_fetch DeviceWrite = false

abbrev pub fetches_in : ℕ → List Message → ℕ
fetches_in i [] = 0
fetches_in i (m ∷ ms) = pick (both (is_fetch m.kind) (sender_number m.sender == i)) 1 0 + fetches_in i ms

abbrev pub fetches_of : ℕ → Event → ℕ
fetches_of i (Read j a r) = fetches_in i r.sent
fetches_of i (Wrote j a x r) = fetches_in i r.sent
fetches_of i (Switched j q) = 0
fetches_of i (Entered q g f) = 0
fetches_of i (Erased q g) = 0
fetches_of i (DeviceHadRead b r) = fetches_in i r.sent
fetches_of i (DeviceWrote b ws r) = fetches_in i r.sent
fetches_of i Nothing = 0

-- the read-miss and read-modify-write messages of a processor that the answers of a history hold
abbrev pub fetched_in : ℕ → History → ℕ
fetched_in i [] = 0
fetched_in i (e ∷ h) = fetches_of i e + fetched_in i h

-- The laws of every run.
use Rattle.std.specs.Prelude.{◌≡◌, ℕ, ◌+◌, ◌%◌, ◌<◌, Bool, true, [], ◌∷◌, ◌++◌, length, Some, Option, ◌≢◌, slice_index}
use Rattle.base.specs.Sizes.{block_words}
use Rattle.tables.specs.declared.types.Child.TheVariants.{At}
use Rattle.tables.specs.declared.types.Place.{Place}
use Rattle.tables.specs.declared.types.Processor.{Processor}
use Rattle.rules.specs.Rule.{Lawful}
use Rattle.rules.specs.Cache.{line_at, entry_at}
use Rattle.rules.specs.Bus.{Blocks, modified}
use Rattle.rules.specs.Calls.{Answer, Board, Rules, cpu_at, made}
use Rattle.rules.specs.Run.{Call, perform}
use Rattle.rules.specs.History.{Read, Wrote, DeviceHadRead, History, Latest, Setup, event, fetched_in, physical_block, word_in}
use Rattle.rules.specs.Invariant.{Filled, Present, placed, resident}

-- A run: a new machine with its caches empty, and then any calls, accepted or refused, in any order.
-- The board b has the past h from the set-up s.
pub data Past (rs : Rules) : Setup → History → Board → Type 0 where
  begun : (n id : ℕ) (m : Blocks) (c : ℕ) (t : ℕ → ℕ → Option ℕ) → ((b : ℕ) → length (m b) ≡ block_words) → Past rs (record { table = t; blocks = m }) [] (made rs n id m c t)
  called : {s : Setup} {h : History} {b : Board} (c : Call) → Past rs s h b → Past rs s (event c (perform rs c b) ∷ h) (perform rs c b).after

-- every word answered to an accepted read is that of the latest accepted write before it to its physical word
abbrev pub ReadsLatest : Setup → History → Type 0
ReadsLatest s h = (later earlier : History) (i a : ℕ) (r : Answer) → h ≡ later ++ (Read i a r ∷ earlier)
    → (b : ℕ) × (physical_block s earlier i a ≡ Some b) × Latest s earlier (word_in b (a % block_words)) r.word

-- every accepted write has a physical word
abbrev pub WritesPlaced : Setup → History → Type 0
WritesPlaced s h = (later earlier : History) (i a x : ℕ) (r : Answer) → h ≡ later ++ (Wrote i a x r ∷ earlier) → (b : ℕ) × (physical_block s earlier i a ≡ Some b)

-- every word of an accepted device read is that of the latest accepted write before it to that word
abbrev pub DeviceReadsLatest : Setup → History → Type 0
DeviceReadsLatest s h = (later earlier : History) (b : ℕ) (r : Answer) → h ≡ later ++ (DeviceHadRead b r ∷ earlier)
    → (length r.block ≡ block_words) × ((k : ℕ) → k < block_words → Latest s earlier (word_in b k) (slice_index r.block k))

-- lines and entries of one processor point at each other exactly, and no two lines hold one block
pub record Tied (p : Processor) : Type 0 where
  pub child : (s w : ℕ) → Filled (line_at p s w) → (entry_at p (line_at p s w).rplace.set (line_at p s w).rplace.way).child ≡ At (placed s w) (line_at p s w).dirty
  pub no_other : (s w a b : ℕ) (d : Bool) → Filled (line_at p s w) → (entry_at p a b).child ≡ At (placed s w) d → placed a b ≡ (line_at p s w).rplace
  pub filled : (a b : ℕ) (q : Place) (d : Bool) → (entry_at p a b).child ≡ At q d → Filled (line_at p q.set q.way)
  pub one_line : (s w t u : ℕ) → Filled (line_at p s w) → Filled (line_at p t u)
      → (entry_at p (line_at p s w).rplace.set (line_at p s w).rplace.way).block.0 ≡ (entry_at p (line_at p t u).rplace.set (line_at p t u).rplace.way).block.0 → placed s w ≡ placed t u

-- a block modified in one processor is held by no other
abbrev pub ModifiedAlone : Board → Type 0
ModifiedAlone b = (i j : ℕ) → (i ≢ j) → (s w t u : ℕ) → Present (entry_at (cpu_at b i) s w) → modified (entry_at (cpu_at b i) s w) ≡ true
    → Present (entry_at (cpu_at b j) t u) → (entry_at (cpu_at b i) s w).block.0 ≢ (entry_at (cpu_at b j) t u).block.0

-- blocks fetched are resident, replaced or invalidated, and were each fetched by a message that an answer holds
pub record Balanced (h : History) (b : Board) (i : ℕ) : Type 0 where
  pub balance : (cpu_at b i).counts.fetched ≡ resident (cpu_at b i).r + (cpu_at b i).counts.replaced + (cpu_at b i).counts.invalidated
  pub fetched : (cpu_at b i).counts.fetched ≡ fetched_in i h

-- all of them, of a history from a set-up and the board it leads to; the laws of tables are those of a machine that was
-- set up and of its processors
pub record Laws (s : Setup) (h : History) (b : Board) : Type 0 where
  pub reads : ReadsLatest s h
  pub writes : WritesPlaced s h
  pub devices : DeviceReadsLatest s h
  pub tied : b.setup ≡ 0 → (i : ℕ) → i < b.cpus → Tied (cpu_at b i)
  pub alone : b.setup ≡ 0 → ModifiedAlone b
  pub counts : b.setup ≡ 0 → (i : ℕ) → i < b.cpus → Balanced h b i

-- what holds of every run, for every map's and memory's meaning and every lawful pair of rules
abbrev pub Always : (Setup → History → Board → Type 0) → Type 0
Always P = (rs : Rules) → Lawful rs.for_v → Lawful rs.for_r → (s : Setup) (h : History) (b : Board) → Past rs s h b → P s h b

abbrev pub LawsOfRuns : Type 0
LawsOfRuns = Always Laws

abbrev pub ReadsAnswerLatestWrites : Type 0
ReadsAnswerLatestWrites = Always (λ s h b. ReadsLatest s h × WritesPlaced s h × DeviceReadsLatest s h)

abbrev pub CachesPointAtEachOther : Type 0
CachesPointAtEachOther = Always (λ s h b. b.setup ≡ 0 → (i : ℕ) → i < b.cpus → Tied (cpu_at b i))

abbrev pub ModifiedBlocksHeldOnce : Type 0
ModifiedBlocksHeldOnce = Always (λ s h b. b.setup ≡ 0 → ModifiedAlone b)

abbrev pub FetchedBlocksAccounted : Type 0
FetchedBlocksAccounted = Always (λ s h b. b.setup ≡ 0 → (i : ℕ) → i < b.cpus → Balanced h b i)

-- a refused call leaves everything as it was
abbrev pub RefusalsChangeNothing : Type 0
RefusalsChangeNothing = (rs : Rules) (c : Call) (b : Board) → ((perform rs c b).number ≢ 0) → (perform rs c b).after ≡ b

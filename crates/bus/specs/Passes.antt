-- What a message on the bus does to the other processors and to memory.
use Rattle.std.specs.Prelude.{◌≡◌, ℕ, ◌-◌, ◌^◌, ◌<◌, ◌≤◌, Bool, true, false, List, nat_lt}
use Rattle.memory.specs.declared.memory.Memory as memories
use Rattle.tables.specs.declared.types.Processor.{Processor}
use Rattle.rules.specs.Sizes.{most_processors}
use Rattle.rules.specs.Basic.{pick}
use Rattle.rules.specs.Cache.{r_find, zeros}
use Rattle.rules.specs.Bus.{Blocks, Passed, memory, noted_by, proc_at, read_pass, seen_by, shared_by, take_pass}
use Rattle.caches.specs.Ranged.{Ranged}
use Rattle.bus.specs.declared.pass.Shared.{Shared}

-- the first n processors can see a message: their tables name no place outside, and their counts have room
pub record Snoopable (n : ℕ) (ps : List Processor) : Type 0 where
  pub few : n ≤ most_processors
  pub ranged : (i : ℕ) → i < n → Ranged (proc_at ps i)
  pub room : (i : ℕ) → i < n → (proc_at ps i).counts.invalidated < 2 ^ 32 - 1

-- the invalidation after a read, where the fetch is for a write
abbrev pub taken_by : Bool → ℕ → ℕ → ℕ → Passed → Passed
taken_by false n sender b q = q
taken_by true n sender b q = record { procs = take_pass n sender b q.procs; mem = q.mem; supplier = q.supplier; acked = q.acked }

-- a fetch, seen by the processors below n but for the sender
abbrev pub fetch_pass : Bool → ℕ → ℕ → ℕ → Passed → Passed
fetch_pass x n sender b q = taken_by x n sender b (read_pass n sender b q)

module _ {S : Type 0} (s : memories.Ghosts S) where
  -- a memory's meaning to the rules: its blocks, and zeros past its count
  abbrev pub blocks_of : S → Blocks
  blocks_of x = λ b. pick (nat_lt b (s.count x)) (s.holds x b) zeros

  -- the processors, the memory and what a read came to so far
  abbrev pub passed_of : List Processor → S → Shared → Passed
  passed_of ps x r = record { procs = ps; mem = blocks_of x; supplier = r.supplier; acked = r.acked }

  -- before any processor has seen a read: the memory supplies, and none has acknowledged
  abbrev pub start_of : List Processor → S → Passed
  start_of ps x = record { procs = ps; mem = blocks_of x; supplier = memory; acked = false }

  -- processor i, not the sender, sees a read, and goes from p to q; what the read came to goes from r to t
  pub record Turns (i b : ℕ) (p q : Processor) (x y : S) (r t : Shared) : Type 0 where
    pub sound : s.sound y
    pub count : s.count y ≡ s.count x
    pub processor : q ≡ shared_by (r_find p b) b p
    pub pass : (ps qs : List Processor) → passed_of qs y t ≡ noted_by (seen_by (r_find p b) b p) b i qs (passed_of ps x r)

  -- a read on the bus: the processors go from ps to qs, the memory from x to y
  pub record Shares (n sender b : ℕ) (ps qs : List Processor) (x y : S) (r : Shared) : Type 0 where
    pub sound : s.sound y
    pub count : s.count y ≡ s.count x
    pub pass : passed_of qs y r ≡ read_pass n sender b (start_of ps x)

  -- a fetch: a read and, for a write, an invalidation after it
  pub record Fetches (exclusive : Bool) (n sender b : ℕ) (ps qs : List Processor) (x y : S) (r : Shared) : Type 0 where
    pub sound : s.sound y
    pub count : s.count y ≡ s.count x
    pub pass : passed_of qs y r ≡ fetch_pass exclusive n sender b (start_of ps x)

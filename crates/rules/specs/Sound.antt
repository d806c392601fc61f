-- What holds of one processor at all times, over its tables as functions of set and way.
-- n is the number of R-sets, T the translation of its process (virtual block to physical), f what each block reads as.
use Rattle.std.specs.Prelude.{◌≡◌, ℕ, ◌+◌, ◌/◌, ◌%◌, ◌<◌, ◌≤◌, Bool, true, false, List, length, Some, None, Option, ◌≢◌}
use Rattle.rules.specs.Sizes.{r_sets, page_blocks}
use Rattle.tables.specs.declared.types.EntryState.TheVariants.{Private}
use Rattle.tables.specs.declared.types.Child.TheVariants.{At}
use Rattle.tables.specs.declared.types.Place.{Place}
use Rattle.tables.specs.declared.types.VLine.{VLine}
use Rattle.tables.specs.declared.types.REntry.{REntry}
use Rattle.tables.specs.declared.types.Processor.{Processor}
use Rattle.rules.specs.Cache.{line_at, entry_at, is_absent, is_valid, vdirty_of}
use Rattle.rules.specs.Bus.{Blocks, proc_at, modified}
use Rattle.rules.specs.Invariant.{Filled, Present, placed, Shaped, resident}
use Rattle.rules.specs.Calls.{Board, physical}

-- a filled line l at (a, b), beside the entry e at its R-place
pub record LineOk (T : ℕ → Option ℕ) (f : Blocks) (a b : ℕ) (l : VLine) (e : REntry) : Type 0 where
  pub up : e.child ≡ At (placed a b) l.dirty
  pub words : l.words ≡ f e.block.0
  pub maps : is_valid l.state ≡ true → T l.tag.0 ≡ Some e.block.0
  pub fits : a % page_blocks ≡ l.rplace.set % page_blocks

-- an entry e at (a, b) with a child, beside the line l there
pub record ChildOk (a b : ℕ) (l : VLine) (e : REntry) : Type 0 where
  pub full : Filled l
  pub rplace : l.rplace ≡ placed a b
  pub here : Present e

-- a present entry in the set a
pub record EntryOk (n : ℕ) (f : Blocks) (a : ℕ) (e : REntry) : Type 0 where
  pub in_set : e.block.0 % n ≡ a
  pub words : vdirty_of e.child ≡ false → e.words ≡ f e.block.0
  pub own : modified e ≡ true → e.state ≡ Private

pub record Sound (n : ℕ) (T : ℕ → Option ℕ) (f : Blocks) (L : ℕ → ℕ → VLine) (E : ℕ → ℕ → REntry) : Type 0 where
  pub lines : (a b : ℕ) → Filled (L a b) → LineOk T f a b (L a b) (E (L a b).rplace.set (L a b).rplace.way)
  pub children : (a b : ℕ) (q : Place) (d : Bool) → (E a b).child ≡ At q d → ChildOk a b (L q.set q.way) (E a b)
  pub ents : (a b : ℕ) → Present (E a b) → EntryOk n f a (E a b)
  pub void : (a b : ℕ) → is_absent (E a b).state ≡ true → (E a b).rdirty ≡ false
  pub once : (a b c : ℕ) → Present (E a b) → Present (E a c) → (E a b).block.0 ≡ (E a c).block.0 → b ≡ c

-- one processor
pub record ProcOk (T : ℕ → Option ℕ) (f : Blocks) (p : Processor) : Type 0 where
  pub shaped : Shaped p
  pub sound : Sound r_sets T f (line_at p) (entry_at p)
  pub tally : p.counts.fetched ≡ resident p.r + p.counts.replaced + p.counts.invalidated

-- the translation of a process
abbrev pub physical_by : Option ℕ → ℕ → Option ℕ
physical_by None vb = None
physical_by (Some fr) vb = Some (physical fr vb)

abbrev pub translate : (ℕ → ℕ → Option ℕ) → ℕ → ℕ → Option ℕ
translate t q vb = physical_by (t q (vb / page_blocks)) vb

-- no entry of the block x is modified
abbrev pub Clean : Processor → ℕ → Type 0
Clean p x = (s w : ℕ) → Present (entry_at p s w) → (entry_at p s w).block.0 ≡ x → modified (entry_at p s w) ≡ false

abbrev pub Lacks : Processor → ℕ → Type 0
Lacks p x = (s w : ℕ) → Present (entry_at p s w) → (entry_at p s w).block.0 ≢ x

-- the whole machine: processors, memory and tables
pub record Inv (n : ℕ) (table : ℕ → ℕ → Option ℕ) (f mem : Blocks) (ps : List Processor) : Type 0 where
  pub few : n ≤ length ps
  pub each : (i : ℕ) → i < n → ProcOk (translate table (proc_at ps i).process.0) f (proc_at ps i)
  pub idle : (i s w : ℕ) → n ≤ i → is_absent (entry_at (proc_at ps i) s w).state ≡ true
  pub apart : (i j : ℕ) → (i ≢ j) → (s w t u : ℕ) → (entry_at (proc_at ps i) s w).state ≡ Private → Present (entry_at (proc_at ps j) t u)
      → (entry_at (proc_at ps i) s w).block.0 ≢ (entry_at (proc_at ps j) t u).block.0
  pub memory : (x : ℕ) → ((i : ℕ) → Clean (proc_at ps i) x) → mem x ≡ f x

abbrev pub InvOf : Board → Blocks → Type 0
InvOf st f = Inv st.cpus st.table f st.mem st.procs

-- What the steps of a reference do to the processor that makes it.
use Rattle.std.specs.Prelude.{◌≡◌, ℕ, ◌%◌, ◌<◌, Bool, true, false, ◌==◌}
use Rattle.lines.specs.declared.line.Level.TheVariants.{RHit, Synonym}
use Rattle.steps.specs.declared.found.Found.{Found}
use Rattle.steps.specs.declared.found.Room.{Room}
use Rattle.tables.specs.declared.types.Child.{Child}
use Rattle.tables.specs.declared.types.Child.TheVariants.{NoChild, At}
use Rattle.tables.specs.declared.types.Place.{Place}
use Rattle.tables.specs.declared.types.REntry.{REntry}
use Rattle.tables.specs.declared.types.Processor.{Processor}
use Rattle.rules.specs.Rule.{Rule}
use Rattle.rules.specs.Cache.{entry_at, evict, filled, free_child, free_line, line_at, moved, put_entry, put_line, r_way, retagged, v_used, v_way, with_counts, count_fetched, r_loaded, v_loaded}
use Rattle.rules.specs.Calls.{Attached}
use Rattle.rules.specs.Sizes.{v_sets, v_ways}

-- a processor q and an answer are those of the rules
pub record Attaches (q : Processor) (r : Found) (a : Attached) : Type 0 where
  pub processor : q ≡ a.cpu
  pub way : r.way ≡ a.way
  pub level : r.level ≡ a.level
  pub within : r.way < v_ways

-- the line of the entry at the place h, whose child is given, under the tag g: attach, but for the use of the entry
abbrev pub linked_same : Bool → Rule → Processor → ℕ → Place → Place → Attached
linked_same true rv p g q h = record { cpu = v_used rv (put_line p q.set q.way (retagged (line_at p q.set q.way) g)) q.set q.way; way = q.way; level = Synonym }
linked_same false rv p g q h =
    let u = v_way rv p (g % v_sets) in
    let p₁ = free_line p (g % v_sets) u in
    record { cpu = v_loaded rv (moved p₁ q.set q.way (g % v_sets) u h.set h.way g) (g % v_sets) u; way = u; level = Synonym }

abbrev pub linked : Child → Rule → Processor → ℕ → Place → Attached
linked (At q d) rv p g h = linked_same (q.set == g % v_sets) rv p g q h
linked NoChild rv p g h =
    let u = v_way rv p (g % v_sets) in
    let p₁ = free_line p (g % v_sets) u in
    record { cpu = v_loaded rv (filled p₁ (g % v_sets) u h.set h.way g) (g % v_sets) u; way = u; level = RHit }

module _ (rv rr : Rule) (p : Processor) (s h : ℕ) where
  -- a V-way of the set s freed
  abbrev pub line_freed : Processor
  line_freed = free_line p s (v_way rv p s)

  -- the R-way of the set h that is next
  abbrev pub next_entry : ℕ
  next_entry = r_way rr line_freed h

  -- its child freed
  abbrev pub child_freed : Processor
  child_freed = free_child line_freed (entry_at line_freed h next_entry).child

  -- room for a block: the processor after it, and the ways
  pub record Rooms (q : Processor) (r : Room) : Type 0 where
    pub processor : q ≡ evict child_freed h next_entry
    pub line_way : r.line_way ≡ v_way rv p s
    pub entry_way : r.entry_way ≡ next_entry
    pub replaced : r.replaced ≡ entry_at child_freed h next_entry

-- the entry n comes in at (h, k), and a line is filled from it at (s, u) under the tag g
abbrev pub installed : Rule → Rule → Processor → ℕ → ℕ → ℕ → ℕ → ℕ → REntry → Processor
installed rv rr p s u h k g n = r_loaded rr (v_loaded rv (filled (with_counts (put_entry p h k n) (count_fetched p.counts)) s u h k g) s u) h k

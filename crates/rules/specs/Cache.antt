-- One processor: its lines, entries and what the rules do to them.
use Rattle.std.specs.Prelude.{ℕ, ◌+◌, ◌%◌, Bool, true, false, not, ◌||◌, List, [], ◌∷◌, map, replicate, Some, None, Option, ◌==◌, nat_lt, slice_index, slice_index_or, slice_set}
use Rattle.replacement.specs.Sizes.{ways}
use Rattle.rules.specs.Sizes.{v_sets, v_ways, r_sets, r_ways}
use Rattle.tables.specs.declared.types.LineState.{LineState}
use Rattle.tables.specs.declared.types.LineState.TheVariants.{Empty, Valid, Swapped}
use Rattle.tables.specs.declared.types.EntryState.{EntryState}
use Rattle.tables.specs.declared.types.EntryState.TheVariants.{Absent, Private, Shared}
use Rattle.tables.specs.declared.types.Child.{Child}
use Rattle.tables.specs.declared.types.Child.TheVariants.{NoChild, At}
use Rattle.tables.specs.declared.types.Place.{Place}
use Rattle.tables.specs.declared.types.VLine.{VLine}
use Rattle.tables.specs.declared.types.REntry.{REntry}
use Rattle.tables.specs.declared.types.Counts.{Counts}
use Rattle.tables.specs.declared.types.Processor.{Processor}
use Rattle.rules.specs.Basic.{pick, first_below, with_default, both, flags}
use Rattle.rules.specs.Rule.{Rule}

abbrev pub nowhere : Place
nowhere = record { set = 0; way = 0 }

abbrev pub zeros : List ℕ
zeros = 0 ∷ 0 ∷ 0 ∷ 0 ∷ []

abbrev pub no_line : VLine
no_line = record { state = Empty; tag = record { 0 = 0 }; words = zeros; dirty = false; rplace = nowhere }

abbrev pub no_entry : REntry
no_entry = record { state = Absent; block = record { 0 = 0 }; words = zeros; rdirty = false; child = NoChild }

abbrev pub is_empty : LineState → Bool
is_empty Empty = true
is_empty Valid = false
is_empty Swapped = false

abbrev pub is_valid : LineState → Bool
is_valid Empty = false
is_valid Valid = true
is_valid Swapped = false

abbrev pub is_absent : EntryState → Bool
is_absent Absent = true
is_absent Private = false
is_absent Shared = false

abbrev pub is_shared : EntryState → Bool
is_shared Absent = false
is_shared Private = false
is_shared Shared = true

abbrev pub is_nil : Child → Bool
is_nil NoChild = true
is_nil (At p d) = false

abbrev pub vdirty_of : Child → Bool
vdirty_of NoChild = false
vdirty_of (At p d) = d

-- what Rattle's own reading of an array has past the end: the first variant, 0, false and the empty list
abbrev pub past_line : VLine
past_line = record { state = Empty; tag = record { 0 = 0 }; words = []; dirty = false; rplace = nowhere }

abbrev pub past_entry : REntry
past_entry = record { state = Absent; block = record { 0 = 0 }; words = []; rdirty = false; child = NoChild }

-- reading and putting by set and way
abbrev pub line_at : Processor → ℕ → ℕ → VLine
line_at p s w = slice_index_or (slice_index_or p.v s []) w past_line

abbrev pub entry_at : Processor → ℕ → ℕ → REntry
entry_at p s w = slice_index_or (slice_index_or p.r s []) w past_entry

abbrev pub put_line : Processor → ℕ → ℕ → VLine → Processor
put_line p s w l = record { v = slice_set p.v s (slice_set (slice_index_or p.v s []) w l); r = p.r; vrule = p.vrule; rrule = p.rrule; process = p.process; counts = p.counts }

abbrev pub put_entry : Processor → ℕ → ℕ → REntry → Processor
put_entry p s w e = record { v = p.v; r = slice_set p.r s (slice_set (slice_index_or p.r s []) w e); vrule = p.vrule; rrule = p.rrule; process = p.process; counts = p.counts }

abbrev pub with_v : Processor → List (List VLine) → Processor
with_v p v = record { v = v; r = p.r; vrule = p.vrule; rrule = p.rrule; process = p.process; counts = p.counts }

abbrev pub with_vrule : Processor → List ℕ → Processor
with_vrule p ws = record { v = p.v; r = p.r; vrule = ws; rrule = p.rrule; process = p.process; counts = p.counts }

abbrev pub with_rrule : Processor → List ℕ → Processor
with_rrule p ws = record { v = p.v; r = p.r; vrule = p.vrule; rrule = ws; process = p.process; counts = p.counts }

abbrev pub with_counts : Processor → Counts → Processor
with_counts p c = record { v = p.v; r = p.r; vrule = p.vrule; rrule = p.rrule; process = p.process; counts = c }

-- a valid line with the tag hits; a swapped one does not
abbrev pub hits : ℕ → VLine → Bool
hits t l = both (is_valid l.state) (l.tag.0 == t)

-- the lowest way of the V-set that hits
abbrev pub v_find : Processor → ℕ → Option ℕ
v_find p vb = first_below v_ways (λ w. hits vb (line_at p (vb % v_sets) w))

abbrev pub holds : ℕ → REntry → Bool
holds b e = both (not (is_absent e.state)) (e.block.0 == b)

-- the lowest way of the R-set whose entry is present with the block
abbrev pub r_find : Processor → ℕ → Option ℕ
r_find p b = first_below r_ways (λ w. holds b (entry_at p (b % r_sets) w))

-- the entry takes a line's words where the line is dirty, and has no child any more
abbrev pub unlinked : REntry → VLine → REntry
unlinked e l = record { state = e.state; block = e.block; words = pick l.dirty l.words e.words; rdirty = l.dirty || e.rdirty; child = NoChild }

abbrev pub free_filled : Processor → ℕ → ℕ → VLine → Processor
free_filled p s w l = put_line (put_entry p l.rplace.set l.rplace.way (unlinked (entry_at p l.rplace.set l.rplace.way) l)) s w no_line

abbrev pub free_line_by : LineState → Processor → ℕ → ℕ → VLine → Processor
free_line_by Empty p s w l = p
free_line_by Valid p s w l = free_filled p s w l
free_line_by Swapped p s w l = free_filled p s w l

-- a V-line is emptied, and its dirty words go to its entry
abbrev pub free_line : Processor → ℕ → ℕ → Processor
free_line p s w = free_line_by (line_at p s w).state p s w (line_at p s w)

-- the V-way to free: the lowest empty one, else the rule's choice of all
abbrev pub v_way : Rule → Processor → ℕ → ℕ
v_way ru p s = with_default (first_below v_ways (λ w. is_empty (line_at p s w).state)) (ru.choice (slice_index p.vrule s) (flags ways (λ w. nat_lt w v_ways)))

abbrev pub childless : REntry → Bool
childless e = is_nil e.child

abbrev pub r_choice : Rule → ℕ → List Bool → Option ℕ → ℕ
r_choice ru word free None = ru.choice word (flags ways (λ w. nat_lt w r_ways))
r_choice ru word free (Some k) = ru.choice word free

-- the R-way to free: the lowest absent one, else the rule's choice among the entries without child, else among all
abbrev pub r_way : Rule → Processor → ℕ → ℕ
r_way ru p s =
    let f : ℕ → Bool = λ w. childless (entry_at p s w) in
    with_default (first_below r_ways (λ w. is_absent (entry_at p s w).state)) (r_choice ru (slice_index p.rrule s) (flags ways (λ w. both (nat_lt w r_ways) (f w))) (first_below r_ways f))

-- an entry's child, if any, is freed as a V-line is
abbrev pub free_child : Processor → Child → Processor
free_child p NoChild = p
free_child p (At q d) = free_line p q.set q.way

abbrev pub count_replaced : Counts → Counts
count_replaced c = record { fetched = c.fetched; replaced = c.replaced + 1; invalidated = c.invalidated }

abbrev pub count_fetched : Counts → Counts
count_fetched c = record { fetched = c.fetched + 1; replaced = c.replaced; invalidated = c.invalidated }

abbrev pub count_invalidated : Counts → Counts
count_invalidated c = record { fetched = c.fetched; replaced = c.replaced; invalidated = c.invalidated + 1 }

abbrev pub evict_by : EntryState → Processor → ℕ → ℕ → Processor
evict_by Absent p s w = p
evict_by Private p s w = with_counts (put_entry p s w no_entry) (count_replaced p.counts)
evict_by Shared p s w = with_counts (put_entry p s w no_entry) (count_replaced p.counts)

-- the entry at (s, w) becomes absent, and counts as replaced where it was present
abbrev pub evict : Processor → ℕ → ℕ → Processor
evict p s w = evict_by (entry_at p s w).state p s w

-- the replacement word of a set after a way of it was used or loaded
abbrev pub v_used : Rule → Processor → ℕ → ℕ → Processor
v_used ru p s w = with_vrule p (slice_set p.vrule s (ru.used (slice_index p.vrule s) w))

abbrev pub v_loaded : Rule → Processor → ℕ → ℕ → Processor
v_loaded ru p s w = with_vrule p (slice_set p.vrule s (ru.loaded (slice_index p.vrule s) w))

abbrev pub r_used : Rule → Processor → ℕ → ℕ → Processor
r_used ru p s w = with_rrule p (slice_set p.rrule s (ru.used (slice_index p.rrule s) w))

abbrev pub r_loaded : Rule → Processor → ℕ → ℕ → Processor
r_loaded ru p s w = with_rrule p (slice_set p.rrule s (ru.loaded (slice_index p.rrule s) w))

-- a synonym in the same V-set: the line becomes valid under the new tag
abbrev pub retagged : VLine → ℕ → VLine
retagged l t = record { state = Valid; tag = record { 0 = t }; words = l.words; dirty = l.dirty; rplace = l.rplace }

abbrev pub with_child : REntry → Child → REntry
with_child e c = record { state = e.state; block = e.block; words = e.words; rdirty = e.rdirty; child = c }

abbrev pub with_state : REntry → EntryState → REntry
with_state e h = record { state = h; block = e.block; words = e.words; rdirty = e.rdirty; child = e.child }

-- a synonym in another V-set: the line at (s, w) goes to (t, u) with words and dirty flag, under the tag g; its entry is at (rs, rw)
abbrev pub moved : Processor → ℕ → ℕ → ℕ → ℕ → ℕ → ℕ → ℕ → Processor
moved p s w t u rs rw g =
    let l = line_at p s w in
    let e = entry_at p rs rw in
    put_entry (put_line (put_line p s w no_line) t u (retagged l g)) rs rw (with_child e (At (record { set = t; way = u }) (vdirty_of e.child)))

-- the line (t, u) is filled from the entry (rs, rw), valid and clean
abbrev pub filled : Processor → ℕ → ℕ → ℕ → ℕ → ℕ → Processor
filled p t u rs rw g =
    let e = entry_at p rs rw in
    put_entry (put_line p t u (record { state = Valid; tag = record { 0 = g }; words = e.words; dirty = false; rplace = record { set = rs; way = rw } })) rs rw
    (with_child e (At (record { set = t; way = u }) false))

-- a write's word goes into the line (t, u), which is then dirty, and its entry's child vdirty
abbrev pub marked_dirty : Child → Child
marked_dirty NoChild = NoChild
marked_dirty (At q d) = At q true

abbrev pub stored : Processor → ℕ → ℕ → ℕ → ℕ → Processor
stored p t u k x =
    let l = line_at p t u in
    let e = entry_at p l.rplace.set l.rplace.way in
    put_entry (put_line p t u (record { state = l.state; tag = l.tag; words = slice_set l.words k x; dirty = true; rplace = l.rplace })) l.rplace.set l.rplace.way
    (with_child e (marked_dirty e.child))

-- a switch, enter and erase: valid lines become swapped
abbrev pub swap_state : LineState → LineState
swap_state Empty = Empty
swap_state Valid = Swapped
swap_state Swapped = Swapped

abbrev pub swap_line : VLine → VLine
swap_line l = record { state = swap_state l.state; tag = l.tag; words = l.words; dirty = l.dirty; rplace = l.rplace }

abbrev pub swap_all : Processor → ℕ → Processor
swap_all p proc = record { v = map (map swap_line) p.v; r = p.r; vrule = p.vrule; rrule = p.rrule; process = record { 0 = proc }; counts = p.counts }

-- a new processor: empty caches, the rules' first words, process 0, nothing counted
abbrev pub new_processor : Rule → Rule → Processor
new_processor vr rr = record { v = replicate v_sets (replicate v_ways no_line); r = replicate r_sets (replicate r_ways no_entry); vrule = replicate v_sets vr.first; rrule = replicate r_sets rr.first; process = record { 0 = 0 }; counts = record { fetched = 0; replaced = 0; invalidated = 0 } }

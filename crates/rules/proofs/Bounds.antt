-- Bounds that hold after every run: on the blocks in the R-caches, on the accepted calls, and on what a processor counts.
use Rattle.std.proofs.Common.{◌≡◌, ℕ, zero, suc, ◌+◌, ◌%◌, ◌<◌, ◌≤◌, Bool, true, false, ◌||◌, eqb, leb, List, [], ◌∷◌, ◌++◌, map, length, get_or, set, Some, None, Option, sym, refl, ap, ◌∙◌, subst, arith, get_or-set_other}
use Rattle.std.proofs.lemmas.Bool.{eqb-false, leb-false}
use Rattle.base.specs.Sizes.{addresses, block_words, frames, pages, processes}
use Rattle.tables.specs.declared.types.LineState.{LineState}
use Rattle.tables.specs.declared.types.LineState.TheVariants.{Empty, Valid, Swapped}
use Rattle.tables.specs.declared.types.EntryState.{EntryState}
use Rattle.tables.specs.declared.types.EntryState.TheVariants.{Absent, Private, Shared}
use Rattle.tables.specs.declared.types.Child.{Child}
use Rattle.tables.specs.declared.types.Child.TheVariants.{NoChild, At}
use Rattle.tables.specs.declared.types.REntry.{REntry}
use Rattle.tables.specs.declared.types.Processor.{Processor}
use Rattle.tables.specs.declared.types.Snoop.{Snoop}
use Rattle.tables.specs.declared.types.Snoop.TheVariants.{NotHeld, Held as HeldClean, Supplied}
use Rattle.tables.specs.declared.message.Message.{Message}
use Rattle.tables.specs.Messages.{sender_number}
use Rattle.rules.specs.Sizes.{v_sets, r_sets, most_accepted}
use Rattle.rules.specs.Basic.{pick, both}
use Rattle.rules.specs.Rule.{Rule, Lawful}
use Rattle.rules.specs.Cache.{entry_at, line_at, put_entry, past_entry, no_entry, is_absent, is_shared, free_line, free_line_by, free_child, evict, evict_by, filled, moved, stored, swap_all, v_find, r_find, v_way, r_way, r_loaded, v_loaded, with_v, with_counts, count_fetched}
use Rattle.rules.specs.Bus.{Passed, clean_at, device, empty_at, from_cpu, message, modified, no_processor, noted_by, proc_at, read_pass, read_skip, seen_by, shared_by, shared_held, take_by, take_pass, take_skip}
use Rattle.rules.specs.Calls.{Answer, Board, Rules, Ref, Reached, attach, attach_same, block_of, completed, cpu_at, device_number, device_read_by, device_write_by, fetch_kind, fetch_state, frame_number, frame_of, full_number, is_write, make_ref, miss_by, needs_upgrade, nothing, or_else, or_next, physical, put_cpu, r_hit, r_miss, r_number, reach, reach_by, ref_number, refer, release_bus, release_number, remap_by, remap_number, snooped_by, swap_page, swap_pages, switch_by, switch_number, take_bus, take_number, tenured, told, counts_number, entry_number, line_number, made, upgrade_by, upgrade_sent, v_hit, v_number, write_back_by, write_back_sent}
use Rattle.rules.specs.Run.{Call, reading, writing, switching, entering, erasing, taking, releasing, device_reading, device_writing, line_reading, entry_reading, counts_reading, perform}
use Rattle.rules.specs.Invariant.{Present}
use Rattle.rules.specs.Bus.{Blocks}
use Rattle.rules.specs.History.{Event, Nothing, History, Setup, accepted, event, fetched_in, fetches_in, fetches_of, is_fetch, process_at}
use Rattle.rules.specs.Laws.{Past, begun, called}
use Rattle.rules.specs.Ready.{Ready, Small}
use Rattle.rules.proofs.Cells.{empty_filled}
use Rattle.rules.proofs.Seek.{both_true, r_found}
use Rattle.rules.proofs.Others.{new_inv}
use Rattle.rules.proofs.Fetched.{set_keeps}
use Rattle.rules.proofs.Runs.{Held, or_next_lem, or_else_lem, past_held}

-- what else holds after every run: every block in an R-cache is one of the memory's, no processor fetched more blocks
-- than calls were accepted, and these are at most as many as are allowed
pub record Bounded (h : History) (st : Board) : Type 0 where
  pub below : (i s w : ℕ) → Present (entry_at (cpu_at st i) s w) → (entry_at (cpu_at st i) s w).block.0 < st.count
  pub few : (i : ℕ) → fetched_in i h ≤ st.accepted
  pub most : st.accepted ≤ most_accepted

-- the present entries of a processor, and of all of them, are of blocks below c
abbrev Below : ℕ → REntry → Type 0
Below c e = Present e → e.block.0 < c

abbrev AllBelow : ℕ → Processor → Type 0
AllBelow c p = (s w : ℕ) → Below c (entry_at p s w)

abbrev EachBelow : ℕ → List Processor → Type 0
EachBelow c ps = (i : ℕ) → AllBelow c (proc_at ps i)

absent_below : (c : ℕ) (e : REntry) → is_absent e.state ≡ true → Below c e
absent_below c e a p = absurd (empty_filled (is_absent e.state) a p)

entry_below : (c : ℕ) (p : Processor) (s w : ℕ) (e : REntry) → Below c e → AllBelow c p → AllBelow c (put_entry p s w e)
entry_below c p s w e new A a b =
    set_keeps (λ k (row : List REntry). (j : ℕ) → Below c (get_or row j past_entry)) p.r s a (set (get_or p.r s []) w e) []
    (λ j. set_keeps (λ k (x : REntry). Below c x) (get_or p.r s []) w j e past_entry new (A s j)) (A a) b

none_below : (c : ℕ) (p : Processor) (s w : ℕ) → AllBelow c p → AllBelow c (put_entry p s w no_entry)
none_below c p s w A = entry_below c p s w no_entry (absent_below c no_entry refl) A

cpu_below : (c : ℕ) (ps : List Processor) (i : ℕ) (p : Processor) → AllBelow c p → EachBelow c ps → EachBelow c (set ps i p)
cpu_below c ps i p new A j = set_keeps (λ k (x : Processor). AllBelow c x) ps i j p no_processor new (A j)

-- one processor's own steps
free_below : (c : ℕ) (p : Processor) (s w : ℕ) → AllBelow c p → AllBelow c (free_line p s w)
free_below c p s w A = go (line_at p s w).state
  where
    full : AllBelow c (free_line_by Valid p s w (line_at p s w))
    full = let q = (line_at p s w).rplace in entry_below c p q.set q.way _ (A q.set q.way) A

    go : (t : LineState) → AllBelow c (free_line_by t p s w (line_at p s w))
    go Empty = A
    go Valid = full
    go Swapped = full

child_below : (c : ℕ) (p : Processor) (t : Child) → AllBelow c p → AllBelow c (free_child p t)
child_below c p NoChild A = A
child_below c p (At q d) A = free_below c p q.set q.way A

evict_below : (c : ℕ) (p : Processor) (s w : ℕ) → AllBelow c p → AllBelow c (evict p s w)
evict_below c p s w A = go (entry_at p s w).state
  where
    go : (t : EntryState) → AllBelow c (evict_by t p s w)
    go Absent = A
    go Private = none_below c p s w A
    go Shared = none_below c p s w A

filled_below : (c : ℕ) (p : Processor) (t u rs rw g : ℕ) → AllBelow c p → AllBelow c (filled p t u rs rw g)
filled_below c p t u rs rw g A = entry_below c p rs rw _ (A rs rw) A

moved_below : (c : ℕ) (p : Processor) (s w t u rs rw g : ℕ) → AllBelow c p → AllBelow c (moved p s w t u rs rw g)
moved_below c p s w t u rs rw g A = entry_below c p rs rw _ (A rs rw) A

stored_below : (c : ℕ) (p : Processor) (t u k x : ℕ) → AllBelow c p → AllBelow c (stored p t u k x)
stored_below c p t u k x A = let q = (line_at p t u).rplace in entry_below c p q.set q.way _ (A q.set q.way) A

attach_below : (c : ℕ) (t : Child) (rv rr : Rule) (p : Processor) (vb b k : ℕ) → AllBelow c p → AllBelow c (attach t rv rr p vb b k).cpu
attach_below c NoChild rv rr p vb b k A =
    let u = v_way rv p (vb % v_sets) in
    filled_below c (free_line p (vb % v_sets) u) (vb % v_sets) u (b % r_sets) k vb (free_below c p (vb % v_sets) u A)
attach_below c (At q d) rv rr p vb b k A = go (eqb q.set (vb % v_sets))
  where
    go : (t : Bool) → AllBelow c (attach_same t rv rr p vb q.set q.way b k).cpu
    go true = A
    go false =
        let u = v_way rv p (vb % v_sets) in
        moved_below c (free_line p (vb % v_sets) u) q.set q.way (vb % v_sets) u (b % r_sets) k vb (free_below c p (vb % v_sets) u A)

-- the pass that takes a block away
take_below : (c k sender b : ℕ) (ps : List Processor) → EachBelow c ps → EachBelow c (take_pass k sender b ps)
take_below c zero sender b ps A = A
take_below c (suc i) sender b ps A = go (take_below c i sender b ps A) (eqb i sender)
  where
    qs : List Processor
    qs = take_pass i sender b ps

    emptied : (p : Processor) (t : Child) → AllBelow c p → AllBelow c (empty_at p t)
    emptied p NoChild Q = Q
    emptied p (At q d) Q = Q

    taken : (o : Option ℕ) (p : Processor) → AllBelow c p → AllBelow c (take_by o b p)
    taken None p Q = Q
    taken (Some w) p Q = let t = (entry_at p (b % r_sets) w).child in none_below c (empty_at p t) (b % r_sets) w (emptied p t Q)

    go : EachBelow c qs → (t : Bool) → EachBelow c (take_skip t b i qs)
    go old true = old
    go old false = cpu_below c qs i (take_by (r_find (proc_at qs i) b) b (proc_at qs i)) (taken (r_find (proc_at qs i) b) (proc_at qs i) (old i)) old

-- its sender stays as it was
take_sender : (k i b : ℕ) (ps : List Processor) → proc_at (take_pass k i b ps) i ≡ proc_at ps i
take_sender zero i b ps = refl
take_sender (suc k) i b ps = go (eqb k i) refl ∙ take_sender k i b ps
  where
    go : (t : Bool) → eqb k i ≡ t → proc_at (take_skip t b k (take_pass k i b ps)) i ≡ proc_at (take_pass k i b ps) i
    go true e = refl
    go false e = get_or-set_other (take_pass k i b ps) k i _ no_processor (λ z. eqb-false k i e (sym z))

-- the pass that reads a block: an entry that becomes shared was present
shared_below : (c b : ℕ) (p : Processor) → AllBelow c p → AllBelow c (shared_by (r_find p b) b p)
shared_below c b p A = go (r_find p b) refl
  where
    cleaned : (t : Child) → AllBelow c (clean_at p t)
    cleaned NoChild = A
    cleaned (At q d) = A

    held : (w : ℕ) → Present (entry_at p (b % r_sets) w) → (t : Bool) → AllBelow c (shared_held t (b % r_sets) w p (entry_at p (b % r_sets) w))
    held w here true = let t = (entry_at p (b % r_sets) w).child in entry_below c (clean_at p t) (b % r_sets) w _ (λ z. A (b % r_sets) w here) (cleaned t)
    held w here false = entry_below c p (b % r_sets) w _ (λ z. A (b % r_sets) w here) A

    go : (o : Option ℕ) → r_find p b ≡ o → AllBelow c (shared_by o b p)
    go None e = A
    go (Some w) e = held w (r_found p b w e).0 (modified (entry_at p (b % r_sets) w))

read_below : (c k sender b : ℕ) (q : Passed) → EachBelow c q.procs → EachBelow c (read_pass k sender b q).procs
read_below c zero sender b q A = A
read_below c (suc i) sender b q A = go (read_below c i sender b q A) (eqb i sender)
  where
    r : Passed
    r = read_pass i sender b q

    noted : (s : Snoop) (ps : List Processor) → EachBelow c ps → EachBelow c (noted_by s b i ps r).procs
    noted NotHeld ps Q = Q
    noted HeldClean ps Q = Q
    noted (Supplied ws) ps Q = Q

    go : EachBelow c r.procs → (t : Bool) → EachBelow c (read_skip t b i r).procs
    go old true = old
    go old false =
        let p = proc_at r.procs i in
        noted (seen_by (r_find p b) b p) (set r.procs i (shared_by (r_find p b) b p)) (cpu_below c r.procs i (shared_by (r_find p b) b p) (shared_below c b p (old i)) old)

snoop_below : (c : ℕ) (x : Bool) (i b : ℕ) (st : Board) → EachBelow c st.procs → EachBelow c (snooped_by x i b st).procs
snoop_below c false i b st A = read_below c st.cpus i b _ A
snoop_below c true i b st A = take_below c st.cpus i b _ (read_below c st.cpus i b _ A)

-- remapping
remap_below : (c q g : ℕ) (ps : List Processor) → EachBelow c ps → EachBelow c (map (swap_pages q g) ps)
remap_below c q g [] A i = A i
remap_below c q g (p ∷ ps) A zero = go (eqb p.process.0 q)
  where
    go : (t : Bool) → AllBelow c (pick t (with_v p (map (map (swap_page g)) p.v)) p)
    go true = A 0
    go false = A 0
remap_below c q g (p ∷ ps) A (suc i) = remap_below c q g ps (λ j. A (suc j)) i

-- at most one message of a reference is a fetch
pick_few : (t : Bool) → pick t 1 0 ≤ 1
pick_few true = omega arith
pick_few false = omega arith

one_few : (j : ℕ) (m : Message) → fetches_in j (m ∷ []) ≤ 1
one_few j m = let z = pick_few (both (is_fetch m.kind) (eqb (sender_number m.sender) j)) in omega arith

upgrade_few : (t : Bool) (st : Board) (i rs rw j : ℕ) → fetches_in j (upgrade_sent t st i rs rw) ≤ 1
upgrade_few false st i rs rw j = omega arith
upgrade_few true st i rs rw j = omega arith

miss_few : (t : Bool) (i j : ℕ) (e : REntry) (m : Message) → fetches_in j (write_back_sent t i e ++ (m ∷ [])) ≤ 1
miss_few false i j e m = one_few j m
miss_few true i j e m = let z = one_few j m in omega arith

-- a reference, up to its answer
record Kept (st st' : Board) : Type 0 where
  each : EachBelow st.count st'.procs
  count : st'.count ≡ st.count
  accepted : st'.accepted ≡ st.accepted

record Reaches (st : Board) (a : Reached) : Type 0 where
  kept : Kept st a.at
  few : (j : ℕ) → fetches_in j a.sent ≤ 1

-- a processor of the board is put anew
cpu_kept : (st st' : Board) (i : ℕ) (p : Processor) → AllBelow st.count p → Kept st st' → Kept st (put_cpu st' i p)
cpu_kept st st' i p new K = record { each = cpu_below st.count st'.procs i p new K.each; count = K.count; accepted = K.accepted }

needs_present : (v : Option ℕ) (e : REntry) → needs_upgrade v e ≡ true → Present e
needs_present v e h = go e.state (both_true (is_write v) (is_shared e.state) h).1
  where
    go : (t : EntryState) → is_shared t ≡ true → is_absent t ≡ false
    go Absent z = sym z
    go Private z = refl
    go Shared z = refl

upgrade_kept : (st : Board) (t : Bool) (i rs rw : ℕ) → (t ≡ true → Present (entry_at (cpu_at st i) rs rw)) → EachBelow st.count st.procs → Kept st (upgrade_by t st i rs rw)
upgrade_kept st false i rs rw here A = record { each = A; count = refl; accepted = refl }
upgrade_kept st true i rs rw here A =
    let b = (entry_at (cpu_at st i) rs rw).block.0 in
    let ps = take_pass st.cpus i b st.procs in
    let Q = take_below st.count st.cpus i b st.procs A in
    let stays : Present (entry_at (proc_at ps i) rs rw) = subst (λ (p : Processor). Present (entry_at p rs rw)) (sym (take_sender st.cpus i b st.procs)) (here refl) in
    record { each = cpu_below st.count ps i _ (entry_below st.count (proc_at ps i) rs rw _ (λ z. Q i rs rw stays) (Q i)) Q; count = refl; accepted = refl }

hit_reaches : (rs : Rules) (st : Board) (r : Ref) (w : ℕ) → EachBelow st.count st.procs → Reaches st (v_hit rs st r w)
hit_reaches rs st r w A =
    let i = r.cpu in
    let q = (line_at (cpu_at st i) (r.vb % v_sets) w).rplace in
    let e = entry_at (cpu_at st i) q.set q.way in
    let t = needs_upgrade r.value e in
    let st₁ = upgrade_by t st i q.set q.way in
    let K = upgrade_kept st t i q.set q.way (needs_present r.value e) A in
    record { kept = cpu_kept st st₁ i _ (K.each i) K; few = upgrade_few t st i q.set q.way }

r_hit_reaches : (rs : Rules) (st : Board) (r : Ref) (b k : ℕ) → EachBelow st.count st.procs → Reaches st (r_hit rs st r b k)
r_hit_reaches rs st r b k A =
    let i = r.cpu in
    let e = entry_at (cpu_at st i) (b % r_sets) k in
    let t = needs_upgrade r.value e in
    let st₁ = upgrade_by t st i (b % r_sets) k in
    let K = upgrade_kept st t i (b % r_sets) k (needs_present r.value e) A in
    record { kept = cpu_kept st st₁ i _ (attach_below st.count e.child rs.for_v rs.for_r (cpu_at st₁ i) r.vb b k (K.each i)) K; few = upgrade_few t st i (b % r_sets) k }

back_kept : (st st' : Board) (t : Bool) (e : REntry) → Kept st st' → Kept st (write_back_by t st' e)
back_kept st st' false e K = K
back_kept st st' true e K = record { each = K.each; count = K.count; accepted = K.accepted }

miss_reaches : (rs : Rules) (st : Board) (r : Ref) (b : ℕ) → b < st.count → EachBelow st.count st.procs → Reaches st (r_miss rs st r b)
miss_reaches rs st r b lt A =
    let c = st.count in
    let i = r.cpu in
    let s = r.vb % v_sets in
    let p = cpu_at st i in
    let u = v_way rs.for_v p s in
    let p₁ = free_line p s u in
    let k = r_way rs.for_r p₁ (b % r_sets) in
    let p₂ = free_child p₁ (entry_at p₁ (b % r_sets) k).child in
    let e = entry_at p₂ (b % r_sets) k in
    let x = is_write r.value in
    let st₀ = put_cpu st i (evict p₂ (b % r_sets) k) in
    let st₁ = write_back_by e.rdirty st₀ e in
    let q = snooped_by x i b st₁ in
    let n : REntry = record { state = fetch_state x q.acked; block = record { 0 = b }; words = q.mem b; rdirty = false; child = NoChild } in
    let p₃ = with_counts (put_entry (proc_at q.procs i) (b % r_sets) k n) (count_fetched (proc_at q.procs i).counts) in
    let p₄ = filled p₃ s u (b % r_sets) k r.vb in
    let p₅ = r_loaded rs.for_r (v_loaded rs.for_v p₄ s u) (b % r_sets) k in
    let A₂ : AllBelow c p₂ = child_below c p₁ (entry_at p₁ (b % r_sets) k).child (free_below c p s u (A i)) in
    let K₀ : Kept st st₀ = cpu_kept st st i (evict p₂ (b % r_sets) k) (evict_below c p₂ (b % r_sets) k A₂) (record { each = A; count = refl; accepted = refl }) in
    let K₁ : Kept st st₁ = back_kept st st₀ e.rdirty e K₀ in
    let Q : EachBelow c q.procs = snoop_below c x i b st₁ K₁.each in
    record {
      kept = record {
        each = cpu_below c q.procs i p₅ (filled_below c p₃ s u (b % r_sets) k r.vb (entry_below c (proc_at q.procs i) (b % r_sets) k n (λ z. lt) (Q i))) Q;
        count = K₁.count;
        accepted = K₁.accepted;
      };
      few = λ j. miss_few e.rdirty i j e (message (fetch_kind x) (from_cpu i) q.supplier b);
    }

-- what a number of 0 says
full_room : (st : Board) → full_number st ≡ 0 → st.accepted < most_accepted
full_room st e = leb-false most_accepted st.accepted (go (leb most_accepted st.accepted) (or_next_lem st.setup (pick (leb most_accepted st.accepted) 3 0) e).1)
  where
    go : (t : Bool) → ◌≡◌ {A = ℕ} (pick t 3 0) 0 → t ≡ false
    go true z = let w : ⊥ = omega arith in absurd w
    go false z = refl

-- a block that is to be fetched is one of the memory's
block_below : (st : Board) (r : Ref) (o : Option ℕ) → frame_number o st r ≡ 0 → block_of st r o < st.count
block_below st r None e = let z : ⊥ = omega arith in absurd z
block_below st r (Some f) e =
    let b = physical f r.vb in
    leb-false st.count b (or_else_lem (leb st.count b) 6 (r_number (r_find (cpu_at st r.cpu) b) st r b) e).0

reach_reaches : (rs : Rules) (st : Board) (r : Ref) → v_number (v_find (cpu_at st r.cpu) r.vb) st r ≡ 0 → EachBelow st.count st.procs → Reaches st (reach rs st r)
reach_reaches rs st r e A = go (v_find (cpu_at st r.cpu) r.vb) e
  where
    b : ℕ
    b = block_of st r (frame_of st r)

    miss : b < st.count → (o : Option ℕ) → Reaches st (miss_by o rs st r b)
    miss lt (Some k) = r_hit_reaches rs st r b k A
    miss lt None = miss_reaches rs st r b lt A

    go : (o : Option ℕ) → v_number o st r ≡ 0 → Reaches st (reach_by o rs st r)
    go (Some w) n = hit_reaches rs st r w A
    go None n = miss (block_below st r (frame_of st r) n) (r_find (cpu_at st r.cpu) b)

-- every call
module _ (rs : Rules) (h : History) (st : Board) (B : Bounded h st) where
  nothing_bounded : Bounded (Nothing ∷ h) st
  nothing_bounded = record { below = B.below; few = λ i. let z = B.few i in omega arith; most = B.most }

  -- an accepted call that counts
  counted_bounded : (e : Event) (st' : Board) → full_number st ≡ 0 → EachBelow st.count st'.procs → st'.count ≡ st.count → st'.accepted ≡ st.accepted + 1 → ((i : ℕ) → fetches_of i e ≤ 1) → Bounded (e ∷ h) st'
  counted_bounded e st' full A count one few = record {
    below = λ i s w p. subst (λ n. (entry_at (cpu_at st' i) s w).block.0 < n) (sym count) (A i s w p);
    few = λ i. let z = B.few i in let y = few i in omega arith;
    most = let z = full_room st full in omega arith;
  }

  reference_bounded : (i a : ℕ) (v : Option ℕ) (c : Call) → ((r : Answer) (j : ℕ) → fetches_of j (accepted c r) ≡ fetches_in j r.sent)
      → Bounded (event c (refer (ref_number st i a (make_ref i a v)) rs st (make_ref i a v)) ∷ h) (refer (ref_number st i a (make_ref i a v)) rs st (make_ref i a v)).after
  reference_bounded i a v c sent = go (ref_number st i a r) refl
    where
      r : Ref
      r = make_ref i a v

      n : ℕ
      n = v_number (v_find (cpu_at st i) r.vb) st r

      done : (v : Option ℕ) (g : Reached) → full_number st ≡ 0 → Reaches st g → Bounded (event c (completed v r g) ∷ h) (completed v r g).after
      done None g full R =
          let K = R.kept in
          counted_bounded _ _ full K.each K.count (ap (λ m. m + 1) K.accepted) (λ j. subst (λ m. m ≤ 1) (sym (sent _ j)) (R.few j))
      done (Some x) g full R =
          let K = cpu_kept st g.at i _ (stored_below st.count (cpu_at g.at i) g.set g.way r.word x (R.kept.each i)) R.kept in
          counted_bounded _ _ full K.each K.count (ap (λ m. m + 1) K.accepted) (λ j. subst (λ m. m ≤ 1) (sym (sent _ j)) (R.few j))

      go : (k : ℕ) → ref_number st i a r ≡ k → Bounded (event c (refer k rs st r) ∷ h) (refer k rs st r).after
      go (suc k) e = nothing_bounded
      go zero e =
          let x = or_next_lem (full_number st) (or_else (leb st.cpus i) 4 (or_else (leb addresses a) 5 n)) e in
          let y = or_else_lem (leb st.cpus i) 3 (or_else (leb addresses a) 5 n) x.1 in
          let z = or_else_lem (leb addresses a) 4 n y.1 in
          done v (reach rs st r) x.0 (reach_reaches rs st r z.1 B.below)

  switch_bounded : (i q : ℕ) → Bounded (event (switching i q) (switch_by (switch_number st i q) st i q) ∷ h) (switch_by (switch_number st i q) st i q).after
  switch_bounded i q = go (switch_number st i q) refl
    where
      go : (n : ℕ) → switch_number st i q ≡ n → Bounded (event (switching i q) (switch_by n st i q) ∷ h) (switch_by n st i q).after
      go (suc n) e = nothing_bounded
      go zero e =
          counted_bounded _ _ (or_next_lem (full_number st) (or_else (leb st.cpus i) 4 (pick (leb processes q) 9 0)) e).0
          (cpu_below st.count st.procs i (swap_all (cpu_at st i) q) (B.below i) B.below) refl refl (λ j. omega arith)

  remap_bounded : (q g k : ℕ) (o : Option ℕ) (c : Call) → ((r : Answer) (j : ℕ) → fetches_of j (accepted c r) ≤ 1) → Bounded (event c (remap_by (remap_number st q g k) st q g o) ∷ h) (remap_by (remap_number st q g k) st q g o).after
  remap_bounded q g k o c sent = go (remap_number st q g k) refl
    where
      go : (n : ℕ) → remap_number st q g k ≡ n → Bounded (event c (remap_by n st q g o) ∷ h) (remap_by n st q g o).after
      go (suc n) e = nothing_bounded
      go zero e =
          counted_bounded _ _ (or_next_lem (full_number st) (pick (leb processes q || leb pages g || leb frames k) 9 0) e).0
          (remap_below st.count q g st.procs B.below) refl refl (sent nothing)

  take_bounded : (n : ℕ) → Bounded (event taking (take_bus n st) ∷ h) (take_bus n st).after
  take_bounded zero = let N = nothing_bounded in record { below = N.below; few = N.few; most = N.most }
  take_bounded (suc n) = nothing_bounded

  release_bounded : (t n : ℕ) → Bounded (event (releasing t) (release_bus n st) ∷ h) (release_bus n st).after
  release_bounded t zero = let N = nothing_bounded in record { below = N.below; few = N.few; most = N.most }
  release_bounded t (suc n) = nothing_bounded

  transfer_full : (t b k : ℕ) → device_number st t b k ≡ 0 → full_number st ≡ 0
  transfer_full t b k e = (or_next_lem (full_number st) (or_next (pick (tenured st t) 0 11) (or_else (leb st.count b) 12 (pick (eqb k block_words) 0 13))) e).0

  device_read_bounded : (t b k : ℕ) → Bounded (event (device_reading t b k) (device_read_by (device_number st t b k) st b) ∷ h) (device_read_by (device_number st t b k) st b).after
  device_read_bounded t b k = go (device_number st t b k) refl
    where
      go : (n : ℕ) → device_number st t b k ≡ n → Bounded (event (device_reading t b k) (device_read_by n st b) ∷ h) (device_read_by n st b).after
      go (suc n) e = nothing_bounded
      go zero e = counted_bounded _ _ (transfer_full t b k e) (read_below st.count st.cpus device b _ B.below) refl refl (λ j. omega arith)

  device_write_bounded : (t b : ℕ) (xs : List ℕ) → Bounded (event (device_writing t b xs) (device_write_by (device_number st t b (length xs)) st b xs) ∷ h) (device_write_by (device_number st t b (length xs)) st b xs).after
  device_write_bounded t b xs = go (device_number st t b (length xs)) refl
    where
      go : (n : ℕ) → device_number st t b (length xs) ≡ n → Bounded (event (device_writing t b xs) (device_write_by n st b xs) ∷ h) (device_write_by n st b xs).after
      go (suc n) e = nothing_bounded
      go zero e = counted_bounded _ _ (transfer_full t b (length xs) e) (take_below st.count st.cpus device b st.procs B.below) refl refl (λ j. omega arith)

  told_bounded : (c : Call) (n : ℕ) → ((r : Answer) → accepted c r ≡ Nothing) → Bounded (event c (told n st) ∷ h) st
  told_bounded c zero e = subst (λ (v : Event). Bounded (v ∷ h) st) (sym (e _)) nothing_bounded
  told_bounded c (suc n) e = nothing_bounded

  call_bounded : (c : Call) → Bounded (event c (perform rs c st) ∷ h) (perform rs c st).after
  call_bounded (reading i a) = reference_bounded i a None (reading i a) (λ r j. refl)
  call_bounded (writing i a x) = reference_bounded i a (Some x) (writing i a x) (λ r j. refl)
  call_bounded (switching i q) = switch_bounded i q
  call_bounded (entering q g k) = remap_bounded q g k (Some k) (entering q g k) (λ r j. omega arith)
  call_bounded (erasing q g) = remap_bounded q g 0 None (erasing q g) (λ r j. omega arith)
  call_bounded taking = take_bounded (take_number st)
  call_bounded (releasing t) = release_bounded t (release_number st t)
  call_bounded (device_reading t b k) = device_read_bounded t b k
  call_bounded (device_writing t b ws) = device_write_bounded t b ws
  call_bounded (line_reading i a w) = told_bounded (line_reading i a w) (line_number st i a w) (λ r. refl)
  call_bounded (entry_reading i a w) = told_bounded (entry_reading i a w) (entry_number st i a w) (λ r. refl)
  call_bounded (counts_reading i) = told_bounded (counts_reading i) (counts_number st i) (λ r. refl)

pub past_bounded : (rs : Rules) (s : Setup) (h : History) (st : Board) → Past rs s h st → Bounded h st
past_bounded rs s h st (begun n id m c t four) = record {
  below = λ i a w. absent_below c (entry_at (cpu_at (made rs n id m c t) i) a w) ((new_inv rs.for_v rs.for_r 0 t m (omega arith)).idle i a w (omega arith));
  few = λ i. omega arith;
  most = omega arith;
}
past_bounded rs s h st (called {h = g} {b = b} c p) = call_bounded rs g b (past_bounded rs s g b p) c

-- a processor fetched no more than calls were accepted, so fewer than the most while a call can still be accepted
pub counts_room : (s : Setup) (h : History) (st : Board) → Held s h st → Bounded h st → st.setup ≡ 0 → (i : ℕ) → i < st.cpus → (cpu_at st i).counts.fetched ≤ st.accepted
counts_room s h st H B z i lt = subst (λ n. n ≤ st.accepted) (sym (H.fine.tally i)) (B.few i)

-- so the counts of a processor stay small
pub counts_small : (s : Setup) (h : History) (st : Board) → Held s h st → Bounded h st → st.setup ≡ 0 → (i : ℕ) → i < st.cpus → Small (cpu_at st i)
counts_small s h st H B z i lt =
    let room = counts_room s h st H B z i lt in
    let most = B.most in
    let sum = ((H.fine.inv z).each i lt).tally in
    record { fetched = omega arith; replaced = omega arith; invalidated = omega arith }

-- a processor's process is one that a map knows
module _ (rs : Rules) (h : History) (st : Board) (i : ℕ) (k : process_at h i < processes) where
  switch_process : (j q : ℕ) → process_at (event (switching j q) (switch_by (switch_number st j q) st j q) ∷ h) i < processes
  switch_process j q = go (switch_number st j q) refl
    where
      below : (t : Bool) → ◌≡◌ {A = ℕ} (pick t 9 0) 0 → t ≡ false
      below true z = let w : ⊥ = omega arith in absurd w
      below false z = refl

      by : (t : Bool) → q < processes → pick t q (process_at h i) < processes
      by true l = l
      by false l = k

      go : (n : ℕ) → switch_number st j q ≡ n → process_at (event (switching j q) (switch_by n st j q) ∷ h) i < processes
      go (suc n) e = k
      go zero e =
          let x = or_next_lem (full_number st) (or_else (leb st.cpus j) 4 (pick (leb processes q) 9 0)) e in
          let y = or_else_lem (leb st.cpus j) 3 (pick (leb processes q) 9 0) x.1 in
          by (eqb i j) (leb-false processes q (below (leb processes q) y.1))

  call_process : (c : Call) → process_at (event c (perform rs c st) ∷ h) i < processes
  call_process (reading j a) = go (ref_number st j a (make_ref j a None))
    where
      go : (n : ℕ) → process_at (event (reading j a) (refer n rs st (make_ref j a None)) ∷ h) i < processes
      go zero = k
      go (suc n) = k
  call_process (writing j a x) = go (ref_number st j a (make_ref j a (Some x)))
    where
      go : (n : ℕ) → process_at (event (writing j a x) (refer n rs st (make_ref j a (Some x))) ∷ h) i < processes
      go zero = k
      go (suc n) = k
  call_process (switching j q) = switch_process j q
  call_process (entering q g f) = go (remap_number st q g f)
    where
      go : (n : ℕ) → process_at (event (entering q g f) (remap_by n st q g (Some f)) ∷ h) i < processes
      go zero = k
      go (suc n) = k
  call_process (erasing q g) = go (remap_number st q g 0)
    where
      go : (n : ℕ) → process_at (event (erasing q g) (remap_by n st q g None) ∷ h) i < processes
      go zero = k
      go (suc n) = k
  call_process taking = go (take_number st)
    where
      go : (n : ℕ) → process_at (event taking (take_bus n st) ∷ h) i < processes
      go zero = k
      go (suc n) = k
  call_process (releasing t) = go (release_number st t)
    where
      go : (n : ℕ) → process_at (event (releasing t) (release_bus n st) ∷ h) i < processes
      go zero = k
      go (suc n) = k
  call_process (device_reading t b m) = go (device_number st t b m)
    where
      go : (n : ℕ) → process_at (event (device_reading t b m) (device_read_by n st b) ∷ h) i < processes
      go zero = k
      go (suc n) = k
  call_process (device_writing t b ws) = go (device_number st t b (length ws))
    where
      go : (n : ℕ) → process_at (event (device_writing t b ws) (device_write_by n st b ws) ∷ h) i < processes
      go zero = k
      go (suc n) = k
  call_process (line_reading j s w) = go (line_number st j s w)
    where
      go : (n : ℕ) → process_at (event (line_reading j s w) (told n st) ∷ h) i < processes
      go zero = k
      go (suc n) = k
  call_process (entry_reading j s w) = go (entry_number st j s w)
    where
      go : (n : ℕ) → process_at (event (entry_reading j s w) (told n st) ∷ h) i < processes
      go zero = k
      go (suc n) = k
  call_process (counts_reading j) = go (counts_number st j)
    where
      go : (n : ℕ) → process_at (event (counts_reading j) (told n st) ∷ h) i < processes
      go zero = k
      go (suc n) = k

past_process : (rs : Rules) (s : Setup) (h : History) (st : Board) → Past rs s h st → (i : ℕ) → process_at h i < processes
past_process rs s h st (begun n id m c t four) i = omega arith
past_process rs s h st (called {h = g} {b = b} c p) i = call_process rs g b i (past_process rs s g b p i) c

-- all that code relies on
pub past_ready : (rs : Rules) → Lawful rs.for_v → Lawful rs.for_r → (s : Setup) (h : History) (st : Board) → Past rs s h st → st.setup ≡ 0 → (f : Blocks) × Ready f st
past_ready rs lv lr s h st p z =
    let H = past_held rs lv lr s h st p in
    let B = past_bounded rs s h st p in (
      H.fine.f,
      record {
        inv = H.fine.inv z;
        few = H.fine.few z;
        below = B.below;
        small = counts_small s h st H B z;
        known = λ i. subst (λ q. q < processes) (sym (H.fine.owner i)) (past_process rs s h st p i);
      },
    )

-- How many blocks each processor has fetched, over each step of the rules.
use Rattle.std.proofs.Common.{◌≡◌, ℕ, zero, suc, ◌+◌, ◌%◌, ◌<◌, Bool, true, false, eqb, List, [], ◌∷◌, ◌++◌, map, length, get_or, set, replicate, Some, None, Option, sym, refl, ap, ◌∙◌, arith, length-set}
use native.Mathlib.Decide.{ℕ_discrete}
use Rattle.std.proofs.lemmas.Bool.{eq-eqb, ne_eqb}
use Rattle.tables.specs.declared.types.LineState.{LineState}
use Rattle.tables.specs.declared.types.LineState.TheVariants.{Empty, Valid, Swapped}
use Rattle.tables.specs.declared.types.EntryState.{EntryState}
use Rattle.tables.specs.declared.types.EntryState.TheVariants.{Absent, Private, Shared}
use Rattle.tables.specs.declared.types.Child.{Child}
use Rattle.tables.specs.declared.types.Child.TheVariants.{NoChild, At}
use Rattle.tables.specs.declared.types.REntry.{REntry}
use Rattle.tables.specs.declared.types.Processor.{Processor}
use Rattle.tables.specs.declared.types.Counts.{Counts}
use Rattle.tables.specs.declared.message.Supplier.{Supplier}
use Rattle.tables.specs.declared.types.Snoop.{Snoop}
use Rattle.tables.specs.declared.types.Snoop.TheVariants.{NotHeld, Held, Supplied}
use Rattle.rules.specs.Sizes.{v_sets, r_sets, most_processors}
use Rattle.rules.specs.Basic.{pick}
use Rattle.rules.specs.Rule.{Rule}
use Rattle.rules.specs.Cache.{entry_at, line_at, new_processor, with_v, r_find, v_find, free_line, free_line_by, free_child, evict, evict_by, v_way, r_way}
use Rattle.rules.specs.Bus.{Passed, proc_at, no_processor, modified, clean_at, take_by, take_skip, take_pass, seen_by, shared_by, shared_held, noted_by, read_skip, read_pass, message, from_cpu}
use Rattle.rules.specs.Calls.{Board, Rules, Ref, Reached, cpu_at, upgrade_by, upgrade_sent, needs_upgrade, v_hit, r_hit, r_miss, miss_by, reach, reach_by, attach, attach_same, block_of, frame_of, write_back_by, write_back_sent, snooped_by, fetch_kind, is_write, put_cpu, swap_page, swap_pages}
use Rattle.rules.specs.History.{fetches_in}
use Rattle.rules.proofs.Whole.{put_same, put_other}

abbrev pub fetched_of : List Processor → ℕ → ℕ
fetched_of ps j = (proc_at ps j).counts.fetched

-- every processor has fetched as many as before
abbrev pub Level : List Processor → List Processor → Type 0
Level ps qs = (j : ℕ) → fetched_of qs j ≡ fetched_of ps j

pub set_keeps : {A : Type 0} (P : ℕ → A → Type 0) (l : List A) (i j : ℕ) (a d : A) → P i a → P j (get_or l j d) → P j (get_or (set l i a) j d)
set_keeps P [] i j a d x y = y
set_keeps P (e ∷ es) zero zero a d x y = x
set_keeps P (e ∷ es) zero (suc j) a d x y = y
set_keeps P (e ∷ es) (suc i) zero a d x y = y
set_keeps P (e ∷ es) (suc i) (suc j) a d x y = set_keeps (λ k. P (suc k)) es i j a d x y

pub set_level : (ps : List Processor) (i : ℕ) (p : Processor) → p.counts.fetched ≡ fetched_of ps i → Level ps (set ps i p)
set_level ps i p e j = set_keeps (λ k (z : Processor). z.counts.fetched ≡ fetched_of ps k) ps i j p no_processor e refl

-- the pass that takes a block away
take_by_lem : (o : Option ℕ) (b : ℕ) (p : Processor) → (take_by o b p).counts.fetched ≡ p.counts.fetched
take_by_lem None b p = refl
take_by_lem (Some w) b p = refl

pub take_level : (k sender b : ℕ) (ps : List Processor) → Level ps (take_pass k sender b ps)
take_level zero sender b ps j = refl
take_level (suc i) sender b ps j = go (eqb i sender) ∙ take_level i sender b ps j
  where
    go : (t : Bool) → fetched_of (take_skip t b i (take_pass i sender b ps)) j ≡ fetched_of (take_pass i sender b ps) j
    go true = refl
    go false = set_level (take_pass i sender b ps) i _ (take_by_lem (r_find (proc_at (take_pass i sender b ps) i) b) b (proc_at (take_pass i sender b ps) i)) j

pub take_length : (k sender b : ℕ) (ps : List Processor) → length (take_pass k sender b ps) ≡ length ps
take_length zero sender b ps = refl
take_length (suc i) sender b ps = go (eqb i sender) ∙ take_length i sender b ps
  where
    go : (t : Bool) → length (take_skip t b i (take_pass i sender b ps)) ≡ length (take_pass i sender b ps)
    go true = refl
    go false = length-set (take_pass i sender b ps) i _

-- the pass that reads a block
pub clean_counts : (p : Processor) (c : Child) → (clean_at p c).counts ≡ p.counts
clean_counts p NoChild = refl
clean_counts p (At q d) = refl

shared_by_lem : (o : Option ℕ) (b : ℕ) (p : Processor) → (shared_by o b p).counts.fetched ≡ p.counts.fetched
shared_by_lem None b p = refl
shared_by_lem (Some w) b p = go (modified (entry_at p (b % r_sets) w))
  where
    go : (t : Bool) → (shared_held t (b % r_sets) w p (entry_at p (b % r_sets) w)).counts.fetched ≡ p.counts.fetched
    go true = ap (λ (c : Counts). c.fetched) (clean_counts p (entry_at p (b % r_sets) w).child)
    go false = refl

pub noted_procs : (s : Snoop) (b i : ℕ) (ps : List Processor) (q : Passed) → (noted_by s b i ps q).procs ≡ ps
noted_procs NotHeld b i ps q = refl
noted_procs Held b i ps q = refl
noted_procs (Supplied ws) b i ps q = refl

pub read_level : (k sender b : ℕ) (q : Passed) → Level q.procs (read_pass k sender b q).procs
read_level zero sender b q j = refl
read_level (suc i) sender b q j = go (eqb i sender) ∙ read_level i sender b q j
  where
    r : Passed
    r = read_pass i sender b q

    go : (t : Bool) → fetched_of (read_skip t b i r).procs j ≡ fetched_of r.procs j
    go true = refl
    go false =
        let p = proc_at r.procs i in
        ap (λ (z : List Processor). fetched_of z j) (noted_procs (seen_by (r_find p b) b p) b i (set r.procs i (shared_by (r_find p b) b p)) r)
        ∙ set_level r.procs i (shared_by (r_find p b) b p) (shared_by_lem (r_find p b) b p) j

pub read_length : (k sender b : ℕ) (q : Passed) → length (read_pass k sender b q).procs ≡ length q.procs
read_length zero sender b q = refl
read_length (suc i) sender b q = go (eqb i sender) ∙ read_length i sender b q
  where
    r : Passed
    r = read_pass i sender b q

    go : (t : Bool) → length (read_skip t b i r).procs ≡ length r.procs
    go true = refl
    go false =
        let p = proc_at r.procs i in
        ap length (noted_procs (seen_by (r_find p b) b p) b i (set r.procs i (shared_by (r_find p b) b p)) r) ∙ length-set r.procs i (shared_by (r_find p b) b p)

-- one processor's own steps
pub free_counts : (p : Processor) (s w : ℕ) → (free_line p s w).counts ≡ p.counts
free_counts p s w = go (line_at p s w).state
  where
    go : (c : LineState) → (free_line_by c p s w (line_at p s w)).counts ≡ p.counts
    go Empty = refl
    go Valid = refl
    go Swapped = refl

pub free_child_counts : (p : Processor) (c : Child) → (free_child p c).counts ≡ p.counts
free_child_counts p NoChild = refl
free_child_counts p (At q d) = free_counts p q.set q.way

evict_fetched : (p : Processor) (s w : ℕ) → (evict p s w).counts.fetched ≡ p.counts.fetched
evict_fetched p s w = go (entry_at p s w).state
  where
    go : (c : EntryState) → (evict_by c p s w).counts.fetched ≡ p.counts.fetched
    go Absent = refl
    go Private = refl
    go Shared = refl

attach_counts : (c : Child) (rv rr : Rule) (p : Processor) (vb b k : ℕ) → (attach c rv rr p vb b k).cpu.counts ≡ p.counts
attach_counts NoChild rv rr p vb b k = free_counts p (vb % v_sets) (v_way rv p (vb % v_sets))
attach_counts (At q d) rv rr p vb b k = go (eqb q.set (vb % v_sets))
  where
    go : (t : Bool) → (attach_same t rv rr p vb q.set q.way b k).cpu.counts ≡ p.counts
    go true = refl
    go false = free_counts p (vb % v_sets) (v_way rv p (vb % v_sets))

upgrade_level : (c : Bool) (st : Board) (i rs rw : ℕ) → Level st.procs (upgrade_by c st i rs rw).procs
upgrade_level false st i rs rw j = refl
upgrade_level true st i rs rw j =
    let b = (entry_at (cpu_at st i) rs rw).block.0 in
    let ps = take_pass st.cpus i b st.procs in
    set_level ps i _ refl j ∙ take_level st.cpus i b st.procs j

upgrade_none : (c : Bool) (st : Board) (i rs rw j : ℕ) → fetches_in j (upgrade_sent c st i rs rw) ≡ 0
upgrade_none false st i rs rw j = refl
upgrade_none true st i rs rw j = refl

-- what a reference fetches is told by its messages
abbrev pub Fetches : Board → Reached → Type 0
Fetches st a = (j : ℕ) → fetched_of a.at.procs j ≡ fetches_in j a.sent + fetched_of st.procs j

by_none : (m x y : ℕ) → m ≡ 0 → x ≡ y → x ≡ m + y
by_none m x y e d = omega arith

hit_fetches : (rs : Rules) (st : Board) (r : Ref) (w : ℕ) → Fetches st (v_hit rs st r w)
hit_fetches rs st r w j =
    let s = r.vb % v_sets in
    let l = line_at (cpu_at st r.cpu) s w in
    let c = needs_upgrade r.value (entry_at (cpu_at st r.cpu) l.rplace.set l.rplace.way) in
    let st₁ = upgrade_by c st r.cpu l.rplace.set l.rplace.way in
    by_none _ _ _ (upgrade_none c st r.cpu l.rplace.set l.rplace.way j)
    (set_level st₁.procs r.cpu _ refl j ∙ upgrade_level c st r.cpu l.rplace.set l.rplace.way j)

r_hit_fetches : (rs : Rules) (st : Board) (r : Ref) (b k : ℕ) → Fetches st (r_hit rs st r b k)
r_hit_fetches rs st r b k j =
    let e = entry_at (cpu_at st r.cpu) (b % r_sets) k in
    let c = needs_upgrade r.value e in
    let st₁ = upgrade_by c st r.cpu (b % r_sets) k in
    by_none _ _ _ (upgrade_none c st r.cpu (b % r_sets) k j)
    (set_level st₁.procs r.cpu _ (ap (λ (z : Counts). z.fetched) (attach_counts e.child rs.for_v rs.for_r (cpu_at st₁ r.cpu) r.vb b k)) j ∙ upgrade_level c st r.cpu (b % r_sets) k j)

back_procs : (t : Bool) (st : Board) (e : REntry) → (write_back_by t st e).procs ≡ st.procs
back_procs false st e = refl
back_procs true st e = refl

back_cpus : (t : Bool) (st : Board) (e : REntry) → (write_back_by t st e).cpus ≡ st.cpus
back_cpus false st e = refl
back_cpus true st e = refl

snoop_level : (x : Bool) (i b : ℕ) (st : Board) → Level st.procs (snooped_by x i b st).procs
snoop_level false i b st j = read_level st.cpus i b _ j
snoop_level true i b st j = take_level st.cpus i b _ j ∙ read_level st.cpus i b _ j

snoop_length : (x : Bool) (i b : ℕ) (st : Board) → length (snooped_by x i b st).procs ≡ length st.procs
snoop_length false i b st = read_length st.cpus i b _
snoop_length true i b st = take_length st.cpus i b _ ∙ read_length st.cpus i b _

-- the messages of a miss: a write-back is no fetch
miss_sent : (t x : Bool) (i j : ℕ) (e : REntry) (f : Supplier) (b : ℕ) → fetches_in j (write_back_sent t i e ++ (message (fetch_kind x) (from_cpu i) f b ∷ [])) ≡ pick (eqb i j) 1 0
miss_sent false false i j e f b = omega arith
miss_sent false true i j e f b = omega arith
miss_sent true false i j e f b = omega arith
miss_sent true true i j e f b = omega arith

miss_fetches : (rs : Rules) (st : Board) (r : Ref) (b : ℕ) → r.cpu < length st.procs → Fetches st (r_miss rs st r b)
miss_fetches rs st r b long j =
    let i = r.cpu in
    let s = r.vb % v_sets in
    let p = cpu_at st i in
    let u = v_way rs.for_v p s in
    let p₁ = free_line p s u in
    let k = r_way rs.for_r p₁ (b % r_sets) in
    let p₂ = free_child p₁ (entry_at p₁ (b % r_sets) k).child in
    let e = entry_at p₂ (b % r_sets) k in
    let st₀ = put_cpu st i (evict p₂ (b % r_sets) k) in
    let st₁ = write_back_by e.rdirty st₀ e in
    let x = is_write r.value in
    let q = snooped_by x i b st₁ in
    let kept : (p₂.counts ≡ p.counts) = free_child_counts p₁ (entry_at p₁ (b % r_sets) k).child ∙ free_counts p s u in
    let before : fetched_of q.procs j ≡ fetched_of st.procs j =
    snoop_level x i b st₁ j ∙ ap (λ (z : List Processor). fetched_of z j) (back_procs e.rdirty st₀ e)
    ∙ set_level st.procs i (evict p₂ (b % r_sets) k) (evict_fetched p₂ (b % r_sets) k ∙ ap (λ (z : Counts). z.fetched) kept) j in
    let len : length q.procs ≡ length st.procs =
    snoop_length x i b st₁ ∙ ap length (back_procs e.rdirty st₀ e) ∙ length-set st.procs i (evict p₂ (b % r_sets) k) in
    go q.procs _ refl (omega arith) before (miss_sent e.rdirty x i j e q.supplier b) (ℕ_discrete j i)
  where
    go : (ps : List Processor) (p : Processor) → p.counts.fetched ≡ fetched_of ps r.cpu + 1 → r.cpu < length ps → {n m : ℕ} → fetched_of ps j ≡ m → n ≡ pick (eqb r.cpu j) 1 0 → Dec (j ≡ r.cpu)
        → fetched_of (set ps r.cpu p) j ≡ n + m
    go ps p e l be sent (yes z) =
        let one : eqb r.cpu j ≡ true = eq-eqb r.cpu j (sym z) in
        let at : fetched_of (set ps r.cpu p) j ≡ p.counts.fetched = ap (λ (c : ℕ). fetched_of (set ps r.cpu p) c) z ∙ ap (λ (c : Processor). c.counts.fetched) (put_same ps r.cpu p l) in
        let was : fetched_of ps r.cpu ≡ fetched_of ps j = ap (fetched_of ps) (sym z) in
        let sent' = sent ∙ ap (λ (t : Bool). pick t 1 0) one in
        omega arith
    go ps p e l be sent (no z) =
        let none : eqb r.cpu j ≡ false = ne_eqb r.cpu j (λ q. z (sym q)) in
        let at : fetched_of (set ps r.cpu p) j ≡ fetched_of ps j = ap (λ (c : Processor). c.counts.fetched) (put_other ps r.cpu p l j z) in
        let sent' = sent ∙ ap (λ (t : Bool). pick t 1 0) none in
        omega arith

pub reach_fetches : (rs : Rules) (st : Board) (r : Ref) → r.cpu < length st.procs → Fetches st (reach rs st r)
reach_fetches rs st r long = go (v_find (cpu_at st r.cpu) r.vb)
  where
    b : ℕ
    b = block_of st r (frame_of st r)

    miss : (o : Option ℕ) → Fetches st (miss_by o rs st r b)
    miss (Some k) = r_hit_fetches rs st r b k
    miss None = miss_fetches rs st r b long

    go : (o : Option ℕ) → Fetches st (reach_by o rs st r)
    go (Some w) = hit_fetches rs st r w
    go None = miss (r_find (cpu_at st r.cpu) b)

-- remapping, and a new machine
page_fetched : (q g : ℕ) (p : Processor) → (swap_pages q g p).counts.fetched ≡ p.counts.fetched
page_fetched q g p = go (eqb p.process.0 q)
  where
    go : (c : Bool) → (pick c (with_v p (map (map (swap_page g)) p.v)) p).counts.fetched ≡ p.counts.fetched
    go true = refl
    go false = refl

pub remap_level : (q g : ℕ) (ps : List Processor) → Level ps (map (swap_pages q g) ps)
remap_level q g [] j = refl
remap_level q g (p ∷ ps) zero = page_fetched q g p
remap_level q g (p ∷ ps) (suc j) = remap_level q g ps j

new_at : (rv rr : Rule) (n j : ℕ) → fetched_of (replicate n (new_processor rv rr)) j ≡ 0
new_at rv rr zero j = refl
new_at rv rr (suc n) zero = refl
new_at rv rr (suc n) (suc j) = new_at rv rr n j

pub new_fetched : (rv rr : Rule) (j : ℕ) → fetched_of (replicate most_processors (new_processor rv rr)) j ≡ 0
new_fetched rv rr j = new_at rv rr most_processors j

-- What a message leaves of each processor.
use Rattle.std.proofs.Common.{◌≡◌, ℕ, zero, suc, ◌-◌, ◌%◌, ◌^◌, ◌<◌, ◌≤◌, Bool, true, false, eqb, List, [], get_or, set, Some, None, Option, sym, refl, ap, ◌∙◌, subst, arith}
use Rattle.tables.specs.declared.types.EntryState.TheVariants.{Shared}
use Rattle.tables.specs.declared.types.Child.{Child}
use Rattle.tables.specs.declared.types.Child.TheVariants.{NoChild, At}
use Rattle.tables.specs.declared.types.Place.{Place}
use Rattle.tables.specs.declared.types.VLine.{VLine}
use Rattle.tables.specs.declared.types.REntry.{REntry}
use Rattle.tables.specs.declared.types.Processor.{Processor}
use Rattle.rules.specs.Sizes.{v_sets, v_ways, r_sets, r_ways}
use Rattle.rules.specs.Cache.{entry_at, line_at, put_entry, put_line, past_entry, past_line, no_entry, no_line, r_find, with_state}
use Rattle.rules.specs.Bus.{Passed, proc_at, no_processor, modified, clean_at, clean_child, clean_line, empty_at, supplied, seen_by, shared_by, shared_held, read_skip, read_pass, take_by, take_skip, take_pass}
use Rattle.rules.specs.Invariant.{Filled}
use Rattle.rules.proofs.Fetched.{set_keeps, clean_counts, noted_procs}
use Rattle.caches.specs.Ranged.{Ranged}
use Rattle.bus.specs.Passes.{Snoopable}

-- a table with one cell put: what holds of every cell holds of every cell after
cell_keeps : {A : Type 0} (P : A → Type 0) (t : List (List A)) (s w : ℕ) (x d : A) → P x → ((a b : ℕ) → P (get_or (get_or t a []) b d))
    → (a b : ℕ) → P (get_or (get_or (set t s (set (get_or t s []) w x)) a []) b d)
cell_keeps P t s w x d h all a b =
    set_keeps (λ k (z : List _). P (get_or z b d)) t s a (set (get_or t s []) w x) [] (set_keeps (λ k (z : _). P z) (get_or t s []) w b x d h (all s b)) (all a b)

-- the place of a line, and of a child, in range
abbrev LineIn : VLine → Type 0
LineIn l = Filled l → (l.rplace.set < r_sets) × (l.rplace.way < r_ways)

abbrev EntryIn : REntry → Type 0
EntryIn e = (q : Place) (d : Bool) → e.child ≡ At q d → (q.set < v_sets) × (q.way < v_ways)

put_line_ranged : (p : Processor) (s w : ℕ) (l : VLine) → LineIn l → Ranged p → Ranged (put_line p s w l)
put_line_ranged p s w l h rg = record { lines = cell_keeps LineIn p.v s w l past_line h rg.lines; children = rg.children }

put_entry_ranged : (p : Processor) (s w : ℕ) (e : REntry) → EntryIn e → Ranged p → Ranged (put_entry p s w e)
put_entry_ranged p s w e h rg = record { lines = rg.lines; children = cell_keeps EntryIn p.r s w e past_entry h rg.children }

clean_ranged : (p : Processor) (c : Child) → Ranged p → Ranged (clean_at p c)
clean_ranged p NoChild rg = rg
clean_ranged p (At q d) rg = put_line_ranged p q.set q.way (clean_line (line_at p q.set q.way)) (rg.lines q.set q.way) rg

empty_ranged : (p : Processor) (c : Child) → Ranged p → Ranged (empty_at p c)
empty_ranged p NoChild rg = rg
empty_ranged p (At q d) rg = put_line_ranged p q.set q.way no_line (λ f. absurd (cc)) rg

clean_child_lem : (c : Child) (q : Place) (d : Bool) → clean_child c ≡ At q d → (e : Bool) × (c ≡ At q e)
clean_child_lem NoChild q d h = absurd (cc)
clean_child_lem (At r e) q d h = let k : r ≡ q = cc in (e, ap (λ z. At z e) k)

-- a read keeps a processor's places in range
pub shared_ranged : (o : Option ℕ) (b : ℕ) (p : Processor) → Ranged p → Ranged (shared_by o b p)
shared_ranged None b p rg = rg
shared_ranged (Some w) b p rg = go (modified (entry_at p (b % r_sets) w))
  where
    go : (t : Bool) → Ranged (shared_held t (b % r_sets) w p (entry_at p (b % r_sets) w))
    go true =
        let e = entry_at p (b % r_sets) w in
        put_entry_ranged (clean_at p e.child) (b % r_sets) w (supplied p e) (λ q d h. let k = clean_child_lem e.child q d h in rg.children (b % r_sets) w q k.0 k.1) (clean_ranged p e.child rg)
    go false = put_entry_ranged p (b % r_sets) w (with_state (entry_at p (b % r_sets) w) Shared) (rg.children (b % r_sets) w) rg

-- and so does an invalidation
pub taken_ranged : (o : Option ℕ) (b : ℕ) (p : Processor) → Ranged p → Ranged (take_by o b p)
taken_ranged None b p rg = rg
taken_ranged (Some w) b p rg =
    let r = put_entry_ranged (empty_at p (entry_at p (b % r_sets) w).child) (b % r_sets) w no_entry (λ q d h. absurd (cc)) (empty_ranged p (entry_at p (b % r_sets) w).child rg) in
    record { lines = r.lines; children = r.children }

-- a read counts nothing
pub shared_counts : (o : Option ℕ) (b : ℕ) (p : Processor) → (shared_by o b p).counts ≡ p.counts
shared_counts None b p = refl
shared_counts (Some w) b p = go (modified (entry_at p (b % r_sets) w))
  where
    go : (t : Bool) → (shared_held t (b % r_sets) w p (entry_at p (b % r_sets) w)).counts ≡ p.counts
    go true = clean_counts p (entry_at p (b % r_sets) w).child
    go false = refl

-- what one processor's part of a pass keeps, the pass keeps of every processor
pub read_keeps : (P : Processor → Type 0) (b : ℕ) → ((p : Processor) → P p → P (shared_by (r_find p b) b p))
    → (k sender : ℕ) (q : Passed) (j : ℕ) → P (proc_at q.procs j) → P (proc_at (read_pass k sender b q).procs j)
read_keeps P b step zero sender q j h = h
read_keeps P b step (suc i) sender q j h = go (read_keeps P b step i sender q j h) (eqb i sender)
  where
    r : Passed
    r = read_pass i sender b q

    go : P (proc_at r.procs j) → (t : Bool) → P (proc_at (read_skip t b i r).procs j)
    go ih true = ih
    go ih false =
        let p = proc_at r.procs i in
        subst (λ (z : List Processor). P (proc_at z j)) (sym (noted_procs (seen_by (r_find p b) b p) b i (set r.procs i (shared_by (r_find p b) b p)) r))
        (set_keeps (λ k (z : Processor). k ≡ j → P z) r.procs i j (shared_by (r_find p b) b p) no_processor (λ e. step p (subst (λ (k : ℕ). P (proc_at r.procs k)) (sym e) ih)) (λ e. ih) refl)

pub take_keeps : (P : Processor → Type 0) (b : ℕ) → ((p : Processor) → P p → P (take_by (r_find p b) b p))
    → (k sender : ℕ) (ps : List Processor) (j : ℕ) → P (proc_at ps j) → P (proc_at (take_pass k sender b ps) j)
take_keeps P b step zero sender ps j h = h
take_keeps P b step (suc i) sender ps j h = go (take_keeps P b step i sender ps j h) (eqb i sender)
  where
    rs : List Processor
    rs = take_pass i sender b ps

    go : P (proc_at rs j) → (t : Bool) → P (proc_at (take_skip t b i rs) j)
    go ih true = ih
    go ih false =
        set_keeps (λ k (z : Processor). k ≡ j → P z) rs i j (take_by (r_find (proc_at rs i) b) b (proc_at rs i)) no_processor
        (λ e. step (proc_at rs i) (subst (λ (k : ℕ). P (proc_at rs k)) (sym e) ih)) (λ e. ih) refl

-- a processor that a pass has not reached is as it was
pub read_rest : (k sender b : ℕ) (q : Passed) (j : ℕ) → k ≤ j → proc_at (read_pass k sender b q).procs j ≡ proc_at q.procs j
read_rest zero sender b q j le = refl
read_rest (suc i) sender b q j le = go (read_rest i sender b q j (omega arith)) (eqb i sender)
  where
    r : Passed
    r = read_pass i sender b q

    go : proc_at r.procs j ≡ proc_at q.procs j → (t : Bool) → proc_at (read_skip t b i r).procs j ≡ proc_at q.procs j
    go ih true = ih
    go ih false =
        let p = proc_at r.procs i in
        ap (λ (z : List Processor). proc_at z j) (noted_procs (seen_by (r_find p b) b p) b i (set r.procs i (shared_by (r_find p b) b p)) r)
        ∙ set_keeps (λ k (z : Processor). k ≡ j → z ≡ proc_at q.procs j) r.procs i j (shared_by (r_find p b) b p) no_processor (λ e. absurd (omega arith)) (λ e. ih) refl

pub take_rest : (k sender b : ℕ) (ps : List Processor) (j : ℕ) → k ≤ j → proc_at (take_pass k sender b ps) j ≡ proc_at ps j
take_rest zero sender b ps j le = refl
take_rest (suc i) sender b ps j le = go (take_rest i sender b ps j (omega arith)) (eqb i sender)
  where
    rs : List Processor
    rs = take_pass i sender b ps

    go : proc_at rs j ≡ proc_at ps j → (t : Bool) → proc_at (take_skip t b i rs) j ≡ proc_at ps j
    go ih true = ih
    go ih false =
        set_keeps (λ k (z : Processor). k ≡ j → z ≡ proc_at ps j) rs i j (take_by (r_find (proc_at rs i) b) b (proc_at rs i)) no_processor (λ e. absurd (omega arith)) (λ e. ih) refl

-- after a read the processors can see a message as before
pub read_snoopable : (n k sender b : ℕ) (q : Passed) → Snoopable n q.procs → Snoopable n (read_pass k sender b q).procs
read_snoopable n k sender b q h =
    record {
      few = h.few;
      ranged = λ i lt. read_keeps Ranged b (λ p. shared_ranged (r_find p b) b p) k sender q i (h.ranged i lt);
      room = λ i lt. read_keeps (λ (p : Processor). p.counts.invalidated < 2 ^ 32 - 1) b (λ p r. rw (shared_counts (r_find p b) b p) r) k sender q i (h.room i lt);
    }

-- Switches, remapping, the device and a new machine.
use Rattle.std.proofs.Common.{◌≡◌, ℕ, zero, suc, ◌+◌, ◌/◌, ◌%◌, ◌<◌, ◌≤◌, Bool, true, false, eqb, List, [], map, length, get_or, set, replicate, Some, Option, sym, refl, ap, ◌∙◌, subst, inl, inr, arith, eq-eqb, ne_eqb}
use native.Mathlib.Decide.{ℕ_discrete, dec_lt}
use borrow.Author.Tests.{clash}
use lib.ListN.{length-map, length-replicate, get_or-map}
use Rattle.rules.specs.Sizes.{v_sets, v_ways, r_sets, r_ways, page_blocks, most_processors}
use Rattle.tables.specs.declared.types.LineState.{LineState}
use Rattle.tables.specs.declared.types.LineState.TheVariants.{Empty, Valid, Swapped}
use Rattle.tables.specs.declared.types.Child.{Child}
use Rattle.tables.specs.declared.types.Child.TheVariants.{NoChild, At}
use Rattle.tables.specs.declared.types.Place.{Place}
use Rattle.tables.specs.declared.types.VLine.{VLine}
use Rattle.tables.specs.declared.types.REntry.{REntry}
use Rattle.tables.specs.declared.types.Processor.{Processor}
use Rattle.rules.specs.Basic.{pick}
use Rattle.rules.specs.Rule.{Rule}
use Rattle.rules.specs.Cache.{line_at, entry_at, is_valid, is_empty, is_absent, swap_all, swap_line, swap_state, with_v, new_processor, past_line, past_entry, no_line, no_entry}
use Rattle.rules.specs.Bus.{device, memory, Blocks, put_block, proc_at, no_processor, read_pass, take_pass, Passed}
use Rattle.rules.specs.Calls.{Board, cpu_at, swap_page, swap_pages, put_frame}
use Rattle.rules.specs.Invariant.{placed, in_row, resident}
use Rattle.rules.specs.Sound.{LineOk, Sound, ProcOk, Inv, InvOf, Clean, Lacks, translate, physical_by}
use Rattle.rules.proofs.Cells.{empty_filled, nil_at, cell_map, rows_map, rows, cell_copies, at_copies}
use Rattle.rules.proofs.Whole.{inv_same, same_refl, proc_reads}
use Rattle.rules.proofs.Passes.{read_pass_lem, take_pass_lem, Taken, put_here, put_else}
use Rattle.rules.proofs.Upgrade.{up_to_date}

-- each line dimmed: as it was, but perhaps no longer valid
pub record AtMostSwapped (T T' : ℕ → Option ℕ) (l m : VLine) : Type 0 where
  pub state : is_empty m.state ≡ is_empty l.state
  pub words : m.words ≡ l.words
  pub dirty : m.dirty ≡ l.dirty
  pub rplace : m.rplace ≡ l.rplace
  pub tag : (x : ℕ) → (is_valid l.state ≡ true → T l.tag.0 ≡ Some x) → is_valid m.state ≡ true → T' m.tag.0 ≡ Some x

pub sound_swapped : (n : ℕ) (T T' : ℕ → Option ℕ) (f : Blocks) (L M : ℕ → ℕ → VLine) (E : ℕ → ℕ → REntry) → ((a b : ℕ) → AtMostSwapped T T' (L a b) (M a b)) → Sound n T f L E → Sound n T' f M E
sound_swapped n T T' f L M E d S = record {
  lines = λ a b fl.
      let x = d a b in
      let o = S.lines a b (sym x.state ∙ fl) in
      subst (λ (z : Place). LineOk T' f a b (M a b) (E z.set z.way)) (sym x.rplace)
      (record { up = o.up ∙ ap {B = Child} (λ c. At (placed a b) c) (sym x.dirty); words = x.words ∙ o.words; maps = x.tag (E (L a b).rplace.set (L a b).rplace.way).block.0 o.maps; fits = o.fits ∙ ap (λ (z : Place). z.set % page_blocks) (sym x.rplace) });
  children = λ a b q c e. let o = S.children a b q c e in let x = d q.set q.way in record { full = x.state ∙ o.full; rplace = x.rplace ∙ o.rplace; here = o.here };
  ents = S.ents;
  void = S.void;
  once = S.once;
}

fill_swap : (c : LineState) → is_empty (swap_state c) ≡ is_empty c
fill_swap Empty = refl
fill_swap Valid = refl
fill_swap Swapped = refl

swap_invalid : (c : LineState) → is_valid (swap_state c) ≡ true → ⊥
swap_invalid Empty e = clash e
swap_invalid Valid e = clash e
swap_invalid Swapped e = clash e

swapped_at_most : (T T' : ℕ → Option ℕ) (l : VLine) → AtMostSwapped T T' l (swap_line l)
swapped_at_most T T' l = record { state = fill_swap l.state; words = refl; dirty = refl; rplace = refl; tag = λ x h v. absurd (swap_invalid l.state v) }

same_at_most : (T T' : ℕ → Option ℕ) (l : VLine) → T l.tag.0 ≡ T' l.tag.0 → AtMostSwapped T T' l l
same_at_most T T' l e = record { state = refl; words = refl; dirty = refl; rplace = refl; tag = λ x h v. sym e ∙ h v }

-- the lines of a processor mapped
map_ok : (T T' : ℕ → Option ℕ) (f : Blocks) (F : VLine → VLine) (p p' : Processor) → p'.v ≡ map (map F) p.v → p'.r ≡ p.r → p'.counts ≡ p.counts → F past_line ≡ past_line → ((a b : ℕ) → AtMostSwapped T T' (line_at p a b) (F (line_at p a b))) → ProcOk T f p → ProcOk T' f p'
map_ok T T' f F p p' ev er ec ef d o = record {
  shaped = record { v_rows = rw ev (rows_map F v_ways p.v o.shaped.v_rows); r_rows = rw er o.shaped.r_rows; v_sets = ap (λ (z : List (List VLine)). length z) ev ∙ length-map p.v (map F) ∙ o.shaped.v_sets; r_sets = rw er o.shaped.r_sets };
  sound = rw (ev, er) (sound_swapped r_sets T T' f (line_at p) (λ a b. get_or (get_or (map (map F) p.v) a []) b past_line) (entry_at p) (λ a b. rw (at a b) (d a b)) o.sound);
  tally = rw (er, ec) o.tally;
}
  where
    at : (a b : ℕ) → get_or (get_or (map (map F) p.v) a []) b past_line ≡ F (line_at p a b)
    at a b = subst (λ (z : VLine). get_or (get_or (map (map F) p.v) a []) b z ≡ F (line_at p a b)) ef (cell_map F p.v a b past_line)

-- a switch
pub switch_inv : (f : Blocks) (st : Board) (i q : ℕ) → InvOf st f → i < st.cpus → Inv st.cpus st.table f st.mem (set st.procs i (swap_all (cpu_at st i) q))
switch_inv f st i q I lt =
    let p = cpu_at st i in
    inv_same st.cpus st.table f st.mem st.procs i (swap_all p q) lt I
    (map_ok (translate st.table p.process.0) (translate st.table q) f swap_line p (swap_all p q) refl refl refl refl (λ a b. swapped_at_most (translate st.table p.process.0) (translate st.table q) (line_at p a b)) (I.each i lt))
    (same_refl p)

-- all processors at once, their entries as they were
pub inv_all : (n : ℕ) (table table' : ℕ → ℕ → Option ℕ) (f mem : Blocks) (ps qs : List Processor) → Inv n table f mem ps → length ps ≤ length qs
    → ((i : ℕ) → (proc_at qs i).r ≡ (proc_at ps i).r) → ((i : ℕ) → i < n → ProcOk (translate table' (proc_at qs i).process.0) f (proc_at qs i)) → Inv n table' f mem qs
inv_all n table table' f mem ps qs I le e ok = record {
  few = omega (arith, I.few);
  each = ok;
  idle = λ i s w l. rw (e i) (I.idle i s w l);
  apart = λ i j ne s w t u pv pr eb. I.apart i j ne s w t u (rw (e i) at pv) (rw (e j) at pr) (rw (e i, e j) at eb);
  memory = λ x c. I.memory x (λ i s w pr eb. rw (e i) at (c i s w (rw (e i) pr) (rw (e i) eb)));
}

-- enter and erase
module _ (f : Blocks) (st : Board) (q g : ℕ) (o : Option ℕ) (I : InvOf st f) where
  abbrev table' : ℕ → ℕ → Option ℕ
  table' = put_frame st.table q g o

  page_at_lem : (i : ℕ) → proc_at (map (swap_pages q g) st.procs) i ≡ swap_pages q g (proc_at st.procs i)
  page_at_lem i = subst (λ (z : Processor). get_or (map (swap_pages q g) st.procs) i z ≡ swap_pages q g (proc_at st.procs i)) none (get_or-map (swap_pages q g) st.procs i no_processor)
    where
      none' : (c : Bool) → pick c (with_v no_processor (map (map (swap_page g)) no_processor.v)) no_processor ≡ no_processor
      none' true = refl
      none' false = refl

      none : swap_pages q g no_processor ≡ no_processor
      none = none' (eqb no_processor.process.0 q)

  page_r : (p : Processor) → (swap_pages q g p).r ≡ p.r
  page_r p = go (eqb p.process.0 q)
    where
      go : (c : Bool) → (pick c (with_v p (map (map (swap_page g)) p.v)) p).r ≡ p.r
      go true = refl
      go false = refl

  other_page : (a b : ℕ) → ((a ≡ q) × (b ≡ g) → ⊥) → st.table a b ≡ table' a b
  other_page a b n = go (ℕ_discrete a q) (ℕ_discrete b g)
    where
      go : Dec (a ≡ q) → Dec (b ≡ g) → st.table a b ≡ table' a b
      go (yes x) (yes y) = absurd (n (x, y))
      go (yes x) (no y) = rw (eq-eqb a q x, ne_eqb b g y)
      go (no x) y = rw (ne_eqb a q x)

  page_ok : (p : Processor) → ProcOk (translate st.table p.process.0) f p → ProcOk (translate table' (swap_pages q g p).process.0) f (swap_pages q g p)
  page_ok p O = go (ℕ_discrete p.process.0 q)
    where
      at_most : p.process.0 ≡ q → (l : VLine) → AtMostSwapped (translate st.table p.process.0) (translate table' p.process.0) l (swap_page g l)
      at_most e l = at (ℕ_discrete (l.tag.0 / page_blocks) g)
        where
          at : Dec (l.tag.0 / page_blocks ≡ g) → AtMostSwapped (translate st.table p.process.0) (translate table' p.process.0) l (swap_page g l)
          at (yes y) = rw (eq-eqb (l.tag.0 / page_blocks) g y) (swapped_at_most (translate st.table p.process.0) (translate table' p.process.0) l)
          at (no ny) = rw (ne_eqb (l.tag.0 / page_blocks) g ny) (same_at_most (translate st.table p.process.0) (translate table' p.process.0) l (ap {B = Option ℕ} (λ z. physical_by z l.tag.0) (other_page p.process.0 (l.tag.0 / page_blocks) (λ z. ny z.1))))

      past : swap_page g past_line ≡ past_line
      past = past' (eqb (0 / page_blocks) g)
        where
          past' : (c : Bool) → pick c (swap_line past_line) past_line ≡ past_line
          past' true = refl
          past' false = refl

      go : Dec (p.process.0 ≡ q) → ProcOk (translate table' (swap_pages q g p).process.0) f (swap_pages q g p)
      go (yes e) = rw (eq-eqb p.process.0 q e) (map_ok (translate st.table p.process.0) (translate table' p.process.0) f (swap_page g) p (with_v p (map (map (swap_page g)) p.v)) refl refl refl past (λ a b. at_most e (line_at p a b)) O)
      go (no ne) = rw (ne_eqb p.process.0 q ne) (record {
        shaped = O.shaped;
        sound = sound_swapped r_sets (translate st.table p.process.0) (translate table' p.process.0) f (line_at p) (line_at p) (entry_at p)
            (λ a b. same_at_most (translate st.table p.process.0) (translate table' p.process.0) (line_at p a b) (ap {B = Option ℕ} (λ z. physical_by z (line_at p a b).tag.0) (other_page p.process.0 ((line_at p a b).tag.0 / page_blocks) (λ z. ne z.0)))) O.sound;
        tally = O.tally;
      })

  pub remap_runs : (i : ℕ) → (proc_at (map (swap_pages q g) st.procs) i).process.0 ≡ (proc_at st.procs i).process.0
  remap_runs i = ap (λ (z : Processor). z.process.0) (page_at_lem i) ∙ go (proc_at st.procs i) (eqb (proc_at st.procs i).process.0 q)
    where
      go : (p : Processor) (c : Bool) → (pick c (with_v p (map (map (swap_page g)) p.v)) p).process.0 ≡ p.process.0
      go p true = refl
      go p false = refl

  pub remap_inv : Inv st.cpus (put_frame st.table q g o) f st.mem (map (swap_pages q g) st.procs)
  remap_inv = inv_all st.cpus st.table table' f st.mem st.procs (map (swap_pages q g) st.procs) I (let e = length-map st.procs (swap_pages q g) in omega arith)
      (λ i. ap (λ (z : Processor). z.r) (page_at_lem i) ∙ page_r (proc_at st.procs i))
      (λ i lt. subst (λ (z : Processor). ProcOk (translate table' z.process.0) f z) (sym (page_at_lem i)) (page_ok (proc_at st.procs i) (I.each i lt)))

-- the device reads
pub device_read_lem : (f : Blocks) (st : Board) (b : ℕ) (q : Passed) → InvOf st f → st.cpus ≤ device → q ≡ read_pass st.cpus device b (record { procs = st.procs; mem = st.mem; supplier = memory; acked = false })
    → Inv st.cpus st.table f q.mem q.procs × (q.mem b ≡ f b)
device_read_lem f st b q I few e =
    let asked = read_pass st.cpus device b (record { procs = st.procs; mem = st.mem; supplier = memory; acked = false }) in
    let r = read_pass_lem st.cpus st.table f b st.cpus device (record { procs = st.procs; mem = st.mem; supplier = memory; acked = false }) (omega arith) I in
    subst (λ (z : Passed). Inv st.cpus st.table f z.mem z.procs × (z.mem b ≡ f b)) (sym e)
    (r.inv, up_to_date st.cpus st.table f asked.mem asked.procs b r.inv (λ j l. r.sharing j l (λ z. omega arith)))

-- a block that no processor has is changed in memory
pub inv_alone : (n : ℕ) (table : ℕ → ℕ → Option ℕ) (f g mem mem' : Blocks) (ps : List Processor) (b : ℕ) → Inv n table f mem ps → ((i : ℕ) → Lacks (proc_at ps i) b)
    → ((x : ℕ) → (x ≡ b → ⊥) → (f x ≡ g x) × (mem' x ≡ mem x)) → mem' b ≡ g b → Inv n table g mem' ps
inv_alone n table f g mem mem' ps b I lk o here = record {
  few = I.few;
  each = λ i l. proc_reads (translate table (proc_at ps i).process.0) f g (proc_at ps i) (λ s w pr. (o (entry_at (proc_at ps i) s w).block.0 (λ e. lk i s w pr e)).0) (I.each i l);
  idle = I.idle;
  apart = I.apart;
  memory = λ x c. at x c (ℕ_discrete x b);
}
  where
    at : (x : ℕ) → ((i : ℕ) → Clean (proc_at ps i) x) → Dec (x ≡ b) → mem' x ≡ g x
    at x c (yes e) = rw e here
    at x c (no n) = let z = o x n in z.1 ∙ I.memory x c ∙ z.0

pub inv_mem : (n : ℕ) (table : ℕ → ℕ → Option ℕ) (f mem mem' : Blocks) (ps : List Processor) → Inv n table f mem ps → ((x : ℕ) → mem x ≡ f x → mem' x ≡ f x) → Inv n table f mem' ps
inv_mem n table f mem mem' ps I h = record { few = I.few; each = I.each; idle = I.idle; apart = I.apart; memory = λ x c. h x (I.memory x c) }

-- memory brought up to date at one block
mem_at : (f : Blocks) (st : Board) (b : ℕ) → InvOf st f → Inv st.cpus st.table f (put_block st.mem b (f b)) st.procs
mem_at f st b I = inv_mem st.cpus st.table f st.mem (put_block st.mem b (f b)) st.procs I (λ x h. up x h (ℕ_discrete x b))
  where
    up : (x : ℕ) → st.mem x ≡ f x → Dec (x ≡ b) → put_block st.mem b (f b) x ≡ f x
    up x h (yes e) = rw e (put_here st.mem b (f b))
    up x h (no n) = put_else st.mem b (f b) x n ∙ h

pub device_runs : (f : Blocks) (st : Board) (b : ℕ) → InvOf st f → (i : ℕ) → (proc_at (take_pass st.cpus device b st.procs) i).process.0 ≡ (proc_at st.procs i).process.0
device_runs f st b I = (take_pass_lem st.cpus st.table f (put_block st.mem b (f b)) b st.cpus device st.procs (omega arith) (mem_at f st b I) (put_here st.mem b (f b))).runs

pub device_write_lem : (f : Blocks) (st : Board) (b : ℕ) (ws : List ℕ) → InvOf st f → st.cpus ≤ device → Inv st.cpus st.table (put_block f b ws) (put_block st.mem b ws) (take_pass st.cpus device b st.procs)
device_write_lem f st b ws I le =
    let mem₁ = put_block st.mem b (f b) in
    let I₁ = mem_at f st b I in
    let t = take_pass_lem st.cpus st.table f mem₁ b st.cpus device st.procs (omega arith) I₁ (put_here st.mem b (f b)) in
    inv_alone st.cpus st.table f (put_block f b ws) mem₁ (put_block st.mem b ws) (take_pass st.cpus device b st.procs) b t.inv
    (λ i. lone t i (dec_lt i st.cpus))
    (λ x n. (sym (put_else f b ws x n), put_else st.mem b ws x n ∙ sym (put_else st.mem b (f b) x n)))
    (put_here st.mem b ws ∙ sym (put_here f b ws))
  where
    lone : Taken st.cpus st.table f (put_block st.mem b (f b)) b st.cpus device st.procs (take_pass st.cpus device b st.procs) → (i : ℕ) → Dec (i < st.cpus) → Lacks (proc_at (take_pass st.cpus device b st.procs) i) b
    lone t i (yes l) = t.lacks i l (λ e. omega arith)
    lone t i (no l) = λ s w pr e. empty_filled (is_absent (entry_at (proc_at (take_pass st.cpus device b st.procs) i) s w).state) (t.inv.idle i s w (omega arith)) pr

-- a new machine
module _ (rv rr : Rule) where
  new_line : (s w : ℕ) → is_empty (line_at (new_processor rv rr) s w).state ≡ true
  new_line s w = elim (cell_copies v_sets v_ways no_line past_line s w) [ inl e ↦ rw e | inr e ↦ rw e ]

  pub record Blank (e : REntry) : Type 0 where
    pub absent : is_absent e.state ≡ true
    pub child : e.child ≡ NoChild
    pub clean : e.rdirty ≡ false

  new_entry : (s w : ℕ) → Blank (entry_at (new_processor rv rr) s w)
  new_entry s w = elim (cell_copies r_sets r_ways no_entry past_entry s w) [ inl e ↦ rw e (record { absent = refl; child = refl; clean = refl }) | inr e ↦ rw e (record { absent = refl; child = refl; clean = refl }) ]

  new_ok : (T : ℕ → Option ℕ) (f : Blocks) → ProcOk T f (new_processor rv rr)
  new_ok T f = record {
    shaped = record { v_rows = rows v_ways no_line v_sets; r_rows = rows r_ways no_entry r_sets; v_sets = length-replicate v_sets (replicate v_ways no_line); r_sets = length-replicate r_sets (replicate r_ways no_entry) };
    sound = record {
      lines = λ s w h. absurd (empty_filled (is_empty (line_at (new_processor rv rr) s w).state) (new_line s w) h);
      children = λ s w q d h. absurd (nil_at (entry_at (new_processor rv rr) s w).child q d (new_entry s w).child h);
      ents = λ s w h. absurd (empty_filled (is_absent (entry_at (new_processor rv rr) s w).state) (new_entry s w).absent h);
      void = λ s w h. (new_entry s w).clean;
      once = λ s w u h i e. absurd (empty_filled (is_absent (entry_at (new_processor rv rr) s w).state) (new_entry s w).absent h);
    };
    tally = none r_sets;
  }
    where
      row : (m : ℕ) → in_row (replicate m no_entry) ≡ 0
      row zero = refl
      row (suc m) = let i = row m in omega arith

      none : (n : ℕ) → 0 ≡ resident (replicate n (replicate r_ways no_entry)) + 0 + 0
      none zero = omega arith
      none (suc n) = let i = none n in let j = row r_ways in omega arith

  -- each of the four, or what stands past them
  all_absent : (i s w : ℕ) → is_absent (entry_at (proc_at (replicate most_processors (new_processor rv rr)) i) s w).state ≡ true
  all_absent i s w = elim (at_copies most_processors (new_processor rv rr) no_processor i) [ inl e ↦ rw e (new_entry s w).absent | inr e ↦ rw e ]

  new_at : (n i : ℕ) → i < n → get_or (replicate n (new_processor rv rr)) i no_processor ≡ new_processor rv rr
  new_at zero i h = let z : ⊥ = omega arith in absurd z
  new_at (suc n) zero h = refl
  new_at (suc n) (suc i) h = new_at n i (omega arith)

  pub new_process : (i : ℕ) → (proc_at (replicate most_processors (new_processor rv rr)) i).process.0 ≡ 0
  new_process i = elim (at_copies most_processors (new_processor rv rr) no_processor i) [ inl e ↦ rw e | inr e ↦ rw e ]

  pub new_inv : (n : ℕ) (table : ℕ → ℕ → Option ℕ) (mem : Blocks) → n ≤ most_processors → Inv n table mem mem (replicate most_processors (new_processor rv rr))
  new_inv n table mem le = record {
    few = le;
    each = λ i l. let e : proc_at (replicate most_processors (new_processor rv rr)) i ≡ new_processor rv rr = new_at most_processors i (omega arith) in
        subst (λ (z : Processor). ProcOk (translate table z.process.0) mem z) (sym e) (new_ok (translate table 0) mem);
    idle = λ i s w l. all_absent i s w;
    apart = λ i j ne s w t u pv pr eb. empty_filled (is_absent (entry_at (proc_at (replicate most_processors (new_processor rv rr)) j) t u).state) (all_absent j t u) pr;
    memory = λ x c. refl;
  }

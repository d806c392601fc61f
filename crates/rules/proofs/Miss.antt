-- Step 6: a block is fetched over the bus.
use Rattle.std.proofs.Common.{◌≡◌, ℕ, ◌%◌, ◌<◌, Bool, true, false, List, [], length, get_or, set, Some, None, Option, sym, refl, ap, ◌∙◌, subst, arith, set-set}
use native.Mathlib.Decide.{ℕ_discrete, dec_lt}
use borrow.Author.Tests.{clash}
use Rattle.rules.specs.Sizes.{v_sets, v_ways, r_sets, r_ways, page_blocks}
use Rattle.tables.specs.declared.types.LineState.TheVariants.{Valid}
use Rattle.tables.specs.declared.types.EntryState.TheVariants.{Private, Shared}
use Rattle.tables.specs.declared.types.Child.TheVariants.{NoChild}
use Rattle.tables.specs.declared.types.VLine.{VLine}
use Rattle.tables.specs.declared.types.REntry.{REntry}
use Rattle.tables.specs.declared.types.Processor.{Processor}
use Rattle.rules.specs.Rule.{Lawful}
use Rattle.rules.specs.Cache.{line_at, entry_at, put_entry, is_valid, is_empty, is_absent, r_find, v_way, r_way, free_line, free_child, evict, filled, with_counts, count_fetched, v_loaded, r_loaded}
use Rattle.rules.specs.Bus.{memory, Blocks, put_block, proc_at, modified, read_pass, take_pass, Passed}
use Rattle.rules.specs.Calls.{Board, Rules, Ref, cpu_at, put_cpu, is_write, r_miss, write_back_by, snooped_by, fetch_state}
use Rattle.rules.specs.Invariant.{Present, placed}
use Rattle.rules.specs.Sound.{ProcOk, Inv, InvOf, Clean, Lacks, translate}
use Rattle.rules.proofs.Cells.{But, place_dec, empty_filled, but_line, but_entry}
use Rattle.rules.proofs.Ops.{free_line_lem, fetch, fill}
use Rattle.rules.proofs.Whole.{inv_set, inv_sub, inv_same, Same, Sub, same_sub, same_clean, same_trans, put_same, Runs, runs_set, private_present}
use Rattle.rules.proofs.Steps.{go_same, fill_same}
use Rattle.rules.proofs.Seek.{r_lacks}
use Rattle.rules.proofs.Attach.{ok_tables, v_way_range, free_line_empty, free_line_process}
use Rattle.rules.proofs.Room.{r_way_range, Freed, free_child_lem, Evicted, evict_ok}
use Rattle.rules.proofs.Passes.{SharedIn, read_pass_lem, Snooped, take_pass_lem, Taken}
use Rattle.rules.proofs.Upgrade.{up_to_date, shared_private}
use Rattle.rules.proofs.Hits.{ReachOk}
use Rattle.rules.proofs.Sizes.{v_set_in, r_set_in}
use Rattle.rules.proofs.NeverFour.{never_four}
use Rattle.rules.specs.Basic.{first_below}
use Rattle.rules.specs.Cache.{childless}

-- what the others do at kinds 1 and 3
pub record SnoopOk (f : Blocks) (st : Board) (x : Bool) (i b : ℕ) (q : Passed) : Type 0 where
  pub inv : Inv st.cpus st.table f q.mem q.procs
  pub here : proc_at q.procs i ≡ cpu_at st i
  pub runs : Runs st.procs q.procs
  pub words : q.mem b ≡ f b
  pub sharing : (j : ℕ) → (j ≡ i → ⊥) → SharedIn (proc_at q.procs j) b
  pub alone : fetch_state x q.acked ≡ Private → (j : ℕ) → (j ≡ i → ⊥) → Lacks (proc_at q.procs j) b

abbrev pub asked : Board → ℕ → ℕ → Passed
asked st i b = read_pass st.cpus i b (record { procs = st.procs; mem = st.mem; supplier = memory; acked = false })

pub snoop_ok : (f : Blocks) (st : Board) (x : Bool) (i b : ℕ) → InvOf st f → i < st.cpus → Lacks (cpu_at st i) b → SnoopOk f st x i b (snooped_by x i b st)
snoop_ok f st x i b I lt lk = go x
  where
    s : Snooped st.cpus st.table f b st.cpus i (record { procs = st.procs; mem = st.mem; supplier = memory; acked = false }) (asked st i b)
    s = read_pass_lem st.cpus st.table f b st.cpus i (record { procs = st.procs; mem = st.mem; supplier = memory; acked = false }) (omega arith) I

    idle : (ps : List Processor) (mem : Blocks) → Inv st.cpus st.table f mem ps → (j : ℕ) → (j < st.cpus → ⊥) → Lacks (proc_at ps j) b
    idle ps mem J j nl s w pr e = empty_filled (is_absent (entry_at (proc_at ps j) s w).state) (J.idle j s w (omega arith)) pr

    mine : Lacks (proc_at (asked st i b).procs i) b
    mine = subst (λ (z : Processor). Lacks z b) (sym (s.stays i (λ l. refl))) lk

    calm : (j : ℕ) → j < st.cpus → SharedIn (proc_at (asked st i b).procs j) b
    calm j l = at (ℕ_discrete j i)
      where
        at : Dec (j ≡ i) → SharedIn (proc_at (asked st i b).procs j) b
        at (yes z) = subst (λ (a : ℕ). SharedIn (proc_at (asked st i b).procs a) b) (sym z) (λ a c pr e. absurd (mine a c pr e))
        at (no nz) = s.sharing j l nz

    words : (asked st i b).mem b ≡ f b
    words = up_to_date st.cpus st.table f (asked st i b).mem (asked st i b).procs b s.inv calm

    unacked : (a : Bool) → fetch_state false a ≡ Private → a ≡ false
    unacked true e = absurd (shared_private Shared refl e)
    unacked false e = refl

    go : (x : Bool) → SnoopOk f st x i b (snooped_by x i b st)
    go false = record {
      inv = s.inv;
      here = s.stays i (λ l. refl);
      runs = s.runs;
      words = words;
      sharing = λ j ne a c pr e. at j ne a c pr e (dec_lt j st.cpus);
      alone = λ pv j ne. lone (unacked (asked st i b).acked pv) j ne (dec_lt j st.cpus);
    }
      where
        at : (j : ℕ) → (j ≡ i → ⊥) → (a c : ℕ) → Present (entry_at (proc_at (asked st i b).procs j) a c) → (entry_at (proc_at (asked st i b).procs j) a c).block.0 ≡ b → Dec (j < st.cpus)
            → (entry_at (proc_at (asked st i b).procs j) a c).state ≡ Shared
        at j ne a c pr e (yes l) = calm j l a c pr e
        at j ne a c pr e (no nl) = absurd (idle (asked st i b).procs (asked st i b).mem s.inv j nl a c pr e)

        lone : (asked st i b).acked ≡ false → (j : ℕ) → (j ≡ i → ⊥) → Dec (j < st.cpus) → Lacks (proc_at (asked st i b).procs j) b
        lone un j ne (yes l) = s.alone un j l ne
        lone un j ne (no nl) = idle (asked st i b).procs (asked st i b).mem s.inv j nl
    go true =
        let q = asked st i b in
        let t = take_pass_lem st.cpus st.table f q.mem b st.cpus i q.procs (omega arith) s.inv words in
        record {
          inv = t.inv;
          here = t.stays i (λ l. refl) ∙ s.stays i (λ l. refl);
          runs = λ j. t.runs j ∙ s.runs j;
          words = words;
          sharing = λ j ne a c pr e. absurd (lone t j ne (dec_lt j st.cpus) a c pr e);
          alone = λ pv j ne. lone t j ne (dec_lt j st.cpus);
        }
      where
        lone : Taken st.cpus st.table f (asked st i b).mem b st.cpus i (asked st i b).procs (take_pass st.cpus i b (asked st i b).procs)
            → (j : ℕ) → (j ≡ i → ⊥) → Dec (j < st.cpus) → Lacks (proc_at (take_pass st.cpus i b (asked st i b).procs) j) b
        lone t j ne (yes l) = t.lacks j l ne
        lone t j ne (no nl) = idle (take_pass st.cpus i b (asked st i b).procs) (asked st i b).mem t.inv j nl

-- a block comes in
pub inv_fetch : (n : ℕ) (table : ℕ → ℕ → Option ℕ) (f mem : Blocks) (ps : List Processor) (i h k : ℕ) (y : REntry) (p : Processor) → i < n → Inv n table f mem ps
    → is_absent (entry_at (proc_at ps i) h k).state ≡ true → But (entry_at (proc_at ps i)) (entry_at p) h k y → ProcOk (translate table p.process.0) f p
    → ((j : ℕ) → (j ≡ i → ⊥) → SharedIn (proc_at ps j) y.block.0) → (y.state ≡ Private → (j : ℕ) → (j ≡ i → ⊥) → Lacks (proc_at ps j) y.block.0)
    → Inv n table f mem (set ps i p)
inv_fetch n table f mem ps i h k y p lt I ab m ok calm alone = inv_set n table f f mem mem ps i p lt I ok (λ j ne s w q. refl)
    (λ s w pv j ne. out s w pv j ne (place_dec s w h k))
    (λ s w q j ne a b pv e. come s w q j ne a b pv e (place_dec s w h k))
    (λ x c o. I.memory x (λ j s w q e. memo x c o j s w q e (ℕ_discrete j i)))
  where
    out : (s w : ℕ) → (entry_at p s w).state ≡ Private → (j : ℕ) → (j ≡ i → ⊥) → Dec ((s ≡ h) × (w ≡ k)) → Lacks (proc_at ps j) (entry_at p s w).block.0
    out s w pv j ne (yes z) =
        let pv' : y.state ≡ Private = rw (z.0, z.1, m.same) at pv in
        rw (z.0, z.1, m.same) (alone pv' j ne)
    out s w pv j ne (no nz) = let o = m.other s w nz in rw o (λ a b q e. I.apart i j (λ z. ne (sym z)) s w a b (rw o at pv) q (sym e))

    come : (s w : ℕ) → Present (entry_at p s w) → (j : ℕ) → (j ≡ i → ⊥) → (a b : ℕ) → (entry_at (proc_at ps j) a b).state ≡ Private → (entry_at (proc_at ps j) a b).block.0 ≡ (entry_at p s w).block.0 → Dec ((s ≡ h) × (w ≡ k)) → ⊥
    come s w q j ne a b pv e (yes z) = shared_private (entry_at (proc_at ps j) a b).state (calm j ne a b (private_present (entry_at (proc_at ps j) a b) pv) (rw (z.0, z.1, m.same) at e)) pv
    come s w q j ne a b pv e (no nz) = let o = m.other s w nz in I.apart j i ne a b s w pv (rw o at q) (rw o at e)

    memo : (x : ℕ) → Clean p x → ((j : ℕ) → (j ≡ i → ⊥) → Clean (proc_at ps j) x) → (j s w : ℕ) → Present (entry_at (proc_at ps j) s w) → (entry_at (proc_at ps j) s w).block.0 ≡ x → Dec (j ≡ i) → modified (entry_at (proc_at ps j) s w) ≡ false
    memo x c o j s w q e (no ne) = o j ne s w q e
    memo x c o j s w q e (yes z) = subst (λ (a : ℕ). modified (entry_at (proc_at ps a) s w) ≡ false) (sym z) (at (rw z at q) (subst (λ (a : ℕ). (entry_at (proc_at ps a) s w).block.0 ≡ x) z e) (place_dec s w h k))
      where
        at : Present (entry_at (proc_at ps i) s w) → (entry_at (proc_at ps i) s w).block.0 ≡ x → Dec ((s ≡ h) × (w ≡ k)) → modified (entry_at (proc_at ps i) s w) ≡ false
        at q e (yes u) = absurd (empty_filled (is_absent (entry_at (proc_at ps i) h k).state) ab (rw (u.0, u.1) at q))
        at q e (no nu) = let r = m.other s w nu in rw r at (c s w (rw r q) (rw r e))

module _ (f : Blocks) (rs : Rules) (lawV : Lawful rs.for_v) (lawR : Lawful rs.for_r) (st : Board) (r : Ref) (b : ℕ) (I : InvOf st f) (lt : r.cpu < st.cpus)
    (no-b : r_find (cpu_at st r.cpu) b ≡ None) (tr : translate st.table (cpu_at st r.cpu).process.0 r.vb ≡ Some b) (fits : r.vb % v_sets % page_blocks ≡ b % r_sets % page_blocks) where
  abbrev i : ℕ
  i = r.cpu

  abbrev s : ℕ
  s = r.vb % v_sets

  abbrev h : ℕ
  h = b % r_sets

  abbrev p : Processor
  p = cpu_at st i

  abbrev u : ℕ
  u = v_way rs.for_v p s

  abbrev p₁ : Processor
  p₁ = free_line p s u

  abbrev k : ℕ
  k = r_way rs.for_r p₁ h

  abbrev p₂ : Processor
  p₂ = free_child p₁ (entry_at p₁ h k).child

  abbrev e : REntry
  e = entry_at p₂ h k

  abbrev p_e : Processor
  p_e = evict p₂ h k

  abbrev T : ℕ → Option ℕ
  T = translate st.table p.process.0

  lu : u < v_ways
  lu = v_way_range rs.for_v p s lawV

  lk : k < r_ways
  lk = r_way_range rs.for_r p₁ h lawR

  ls : s < v_sets
  ls = v_set_in r.vb

  lh : h < r_sets
  lh = r_set_in b

  pub fr : Freed T f p₁ p₂ h k
  fr = free_child_lem T f p₁ h k (free_line_lem T f p (I.each i lt) s u)

  -- a childless way, or an absent one, was there to choose
  pub never_four_here : first_below r_ways (λ w. childless (entry_at p₁ h w)) ≡ None → ⊥
  never_four_here = never_four T f p₁ (free_line_lem T f p (I.each i lt) s u) h s u ls lu fits (free_line_empty T f p (I.each i lt) s u ls lu)

  pub ev : Evicted T f p₂ p_e h k
  ev = evict_ok T f p₂ h k fr.ok fr.nil

  process : p_e.process.0 ≡ p.process.0
  process = ev.process ∙ fr.process ∙ free_line_process T f p (I.each i lt) s u

  pub same₂ : Same p p₂
  same₂ = same_trans p p₁ p₂ (go_same T f p (I.each i lt) s u) fr.same

  sub : Sub p p_e
  sub a c pr = let x = ev.sub a c pr in let y = same_sub p p₂ same₂ a c x.here in record { here = y.here; block = x.block ∙ y.block; priv = λ z. y.priv (x.priv z) }

  empty : is_empty (line_at p_e s u).state ≡ true
  empty = ap (λ (z : List (List VLine)). is_empty (get_or (get_or z s []) u Rattle.rules.specs.Cache.past_line).state) ev.lines ∙ fr.still s u (free_line_empty T f p (I.each i lt) s u ls lu)

  lacks : Lacks p_e b
  lacks a c pr eb = let x = sub a c pr in r_lacks T f p b (I.each i lt) no-b a c x.here (sym x.block ∙ eb)

  abbrev st₁ : Board
  st₁ = write_back_by e.rdirty (put_cpu st i p_e) e

  -- the machine when the R-way is free and the replaced block is in memory
  pub record Back (st' : Board) : Type 0 where
    pub inv : InvOf st' f
    pub cpus : st'.cpus ≡ st.cpus
    pub table : st'.table ≡ st.table
    pub mine : cpu_at st' i ≡ p_e
    pub runs : Runs st.procs st'.procs

  pub back : Back st₁
  back = go e.rdirty refl
    where
      long : i < length st.procs
      long = omega (arith, I.few)

      put : (mem' : Blocks) → ((entry_at p₂ h k).rdirty ≡ false → (x : ℕ) → mem' x ≡ st.mem x) → ((entry_at p₂ h k).rdirty ≡ true → (x : ℕ) → mem' x ≡ put_block st.mem (entry_at p₂ h k).block.0 (entry_at p₂ h k).words x)
          → Inv st.cpus st.table f mem' (set st.procs i p_e)
      put mem' a c = inv_sub st.cpus st.table f st.mem mem' st.procs i p_e lt I (subst (λ (z : ℕ). ProcOk (translate st.table z) f p_e) (sym process) ev.ok) sub
          (λ x cl g. ev.memory st.mem mem' a c x cl (λ c₂. g (same_clean p p₂ x same₂ c₂)))

      go : (d : Bool) → e.rdirty ≡ d → Back (write_back_by d (put_cpu st i p_e) e)
      go false z = record { inv = put st.mem (λ a x. refl) (λ a. absurd (clash (sym z ∙ a))); cpus = refl; table = refl; mine = put_same st.procs i p_e long; runs = runs_set st.procs i p_e long process }
      go true z = record { inv = put (put_block st.mem e.block.0 e.words) (λ a. absurd (clash (sym a ∙ z))) (λ a x. refl); cpus = refl; table = refl; mine = put_same st.procs i p_e long; runs = runs_set st.procs i p_e long process }

  abbrev x : Bool
  x = is_write r.value

  abbrev q : Passed
  q = snooped_by x i b st₁

  pub lt₁ : i < st₁.cpus
  lt₁ = rw back.cpus lt

  pub sn : SnoopOk f st₁ x i b q
  sn = snoop_ok f st₁ x i b back.inv lt₁ (subst (λ (z : Processor). Lacks z b) (sym back.mine) lacks)

  abbrev p₃ : Processor
  p₃ = proc_at q.procs i

  abbrev y : REntry
  y = record { state = fetch_state x q.acked; block = record { 0 = b }; words = q.mem b; rdirty = false; child = NoChild }

  abbrev p₄ : Processor
  p₄ = with_counts (put_entry p₃ h k y) (count_fetched p₃.counts)

  abbrev p₅ : Processor
  p₅ = filled p₄ s u h k r.vb

  abbrev p₆ : Processor
  p₆ = r_loaded rs.for_r (v_loaded rs.for_v p₅ s u) h k

  pub is₃ : p₃ ≡ p_e
  is₃ = sn.here ∙ back.mine

  T₃ : ℕ → Option ℕ
  T₃ = translate st₁.table p₃.process.0

  tr₃ : translate st₁.table p₃.process.0 r.vb ≡ Some b
  tr₃ = ap {B = Option ℕ} (λ (t : ℕ → ℕ → Option ℕ). translate t p₃.process.0 r.vb) back.table ∙ ap {B = Option ℕ} (λ (z : Processor). translate st.table z.process.0 r.vb) is₃ ∙ ap {B = Option ℕ} (λ z. translate st.table z r.vb) process ∙ tr

  ab₃ : is_absent (entry_at p₃ h k).state ≡ true
  ab₃ = ap (λ (z : Processor). is_absent (entry_at z h k).state) is₃ ∙ ev.gone

  em₃ : is_empty (line_at p₃ s u).state ≡ true
  em₃ = ap (λ (z : Processor). is_empty (line_at z s u).state) is₃ ∙ empty

  O₃ : ProcOk (translate st₁.table p₃.process.0) f p₃
  O₃ = sn.inv.each i lt₁

  m₄ : But (entry_at p₃) (entry_at p₄) h k y
  m₄ = but_entry p₃ h k y O₃.shaped lh lk

  share_here : (a d : Bool) → is_absent (fetch_state a d) ≡ false
  share_here true d = refl
  share_here false true = refl
  share_here false false = refl

  O₄ : ProcOk (translate st₁.table p₃.process.0) f p₄
  O₄ = fetch (translate st₁.table p₃.process.0) f p₃ O₃ h k (count_fetched p₃.counts) y (refl, refl, refl) (share_here x q.acked) lh lk ab₃ refl refl refl sn.words
      (λ w pr eb. subst (λ (z : Processor). Lacks z b) (sym is₃) lacks h w pr (sym eb))

  I₄ : Inv st₁.cpus st₁.table f q.mem (set q.procs i p₄)
  I₄ = inv_fetch st₁.cpus st₁.table f q.mem q.procs i h k y p₄ lt₁ sn.inv ab₃ m₄ O₄ sn.sharing sn.alone

  pr₄ : Present (entry_at p₄ h k)
  pr₄ = rw m₄.same (share_here x q.acked)

  nil₄ : (entry_at p₄ h k).child ≡ NoChild
  nil₄ = ap (λ (z : REntry). z.child) m₄.same

  O₅ : ProcOk (translate st₁.table p₃.process.0) f p₅
  O₅ = fill (translate st₁.table p₃.process.0) f p₄ O₄ s u h k r.vb ls lu em₃ pr₄ nil₄ (tr₃ ∙ ap {B = Option ℕ} Some (sym (ap (λ (z : REntry). z.block.0) m₄.same))) fits

  same₅ : Same p₄ p₅
  same₅ = fill_same (translate st₁.table p₃.process.0) f p₄ O₄ s u h k r.vb pr₄ nil₄

  long : i < length q.procs
  long = omega (arith, lt₁, sn.inv.few)

  I₆ : Inv st₁.cpus st₁.table f q.mem (set q.procs i p₆)
  I₆ =
      let e₄ = put_same q.procs i p₄ long in
      subst (λ (z : List Processor). Inv st₁.cpus st₁.table f q.mem z) (set-set q.procs i p₄ p₆)
      (inv_same st₁.cpus st₁.table f q.mem (set q.procs i p₄) i p₆ lt₁ I₄ (ok_tables (translate st₁.table p₃.process.0) f p₅ p₆ refl refl refl O₅) (subst (λ (z : Processor). Same z p₆) (sym e₄) same₅))

  abbrev l : VLine
  l = record { state = Valid; tag = record { 0 = r.vb }; words = (entry_at p₄ h k).words; dirty = false; rplace = placed h k }

  line₆ : line_at p₆ s u ≡ l
  line₆ = (but_line p₄ s u l O₄.shaped ls lu).same

  pub r_miss_ok : ReachOk f st r (r_miss rs st r b)
  r_miss_ok =
      let e₆ : proc_at (set q.procs i p₆) i ≡ p₆ = put_same q.procs i p₆ long in
      record {
        inv = I₆;
        cpus = back.cpus;
        table = back.table;
        runs = λ j. runs_set q.procs i p₆ long refl j ∙ sn.runs j ∙ back.runs j;
        valid = ap (λ (z : Processor). is_valid (line_at z s u).state) e₆ ∙ ap (λ (z : VLine). is_valid z.state) line₆;
        tag = ap (λ (z : Processor). (line_at z s u).tag.0) e₆ ∙ ap (λ (z : VLine). z.tag.0) line₆;
        own = λ wr. subst (λ (z : Processor). (entry_at z (line_at z s u).rplace.set (line_at z s u).rplace.way).state ≡ Private) (sym e₆)
            (subst (λ (z : VLine). (entry_at p₆ z.rplace.set z.rplace.way).state ≡ Private) (sym line₆) ((same₅ h k).state ∙ ap (λ (z : REntry). z.state) m₄.same ∙ ap (λ z. fetch_state z q.acked) wr));
      }

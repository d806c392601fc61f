-- A write's upgrade: the others drop the block, and the entry becomes private.
use Rattle.std.proofs.Common.{◌≡◌, ℕ, ◌<◌, Bool, true, false, List, length, set, Some, None, Option, sym, refl, ap, ◌∙◌, subst, arith}
use native.Mathlib.Decide.{ℕ_discrete, dec_lt}
use borrow.Author.Tests.{clash}
use Rattle.tables.specs.declared.types.EntryState.{EntryState}
use Rattle.tables.specs.declared.types.EntryState.TheVariants.{Absent, Private, Shared}
use Rattle.tables.specs.declared.types.REntry.{REntry}
use Rattle.tables.specs.declared.types.Processor.{Processor}
use Rattle.rules.specs.Basic.{both}
use Rattle.rules.specs.Cache.{entry_at, put_entry, is_absent, is_shared, with_state}
use Rattle.rules.specs.Bus.{Blocks, proc_at, modified, take_pass}
use Rattle.rules.specs.Calls.{Board, cpu_at, upgrade_by, needs_upgrade, is_write}
use Rattle.rules.specs.Invariant.{Present}
use Rattle.rules.specs.Sound.{ProcOk, Inv, Clean, Lacks, translate, InvOf}
use Rattle.rules.proofs.Cells.{But, place_dec, empty_filled}
use Rattle.rules.proofs.Ops.{reshare, unique}
use Rattle.rules.proofs.Whole.{inv_set, put_same, Runs, runs_set}
use Rattle.rules.proofs.Steps.{but_present}
use Rattle.rules.proofs.Passes.{SharedIn, take_pass_lem, Taken}

pub shared_private : (s : EntryState) → s ≡ Shared → s ≡ Private → ⊥
shared_private s a c = let z : ◌≡◌ {A = ℕ} 0 1 = cc in omega arith

pub not_private : (s : EntryState) → is_absent s ≡ false → (s ≡ Private → ⊥) → s ≡ Shared
not_private Absent a n = absurd (clash (sym a))
not_private Private a n = absurd (n refl)
not_private Shared a n = refl

pub not_shared : (s : EntryState) → is_absent s ≡ false → is_shared s ≡ false → s ≡ Private
not_shared Absent a n = absurd (clash (sym a))
not_shared Private a n = refl
not_shared Shared a n = absurd (clash (sym n))

is_shared_lem : (s : EntryState) → is_shared s ≡ true → s ≡ Shared
is_shared_lem Absent a = absurd (clash a)
is_shared_lem Private a = absurd (clash a)
is_shared_lem Shared a = refl

-- a block that is shared wherever it is held reads from memory
pub up_to_date : (n : ℕ) (table : ℕ → ℕ → Option ℕ) (f mem : Blocks) (ps : List Processor) (b : ℕ) → Inv n table f mem ps → ((j : ℕ) → j < n → SharedIn (proc_at ps j) b) → mem b ≡ f b
up_to_date n table f mem ps b I sh = I.memory b (λ i s w pr eb. go i s w pr eb (dec_lt i n))
  where
    go : (i s w : ℕ) → Present (entry_at (proc_at ps i) s w) → (entry_at (proc_at ps i) s w).block.0 ≡ b → Dec (i < n) → modified (entry_at (proc_at ps i) s w) ≡ false
    go i s w pr eb (no l) = absurd (empty_filled (is_absent (entry_at (proc_at ps i) s w).state) (I.idle i s w (omega arith)) pr)
    go i s w pr eb (yes l) = at (modified (entry_at (proc_at ps i) s w)) refl
      where
        at : (d : Bool) → modified (entry_at (proc_at ps i) s w) ≡ d → d ≡ false
        at true e = absurd (shared_private (entry_at (proc_at ps i) s w).state (sh i l s w pr eb) (((I.each i l).sound.ents s w pr).own e))
        at false e = refl

-- a block that one processor has shared is private nowhere
pub shared_all : (n : ℕ) (table : ℕ → ℕ → Option ℕ) (f mem : Blocks) (ps : List Processor) (i h k : ℕ) → Inv n table f mem ps → i < n → Present (entry_at (proc_at ps i) h k) → (entry_at (proc_at ps i) h k).state ≡ Shared
    → (j : ℕ) → j < n → SharedIn (proc_at ps j) (entry_at (proc_at ps i) h k).block.0
shared_all n table f mem ps i h k I lt pr sh j lj s w q e = go (ℕ_discrete j i)
  where
    go : Dec (j ≡ i) → (entry_at (proc_at ps j) s w).state ≡ Shared
    go (yes z) =
        let q' : Present (entry_at (proc_at ps i) s w) = rw z at q in
        let e' : (entry_at (proc_at ps i) s w).block.0 ≡ (entry_at (proc_at ps i) h k).block.0 = subst (λ (x : ℕ). (entry_at (proc_at ps x) s w).block.0 ≡ (entry_at (proc_at ps i) h k).block.0) z e in
        let u = unique (translate table (proc_at ps i).process.0) f (proc_at ps i) (I.each i lt) s w h k q' pr e' in
        rw (z, u.0, u.1) sh
    go (no nz) = not_private (entry_at (proc_at ps j) s w).state q (λ pv. I.apart j i nz s w h k pv pr e)

module _ (n : ℕ) (table : ℕ → ℕ → Option ℕ) (f mem : Blocks) (ps qs : List Processor) (i h k : ℕ) (lt : i < n)
    (t : Taken n table f mem (entry_at (proc_at ps i) h k).block.0 n i ps qs)
    (pr : Present (entry_at (proc_at qs i) h k)) (eb : (entry_at (proc_at ps i) h k).block.0 ≡ (entry_at (proc_at qs i) h k).block.0) where
  abbrev p : Processor
  p = proc_at qs i

  abbrev y : REntry
  y = with_state (entry_at (proc_at qs i) h k) Private

  O : ProcOk (translate table (proc_at qs i).process.0) f (proc_at qs i)
  O = t.inv.each i lt

  m : But (entry_at (proc_at qs i)) (entry_at (put_entry (proc_at qs i) h k y)) h k y
  m = but_present (translate table (proc_at qs i).process.0) f (proc_at qs i) O h k y pr

  lack : (j : ℕ) → (j ≡ i → ⊥) → Lacks (proc_at qs j) (entry_at (proc_at qs i) h k).block.0
  lack j ne s w q e = go (dec_lt j n)
    where
      go : Dec (j < n) → ⊥
      go (yes l) = t.lacks j l ne s w q (e ∙ sym eb)
      go (no l) = empty_filled (is_absent (entry_at (proc_at qs j) s w).state) (t.inv.idle j s w (omega arith)) q

  pub own_inv : Inv n table f mem (set qs i (put_entry (proc_at qs i) h k (with_state (entry_at (proc_at qs i) h k) Private)))
  own_inv = inv_set n table f f mem mem qs i (put_entry p h k y) lt t.inv (reshare (translate table p.process.0) f p O h k Private pr refl (λ z. refl)) (λ j ne s w q. refl)
      (λ s w pv j ne. out s w pv j ne (place_dec s w h k))
      (λ s w q j ne a b pv e. come s w q j ne a b pv e (place_dec s w h k))
      (λ x c o. t.inv.memory x (λ j s w q e. memo x c o j s w q e (ℕ_discrete j i)))
    where
      out : (s w : ℕ) → (entry_at (put_entry p h k y) s w).state ≡ Private → (j : ℕ) → (j ≡ i → ⊥) → Dec ((s ≡ h) × (w ≡ k)) → Lacks (proc_at qs j) (entry_at (put_entry p h k y) s w).block.0
      out s w pv j ne (yes z) = rw (z.0, z.1, m.same) (lack j ne)
      out s w pv j ne (no nz) = let o = m.other s w nz in rw o (λ a b q e. t.inv.apart i j (λ z. ne (sym z)) s w a b (rw o at pv) q (sym e))

      come : (s w : ℕ) → Present (entry_at (put_entry p h k y) s w) → (j : ℕ) → (j ≡ i → ⊥) → (a b : ℕ) → (entry_at (proc_at qs j) a b).state ≡ Private → (entry_at (proc_at qs j) a b).block.0 ≡ (entry_at (put_entry p h k y) s w).block.0 → Dec ((s ≡ h) × (w ≡ k)) → ⊥
      come s w q j ne a b pv e (yes z) = t.inv.apart j i ne a b h k pv pr (rw (z.0, z.1, m.same) at e)
      come s w q j ne a b pv e (no nz) = let o = m.other s w nz in t.inv.apart j i ne a b s w pv (rw o at q) (rw o at e)

      memo : (x : ℕ) → Clean (put_entry p h k y) x → ((j : ℕ) → (j ≡ i → ⊥) → Clean (proc_at qs j) x) → (j s w : ℕ) → Present (entry_at (proc_at qs j) s w) → (entry_at (proc_at qs j) s w).block.0 ≡ x → Dec (j ≡ i) → modified (entry_at (proc_at qs j) s w) ≡ false
      memo x c o j s w q e (no ne) = o j ne s w q e
      memo x c o j s w q e (yes z) = subst (λ (a : ℕ). modified (entry_at (proc_at qs a) s w) ≡ false) (sym z) (at (rw z at q) (subst (λ (a : ℕ). (entry_at (proc_at qs a) s w).block.0 ≡ x) z e) (place_dec s w h k))
        where
          at : Present (entry_at (proc_at qs i) s w) → (entry_at (proc_at qs i) s w).block.0 ≡ x → Dec ((s ≡ h) × (w ≡ k)) → modified (entry_at (proc_at qs i) s w) ≡ false
          at q e (yes u) = rw (u.0, u.1) (ap modified (sym m.same) ∙ c h k (rw m.same) (ap (λ (r : REntry). r.block.0) m.same ∙ (rw (u.0, u.1) at e)))
          at q e (no nu) = let r = m.other s w nu in rw r at (c s w (rw r q) (rw r e))

pub record UpgradeOk (f : Blocks) (st st' : Board) (i h k : ℕ) (v : Option ℕ) : Type 0 where
  pub inv : InvOf st' f
  pub cpus : st'.cpus ≡ st.cpus
  pub table : st'.table ≡ st.table
  pub lines : (cpu_at st' i).v ≡ (cpu_at st i).v
  pub runs : Runs st.procs st'.procs
  pub here : Present (entry_at (cpu_at st' i) h k)
  pub child : (entry_at (cpu_at st' i) h k).child ≡ (entry_at (cpu_at st i) h k).child
  pub block : (entry_at (cpu_at st' i) h k).block.0 ≡ (entry_at (cpu_at st i) h k).block.0
  pub own : is_write v ≡ true → (entry_at (cpu_at st' i) h k).state ≡ Private

pub upgrade_ok : (f : Blocks) (st : Board) (i h k : ℕ) (v : Option ℕ) → InvOf st f → i < st.cpus → Present (entry_at (cpu_at st i) h k)
    → UpgradeOk f st (upgrade_by (needs_upgrade v (entry_at (cpu_at st i) h k)) st i h k) i h k v
upgrade_ok f st i h k v I lt pr = go v (is_shared (entry_at (cpu_at st i) h k).state) refl
  where
    keep : (v : Option ℕ) → (is_write v ≡ true → (entry_at (cpu_at st i) h k).state ≡ Private) → UpgradeOk f st st i h k v
    keep v o = record { inv = I; cpus = refl; table = refl; lines = refl; runs = λ j. refl; here = pr; child = refl; block = refl; own = o }

    took : (v : Option ℕ) → (entry_at (cpu_at st i) h k).state ≡ Shared → UpgradeOk f st (upgrade_by true st i h k) i h k v
    took v sh =
        let ps = st.procs in
        let b = (entry_at (proc_at ps i) h k).block.0 in
        let qs = take_pass st.cpus i b ps in
        let t = take_pass_lem st.cpus st.table f st.mem b st.cpus i ps (omega arith) I (up_to_date st.cpus st.table f st.mem ps b I (shared_all st.cpus st.table f st.mem ps i h k I lt pr sh)) in
        let e : proc_at qs i ≡ proc_at ps i = t.stays i (λ l. refl) in
        let pr' : Present (entry_at (proc_at qs i) h k) = rw e pr in
        let eb : b ≡ (entry_at (proc_at qs i) h k).block.0 = rw e in
        let y = with_state (entry_at (proc_at qs i) h k) Private in
        let p' = put_entry (proc_at qs i) h k y in
        let long : i < length qs = omega (arith, t.inv.few) in
        let s : proc_at (set qs i p') i ≡ p' = put_same qs i p' long in
        let m = but_present (translate st.table (proc_at qs i).process.0) f (proc_at qs i) (t.inv.each i lt) h k y pr' in
        record {
          inv = own_inv st.cpus st.table f st.mem ps qs i h k lt t pr' eb;
          cpus = refl;
          table = refl;
          lines = ap (λ (z : Processor). z.v) s ∙ ap (λ (z : Processor). z.v) e;
          runs = λ j. runs_set qs i p' long refl j ∙ t.runs j;
          here = rw (s, m.same);
          child = ap (λ (z : Processor). (entry_at z h k).child) s ∙ ap (λ (z : REntry). z.child) m.same ∙ ap (λ (z : Processor). (entry_at z h k).child) e;
          block = ap (λ (z : Processor). (entry_at z h k).block.0) s ∙ ap (λ (z : REntry). z.block.0) m.same ∙ ap (λ (z : Processor). (entry_at z h k).block.0) e;
          own = λ w. ap (λ (z : Processor). (entry_at z h k).state) s ∙ ap (λ (z : REntry). z.state) m.same;
        }

    go : (v : Option ℕ) (d : Bool) → is_shared (entry_at (cpu_at st i) h k).state ≡ d → UpgradeOk f st (upgrade_by (both (is_write v) d) st i h k) i h k v
    go None d e = keep None (λ w. absurd (clash w))
    go (Some x) true e = took (Some x) (is_shared_lem (entry_at (cpu_at st i) h k).state e)
    go (Some x) false e = keep (Some x) (λ w. not_shared (entry_at (cpu_at st i) h k).state pr e)

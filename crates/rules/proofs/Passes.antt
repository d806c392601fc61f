-- A message's pass over the processors keeps the invariant.
use Rattle.std.proofs.Common.{◌≡◌, ℕ, zero, suc, ◌%◌, ◌<◌, ◌≤◌, Bool, true, false, eqb, List, length, set, Some, None, Option, sym, refl, ap, ◌∙◌, subst, arith, eq-eqb, ne_eqb}
use native.Mathlib.Decide.{ℕ_discrete}
use borrow.Author.Tests.{clash}
use Rattle.rules.specs.Sizes.{r_sets}
use Rattle.tables.specs.declared.types.EntryState.{EntryState}
use Rattle.tables.specs.declared.types.EntryState.TheVariants.{Private, Shared}
use Rattle.tables.specs.declared.types.Child.{Child}
use Rattle.tables.specs.declared.types.Child.TheVariants.{NoChild, At}
use Rattle.tables.specs.declared.types.REntry.{REntry}
use Rattle.tables.specs.declared.types.Counts.{Counts}
use Rattle.tables.specs.declared.types.Processor.{Processor}
use Rattle.rules.specs.Cache.{entry_at, put_entry, no_entry, r_find, with_counts, with_state, count_invalidated}
use Rattle.rules.specs.Bus.{Blocks, put_block, proc_at, modified, current, supplied, empty_at, clean_at, take_by, take_skip, take_pass, seen_by, seen_held, shared_by, shared_held, noted_by, read_skip, read_pass, Passed}
use Rattle.rules.specs.Invariant.{Present}
use Rattle.rules.specs.Sound.{ProcOk, Inv, Clean, Lacks, translate}
use Rattle.rules.proofs.Cells.{But, place_dec}
use Rattle.rules.proofs.Ops.{take, reshare, supply, current_is}
use Rattle.rules.proofs.Whole.{inv_sub, inv_same, Kept, same_refl, put_same, put_other, Runs, runs_set}
use Rattle.rules.proofs.Steps.{but_present, sub_but, clean_but, only_but}
use Rattle.rules.proofs.Seek.{r_found, r_lacks}

pub put_here : (m : Blocks) (b : ℕ) (ws : List ℕ) → put_block m b ws b ≡ ws
put_here m b ws = rw (eq-eqb b b refl)

pub put_else : (m : Blocks) (b : ℕ) (ws : List ℕ) (x : ℕ) → (x ≡ b → ⊥) → put_block m b ws x ≡ m x
put_else m b ws x n = rw (ne_eqb x b n)

empty_process : (p : Processor) (c : Child) → (empty_at p c).process.0 ≡ p.process.0
empty_process p NoChild = refl
empty_process p (At q d) = refl

clean_process : (p : Processor) (c : Child) → (clean_at p c).process.0 ≡ p.process.0
clean_process p NoChild = refl
clean_process p (At q d) = refl

take_process : (o : Option ℕ) (b : ℕ) (p : Processor) → (take_by o b p).process.0 ≡ p.process.0
take_process None b p = refl
take_process (Some w) b p = empty_process p (entry_at p (b % r_sets) w).child

module _ (T : ℕ → Option ℕ) (f : Blocks) (p : Processor) (O : ProcOk T f p) (h k : ℕ) (pr : Present (entry_at p h k)) where
  but_empty : (c : Child) (y : REntry) (cs : Counts) → But (entry_at p) (entry_at (with_counts (put_entry (empty_at p c) h k y) cs)) h k y
  but_empty NoChild y cs = but_present T f p O h k y pr
  but_empty (At q d) y cs = but_present T f p O h k y pr

  but_clean : (c : Child) (y : REntry) → But (entry_at p) (entry_at (put_entry (clean_at p c) h k y)) h k y
  but_clean NoChild y = but_present T f p O h k y pr
  but_clean (At q d) y = but_present T f p O h k y pr

module _ (n : ℕ) (table : ℕ → ℕ → Option ℕ) (f : Blocks) (b : ℕ) where
  -- kind 2 at one processor, memory being up to date
  take_step : (mem : Blocks) (ps : List Processor) (i : ℕ) → Inv n table f mem ps → mem b ≡ f b → i < n
      → Inv n table f mem (set ps i (take_by (r_find (proc_at ps i) b) b (proc_at ps i))) × Lacks (take_by (r_find (proc_at ps i) b) b (proc_at ps i)) b
  take_step mem ps i I up lt = go (r_find (proc_at ps i) b) refl
    where
      p : Processor
      p = proc_at ps i

      go : (o : Option ℕ) → r_find (proc_at ps i) b ≡ o → Inv n table f mem (set ps i (take_by o b (proc_at ps i))) × Lacks (take_by o b (proc_at ps i)) b
      go None e = (inv_same n table f mem ps i (proc_at ps i) lt I (I.each i lt) (same_refl (proc_at ps i)), r_lacks (translate table (proc_at ps i).process.0) f (proc_at ps i) b (I.each i lt) e)
      go (Some w) e =
          let p = proc_at ps i in
          let O = I.each i lt in
          let T = translate table p.process.0 in
          let fd = r_found p b w e in
          let en = entry_at p (b % r_sets) w in
          let p' = take_by (Some w) b p in
          let m = but_empty T f p O (b % r_sets) w fd.0 en.child no_entry (count_invalidated p.counts) in
          let ok = take T f p O (b % r_sets) w (count_invalidated p.counts) (refl, omega arith) fd.0 in (
            inv_sub n table f mem mem ps i p' lt I (subst (λ (z : ℕ). ProcOk (translate table z) f p') (sym (empty_process p en.child)) ok) (sub_but p p' (b % r_sets) w no_entry m (λ z. absurd (clash (sym z))))
                (λ x c g. memo x c g m fd.1),
            λ s u q z. only_but p p' (b % r_sets) w no_entry m T f O fd.0 (λ r. ⊥) (λ z. clash (sym z)) s u q (z ∙ sym fd.1),
          )
        where
          memo : (x : ℕ) → Clean (take_by (Some w) b (proc_at ps i)) x → (Clean (proc_at ps i) x → mem x ≡ f x) → But (entry_at (proc_at ps i)) (entry_at (take_by (Some w) b (proc_at ps i))) (b % r_sets) w no_entry → (entry_at (proc_at ps i) (b % r_sets) w).block.0 ≡ b → mem x ≡ f x
          memo x c g m eb = at (ℕ_discrete x b)
            where
              at : Dec (x ≡ b) → mem x ≡ f x
              at (yes z) = rw z up
              at (no nz) = g (clean_but (proc_at ps i) (take_by (Some w) b (proc_at ps i)) (b % r_sets) w no_entry m x (λ z. nz (sym z ∙ eb)) c)

pub record Taken (n : ℕ) (table : ℕ → ℕ → Option ℕ) (f mem : Blocks) (b k sender : ℕ) (ps qs : List Processor) : Type 0 where
  pub inv : Inv n table f mem qs
  pub lacks : (j : ℕ) → j < k → (j ≡ sender → ⊥) → Lacks (proc_at qs j) b
  pub stays : (j : ℕ) → (j < k → j ≡ sender) → proc_at qs j ≡ proc_at ps j
  pub runs : Runs ps qs

pub take_pass_lem : (n : ℕ) (table : ℕ → ℕ → Option ℕ) (f mem : Blocks) (b k sender : ℕ) (ps : List Processor) → k ≤ n → Inv n table f mem ps → mem b ≡ f b
    → Taken n table f mem b k sender ps (take_pass k sender b ps)
take_pass_lem n table f mem b zero sender ps le I up = record { inv = I; lacks = λ j l. let z : ⊥ = omega arith in absurd z; stays = λ j h. refl; runs = λ j. refl }
take_pass_lem n table f mem b (suc k) sender ps le I up = go (take_pass_lem n table f mem b k sender ps (omega arith) I up) (ℕ_discrete k sender)
  where
    go : Taken n table f mem b k sender ps (take_pass k sender b ps) → Dec (k ≡ sender) → Taken n table f mem b (suc k) sender ps (take_skip (eqb k sender) b k (take_pass k sender b ps))
    go t (yes e) = rw (eq-eqb k sender e) (record {
      inv = t.inv;
      lacks = λ j l ne. t.lacks j (let z : j ≡ k → ⊥ = λ q. ne (q ∙ e) in omega arith) ne;
      stays = λ j h. t.stays j (λ l. h (omega arith));
      runs = t.runs;
    })
    go t (no ne) =
        let qs = take_pass k sender b ps in
        let p = take_by (r_find (proc_at qs k) b) b (proc_at qs k) in
        let s = take_step n table f b mem qs k t.inv up (omega arith) in
        let lt : k < length qs = omega (arith, t.inv.few) in
        rw (ne_eqb k sender ne) (record {
          inv = s.0;
          lacks = λ j l nj. lacks qs p j l nj lt s.1 (t.lacks j) (ℕ_discrete j k);
          stays = λ j h. let nk : j ≡ k → ⊥ = λ q. ne (sym q ∙ h (omega arith)) in put_other qs k p lt j nk ∙ t.stays j (λ l. h (omega arith));
          runs = λ j. runs_set qs k p lt (take_process (r_find (proc_at qs k) b) b (proc_at qs k)) j ∙ t.runs j;
        })
      where
        lacks : (qs : List Processor) (p : Processor) (j : ℕ) → j < suc k → (j ≡ sender → ⊥) → k < length qs → Lacks p b → (j < k → (j ≡ sender → ⊥) → Lacks (proc_at qs j) b) → Dec (j ≡ k) → Lacks (proc_at (set qs k p) j) b
        lacks qs p j l nj lt lp ih (yes q) = subst (λ (z : Processor). Lacks z b) (sym (ap (proc_at (set qs k p)) q ∙ put_same qs k p lt)) lp
        lacks qs p j l nj lt lp ih (no nq) = subst (λ (z : Processor). Lacks z b) (sym (put_other qs k p lt j nq)) (ih (omega arith) nj)

-- kinds 1 and 5 at one processor
abbrev pub SharedIn : Processor → ℕ → Type 0
SharedIn p b = (s w : ℕ) → Present (entry_at p s w) → (entry_at p s w).block.0 ≡ b → (entry_at p s w).state ≡ Shared

pub record Read (n : ℕ) (table : ℕ → ℕ → Option ℕ) (f : Blocks) (b i : ℕ) (q r : Passed) : Type 0 where
  pub inv : Inv n table f r.mem r.procs
  pub sharing : SharedIn (proc_at r.procs i) b
  pub alone : r.acked ≡ false → (q.acked ≡ false) × Lacks (proc_at r.procs i) b
  pub stays : (j : ℕ) → (j ≡ i → ⊥) → proc_at r.procs j ≡ proc_at q.procs j
  pub runs : Runs q.procs r.procs

shared_kept : (e e' : REntry) → Present e → e'.block.0 ≡ e.block.0 → e'.state ≡ Shared → Kept e e'
shared_kept e e' pr eb es = record { here = pr; block = eb; priv = λ z. absurd (never e'.state es z) }
  where
    never : (s : EntryState) → s ≡ Shared → s ≡ Private → ⊥
    never s a c = let z : ◌≡◌ {A = ℕ} 0 1 = cc in omega arith

read_step : (n : ℕ) (table : ℕ → ℕ → Option ℕ) (f : Blocks) (b i : ℕ) (q : Passed) → Inv n table f q.mem q.procs → i < n → Read n table f b i q (read_skip false b i q)
read_step n table f b i q I lt = go (r_find (proc_at q.procs i) b) refl
  where
    long : i < length q.procs
    long = omega (arith, I.few)

    go : (o : Option ℕ) → r_find (proc_at q.procs i) b ≡ o → Read n table f b i q (noted_by (seen_by o b (proc_at q.procs i)) b i (set q.procs i (shared_by o b (proc_at q.procs i))) q)
    go None e =
        let p = proc_at q.procs i in
        let lk = r_lacks (translate table p.process.0) f p b (I.each i lt) e in
        let ps = put_same q.procs i p long in
        record {
          inv = inv_same n table f q.mem q.procs i p lt I (I.each i lt) (same_refl p);
          sharing = subst (λ (z : Processor). SharedIn z b) (sym ps) (λ s w pr eb. absurd (lk s w pr eb));
          alone = λ a. (a, subst (λ (z : Processor). Lacks z b) (sym ps) lk);
          stays = put_other q.procs i p long;
          runs = runs_set q.procs i p long refl;
        }
    go (Some w) e = held (modified (entry_at (proc_at q.procs i) (b % r_sets) w)) refl (r_found (proc_at q.procs i) b w e)
      where
        held : (d : Bool) → modified (entry_at (proc_at q.procs i) (b % r_sets) w) ≡ d → Present (entry_at (proc_at q.procs i) (b % r_sets) w) × ((entry_at (proc_at q.procs i) (b % r_sets) w).block.0 ≡ b)
            → Read n table f b i q (noted_by (seen_held d (proc_at q.procs i) (entry_at (proc_at q.procs i) (b % r_sets) w)) b i (set q.procs i (shared_held d (b % r_sets) w (proc_at q.procs i) (entry_at (proc_at q.procs i) (b % r_sets) w))) q)
        held true d fd =
            let p = proc_at q.procs i in
            let O = I.each i lt in
            let T = translate table p.process.0 in
            let en = entry_at p (b % r_sets) w in
            let p' = shared_held true (b % r_sets) w p en in
            let m = but_clean T f p O (b % r_sets) w fd.0 en.child (supplied p en) in
            let cur : current p en ≡ f b = current_is T f p O (b % r_sets) w fd.0 ∙ ap f fd.1 in
            let ok = supply T f p O (b % r_sets) w fd.0 in
            record {
              inv = inv_sub n table f q.mem (put_block q.mem b (current p en)) q.procs i p' lt I (subst (λ (z : ℕ). ProcOk (translate table z) f p') (sym (clean_process p en.child)) ok)
                  (sub_but p p' (b % r_sets) w (supplied p en) m (λ z. shared_kept en (supplied p en) fd.0 refl refl))
                  (λ x c g. memo cur (λ nz. g (clean_but p p' (b % r_sets) w (supplied p en) m x (λ z. nz (sym z ∙ fd.1)) c)) (ℕ_discrete x b));
              sharing = subst (λ (z : Processor). SharedIn z b) (sym (put_same q.procs i p' long)) (λ s u pr eb. only_but p p' (b % r_sets) w (supplied p en) m T f O fd.0 (λ (r : REntry). r.state ≡ Shared) (λ z. refl) s u pr (eb ∙ sym fd.1));
              alone = λ a. absurd (clash (sym a));
              stays = put_other q.procs i p' long;
              runs = runs_set q.procs i p' long (clean_process p en.child);
            }
          where
            memo : {x : ℕ} {ws : List ℕ} → ws ≡ f b → ((x ≡ b → ⊥) → q.mem x ≡ f x) → Dec (x ≡ b) → put_block q.mem b ws x ≡ f x
            memo {x} {ws} cur g (yes z) = rw z (put_here q.mem b ws ∙ cur)
            memo {x} {ws} cur g (no nz) = put_else q.mem b ws x nz ∙ g nz
        held false d fd =
            let p = proc_at q.procs i in
            let O = I.each i lt in
            let T = translate table p.process.0 in
            let en = entry_at p (b % r_sets) w in
            let p' = shared_held false (b % r_sets) w p en in
            let m = but_present T f p O (b % r_sets) w (with_state en Shared) fd.0 in
            let ok = reshare T f p O (b % r_sets) w Shared fd.0 refl (λ z. absurd (clash (sym d ∙ z))) in
            record {
              inv = inv_sub n table f q.mem q.mem q.procs i p' lt I ok
                  (sub_but p p' (b % r_sets) w (with_state en Shared) m (λ z. shared_kept en (with_state en Shared) fd.0 refl refl))
                  (λ x c g. g (back x c m d));
              sharing = subst (λ (z : Processor). SharedIn z b) (sym (put_same q.procs i p' long)) (λ s u pr eb. only_but p p' (b % r_sets) w (with_state en Shared) m T f O fd.0 (λ (r : REntry). r.state ≡ Shared) (λ z. refl) s u pr (eb ∙ sym fd.1));
              alone = λ a. absurd (clash (sym a));
              stays = put_other q.procs i p' long;
              runs = runs_set q.procs i p' long refl;
            }
          where
            back : (x : ℕ) → Clean (shared_held false (b % r_sets) w (proc_at q.procs i) (entry_at (proc_at q.procs i) (b % r_sets) w)) x
                → But (entry_at (proc_at q.procs i)) (entry_at (shared_held false (b % r_sets) w (proc_at q.procs i) (entry_at (proc_at q.procs i) (b % r_sets) w))) (b % r_sets) w (with_state (entry_at (proc_at q.procs i) (b % r_sets) w) Shared)
                → modified (entry_at (proc_at q.procs i) (b % r_sets) w) ≡ false → Clean (proc_at q.procs i) x
            back x c m d s u pr eb = at (place_dec s u (b % r_sets) w)
              where
                at : Dec ((s ≡ b % r_sets) × (u ≡ w)) → modified (entry_at (proc_at q.procs i) s u) ≡ false
                at (yes z) = rw (z.0, z.1) d
                at (no nz) = let o = m.other s u nz in rw o at (c s u (rw o pr) (rw o eb))

pub record Snooped (n : ℕ) (table : ℕ → ℕ → Option ℕ) (f : Blocks) (b k sender : ℕ) (q r : Passed) : Type 0 where
  pub inv : Inv n table f r.mem r.procs
  pub sharing : (j : ℕ) → j < k → (j ≡ sender → ⊥) → SharedIn (proc_at r.procs j) b
  pub alone : r.acked ≡ false → (j : ℕ) → j < k → (j ≡ sender → ⊥) → Lacks (proc_at r.procs j) b
  pub stays : (j : ℕ) → (j < k → j ≡ sender) → proc_at r.procs j ≡ proc_at q.procs j
  pub runs : Runs q.procs r.procs

pub read_pass_lem : (n : ℕ) (table : ℕ → ℕ → Option ℕ) (f : Blocks) (b k sender : ℕ) (q : Passed) → k ≤ n → Inv n table f q.mem q.procs → Snooped n table f b k sender q (read_pass k sender b q)
read_pass_lem n table f b zero sender q le I = record { inv = I; sharing = λ j l. let z : ⊥ = omega arith in absurd z; alone = λ a j l. let z : ⊥ = omega arith in absurd z; stays = λ j h. refl; runs = λ j. refl }
read_pass_lem n table f b (suc k) sender q le I = go (read_pass_lem n table f b k sender q (omega arith) I) (ℕ_discrete k sender)
  where
    go : Snooped n table f b k sender q (read_pass k sender b q) → Dec (k ≡ sender) → Snooped n table f b (suc k) sender q (read_skip (eqb k sender) b k (read_pass k sender b q))
    go t (yes e) = rw (eq-eqb k sender e) (record {
      inv = t.inv;
      sharing = λ j l ne. t.sharing j (let z : j ≡ k → ⊥ = λ y. ne (y ∙ e) in omega arith) ne;
      alone = λ a j l ne. t.alone a j (let z : j ≡ k → ⊥ = λ y. ne (y ∙ e) in omega arith) ne;
      stays = λ j h. t.stays j (λ l. h (omega arith));
      runs = t.runs;
    })
    go t (no ne) =
        let s = read_step n table f b k (read_pass k sender b q) t.inv (omega arith) in
        rw (ne_eqb k sender ne) (record {
          inv = s.inv;
          sharing = λ j l nj. all (read_pass k sender b q).procs (read_skip false b k (read_pass k sender b q)).procs (λ (z : Processor). SharedIn z b) j l s.sharing (s.stays j) (λ x. t.sharing j x nj) (ℕ_discrete j k);
          alone = λ a j l nj. let x = s.alone a in all (read_pass k sender b q).procs (read_skip false b k (read_pass k sender b q)).procs (λ (z : Processor). Lacks z b) j l x.1 (s.stays j) (λ y. t.alone x.0 j y nj) (ℕ_discrete j k);
          stays = λ j h. let nk : j ≡ k → ⊥ = λ y. ne (sym y ∙ h (omega arith)) in s.stays j nk ∙ t.stays j (λ l. h (omega arith));
          runs = λ j. s.runs j ∙ t.runs j;
        })
      where
        all : (ps rs : List Processor) (P : Processor → Type 0) (j : ℕ) → j < suc k → P (proc_at rs k) → ((j ≡ k → ⊥) → proc_at rs j ≡ proc_at ps j) → (j < k → P (proc_at ps j)) → Dec (j ≡ k) → P (proc_at rs j)
        all ps rs P j l pk st ih (yes y) = subst (λ (z : ℕ). P (proc_at rs z)) (sym y) pk
        all ps rs P j l pk st ih (no ny) = subst P (sym (st ny)) (ih (omega arith))

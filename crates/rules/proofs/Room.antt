-- Step 6 at one processor: a V-way and an R-way are freed.
use Rattle.std.proofs.Common.{◌≡◌, ℕ, ◌<◌, Bool, true, false, ltb, get_or, Some, None, Option, sym, refl, ap, ◌∙◌, subst, arith}
use native.Mathlib.Decide.{ℕ_discrete}
use borrow.Author.Tests.{clash}
use Rattle.rules.specs.Sizes.{r_ways}
use Rattle.tables.specs.declared.types.LineState.{LineState}
use Rattle.tables.specs.declared.types.LineState.TheVariants.{Empty, Valid, Swapped}
use Rattle.tables.specs.declared.types.EntryState.{EntryState}
use Rattle.tables.specs.declared.types.EntryState.TheVariants.{Absent, Private, Shared}
use Rattle.tables.specs.declared.types.Child.{Child}
use Rattle.tables.specs.declared.types.Child.TheVariants.{NoChild, At}
use Rattle.tables.specs.declared.types.Place.{Place}
use Rattle.tables.specs.declared.types.REntry.{REntry}
use Rattle.tables.specs.declared.types.Processor.{Processor}
use Rattle.std.proofs.lemmas.Bool.{lt-ltb, ltb-true}
use Rattle.replacement.specs.Sizes.{ways}
use Rattle.rules.specs.Basic.{both, with_default, first_below, flags}
use Rattle.rules.specs.Rule.{Rule, Lawful}
use Rattle.rules.specs.Cache.{line_at, entry_at, put_entry, is_empty, is_absent, r_way, r_choice, childless, free_line, free_line_by, free_filled, free_child, evict, evict_by, no_line, no_entry, unlinked, with_counts, count_replaced}
use Rattle.rules.specs.Bus.{Blocks, put_block, modified}
use Rattle.rules.specs.Invariant.{Filled, Present}
use Rattle.rules.specs.Sound.{ProcOk, Clean}
use Rattle.rules.proofs.Cells.{But, place_dec, empty_filled, but_line, shaped_entry}
use Rattle.rules.proofs.Ops.{present_range, filled_range, rplace_present, child_line, free_line_lem, drop_entry}
use Rattle.rules.proofs.Whole.{Same, Sub, same_sub, same_refl}
use Rattle.rules.proofs.Steps.{but_present, go_same, sub_but, clean_but}
use Rattle.rules.proofs.Seek.{both_from, both_true, first_some}
use Rattle.rules.proofs.Sizes.{r_ways_pos, r_ways_few, choice_passes}
use Rattle.rules.proofs.Attach.{free_line_process}
use Rattle.rules.proofs.Passes.{put_here, put_else}

pub r_way_range : (ru : Rule) (p : Processor) (s : ℕ) → Lawful ru → r_way ru p s < r_ways
r_way_range ru p s law = go (first_below r_ways (λ w. is_absent (entry_at p s w).state)) refl
  where
    chosen : (o : Option ℕ) → first_below r_ways (λ w. childless (entry_at p s w)) ≡ o → r_choice ru (get_or p.rrule s 0) (flags ways (λ w. both (ltb w r_ways) (childless (entry_at p s w)))) o < r_ways
    chosen None e =
        let few = r_ways_few in
        let pos = r_ways_pos in
        ltb-true (ru.choice (get_or p.rrule s 0) (flags ways (λ w. ltb w r_ways))) r_ways
        (choice_passes ru law (get_or p.rrule s 0) (λ w. ltb w r_ways) 0 (omega arith) (lt-ltb 0 r_ways pos))
    chosen (Some k) e =
        let x = first_some r_ways (λ w. childless (entry_at p s w)) k e in
        let few = r_ways_few in
        let lt = x.0 in
        let g : ℕ → Bool = λ w. both (ltb w r_ways) (childless (entry_at p s w)) in
        let c = ru.choice (get_or p.rrule s 0) (flags ways g) in
        ltb-true c r_ways (both_true (ltb c r_ways) (childless (entry_at p s c)) (choice_passes ru law (get_or p.rrule s 0) g k (omega arith) (both_from (ltb k r_ways) (childless (entry_at p s k)) (lt-ltb k r_ways lt) x.1))).0

    go : (o : Option ℕ) → first_below r_ways (λ w. is_absent (entry_at p s w).state) ≡ o
        → with_default o (r_choice ru (get_or p.rrule s 0) (flags ways (λ w. both (ltb w r_ways) (childless (entry_at p s w)))) (first_below r_ways (λ w. childless (entry_at p s w)))) < r_ways
    go None e = chosen (first_below r_ways (λ w. childless (entry_at p s w))) refl
    go (Some w) e = (first_some r_ways (λ w. is_absent (entry_at p s w).state) w e).0

module _ (T : ℕ → Option ℕ) (f : Blocks) (p : Processor) (O : ProcOk T f p) where
  -- an empty line stays empty where another is let go
  pub free_line_still : (s u a b : ℕ) → is_empty (line_at p a b).state ≡ true → is_empty (line_at (free_line p s u) a b).state ≡ true
  free_line_still s u a b em = go (line_at p s u).state refl
    where
      full : Filled (line_at p s u) → is_empty (line_at (free_filled p s u (line_at p s u)) a b).state ≡ true
      full fl = at (place_dec a b s u)
        where
          at : Dec ((a ≡ s) × (b ≡ u)) → is_empty (line_at (free_filled p s u (line_at p s u)) a b).state ≡ true
          at (yes z) = absurd (empty_filled (is_empty (line_at p s u).state) (rw (z.0, z.1) at em) fl)
          at (no nz) =
              let l = line_at p s u in
              let h = l.rplace.set in
              let k = l.rplace.way in
              let y = unlinked (entry_at p h k) l in
              let r = present_range T f p O h k (rplace_present T f p O s u fl) in
              let v = filled_range T f p O s u fl in
              rw ((but_line (put_entry p h k y) s u no_line (shaped_entry p h k y O.shaped r.0) v.0 v.1).other a b nz) em

      go : (c : LineState) → (line_at p s u).state ≡ c → is_empty (line_at (free_line_by c p s u (line_at p s u)) a b).state ≡ true
      go Empty e = em
      go Valid e = full (rw e)
      go Swapped e = full (rw e)

  -- an entry whose child is let go has none
  pub free_line_nil : (h k : ℕ) (q : Place) (d : Bool) → (entry_at p h k).child ≡ At q d → (entry_at (free_line p q.set q.way) h k).child ≡ NoChild
  free_line_nil h k q d e = go (line_at p q.set q.way).state refl
    where
      full : Filled (line_at p q.set q.way) → (entry_at (free_filled p q.set q.way (line_at p q.set q.way)) h k).child ≡ NoChild
      full fl =
          let l = line_at p q.set q.way in
          let nl = child_line T f p O h k q d e in
          let a = l.rplace.set in
          let b = l.rplace.way in
          let m = but_present T f p O a b (unlinked (entry_at p a b) l) (rplace_present T f p O q.set q.way fl) in
          let hs : a ≡ h = ap (λ (z : Place). z.set) nl.rplace in
          let hw : b ≡ k = ap (λ (z : Place). z.way) nl.rplace in
          subst (λ (z : ℕ). (entry_at (free_filled p q.set q.way l) z k).child ≡ NoChild) hs (subst (λ (z : ℕ). (entry_at (free_filled p q.set q.way l) a z).child ≡ NoChild) hw (ap (λ (z : REntry). z.child) m.same))

      go : (c : LineState) → (line_at p q.set q.way).state ≡ c → (entry_at (free_line_by c p q.set q.way (line_at p q.set q.way)) h k).child ≡ NoChild
      go Empty x = absurd (empty_filled (is_empty (line_at p q.set q.way).state) (rw x) (child_line T f p O h k q d e).full)
      go Valid x = full (rw x)
      go Swapped x = full (rw x)

pub record Freed (T : ℕ → Option ℕ) (f : Blocks) (p p' : Processor) (h k : ℕ) : Type 0 where
  pub ok : ProcOk T f p'
  pub same : Same p p'
  pub nil : (entry_at p' h k).child ≡ NoChild
  pub still : (a b : ℕ) → is_empty (line_at p a b).state ≡ true → is_empty (line_at p' a b).state ≡ true
  pub process : p'.process.0 ≡ p.process.0

-- an entry's child, if any, goes
pub free_child_lem : (T : ℕ → Option ℕ) (f : Blocks) (p : Processor) (h k : ℕ) → ProcOk T f p → Freed T f p (free_child p (entry_at p h k).child) h k
free_child_lem T f p h k O = go (entry_at p h k).child refl
  where
    go : (c : Child) → (entry_at p h k).child ≡ c → Freed T f p (free_child p c) h k
    go NoChild e = record { ok = O; same = same_refl p; nil = e; still = λ a b z. z; process = refl }
    go (At q d) e = record { ok = free_line_lem T f p O q.set q.way; same = go_same T f p O q.set q.way; nil = free_line_nil T f p O h k q d e; still = free_line_still T f p O q.set q.way; process = free_line_process T f p O q.set q.way }

-- an entry without child is replaced
pub record Evicted (T : ℕ → Option ℕ) (f : Blocks) (p p' : Processor) (h k : ℕ) : Type 0 where
  pub ok : ProcOk T f p'
  pub sub : Sub p p'
  pub gone : is_absent (entry_at p' h k).state ≡ true
  pub lines : p'.v ≡ p.v
  pub process : p'.process.0 ≡ p.process.0
  pub memory : (mem mem' : Blocks) → ((entry_at p h k).rdirty ≡ false → (x : ℕ) → mem' x ≡ mem x) → ((entry_at p h k).rdirty ≡ true → (x : ℕ) → mem' x ≡ put_block mem (entry_at p h k).block.0 (entry_at p h k).words x)
      → (x : ℕ) → Clean p' x → (Clean p x → mem x ≡ f x) → mem' x ≡ f x

pub evict_ok : (T : ℕ → Option ℕ) (f : Blocks) (p : Processor) (h k : ℕ) → ProcOk T f p → (entry_at p h k).child ≡ NoChild → Evicted T f p (evict p h k) h k
evict_ok T f p h k O nil = go (entry_at p h k).state refl
  where
    present : Present (entry_at p h k) → Evicted T f p (with_counts (put_entry p h k no_entry) (count_replaced p.counts)) h k
    present pr = record {
      ok = drop_entry T f p O h k (count_replaced p.counts) (refl, omega arith) pr nil;
      sub = sub_but p (put_entry p h k no_entry) h k no_entry m (λ z. absurd (clash (sym z)));
      gone = rw m.same;
      lines = refl;
      process = refl;
      memory = λ mem mem' same put x c g. memo mem mem' same put x c g (entry_at p h k).rdirty refl (ℕ_discrete x (entry_at p h k).block.0);
    }
      where
        m : But (entry_at p) (entry_at (put_entry p h k no_entry)) h k no_entry
        m = but_present T f p O h k no_entry pr

        memo : (mem mem' : Blocks) → ((entry_at p h k).rdirty ≡ false → (x : ℕ) → mem' x ≡ mem x) → ((entry_at p h k).rdirty ≡ true → (x : ℕ) → mem' x ≡ put_block mem (entry_at p h k).block.0 (entry_at p h k).words x)
            → (x : ℕ) → Clean (put_entry p h k no_entry) x → (Clean p x → mem x ≡ f x) → (d : Bool) → (entry_at p h k).rdirty ≡ d → Dec (x ≡ (entry_at p h k).block.0) → mem' x ≡ f x
        memo mem mem' same put x c g true e (yes z) = put e x ∙ ap (put_block mem (entry_at p h k).block.0 (entry_at p h k).words) z ∙ put_here mem (entry_at p h k).block.0 (entry_at p h k).words ∙ (O.sound.ents h k pr).words (rw nil) ∙ ap f (sym z)
        memo mem mem' same put x c g true e (no nz) = put e x ∙ put_else mem (entry_at p h k).block.0 (entry_at p h k).words x nz ∙ g (clean_but p (put_entry p h k no_entry) h k no_entry m x (λ z. nz (sym z)) c)
        memo mem mem' same put x c g false e z = same e x ∙ g (λ s w q eb. at s w q eb (place_dec s w h k))
          where
            at : (s w : ℕ) → Present (entry_at p s w) → (entry_at p s w).block.0 ≡ x → Dec ((s ≡ h) × (w ≡ k)) → modified (entry_at p s w) ≡ false
            at s w q eb (yes i) = rw (i.0, i.1, e, nil)
            at s w q eb (no ni) = let o = m.other s w ni in rw o at (c s w (rw o q) (rw o eb))

    go : (s : EntryState) → (entry_at p h k).state ≡ s → Evicted T f p (evict_by s p h k) h k
    go Absent e = record { ok = O; sub = same_sub p p (same_refl p); gone = rw e; lines = refl; process = refl; memory = λ mem mem' same put x c g. same (O.sound.void h k (rw e)) x ∙ g c }
    go Private e = present (rw e)
    go Shared e = present (rw e)

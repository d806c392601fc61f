-- What one processor's changes mean to the others: which entries stay, and which are clean.
use Rattle.std.proofs.Common.{◌≡◌, ℕ, Bool, true, false, ◌||◌, Option, refl}
use Rattle.tables.specs.declared.types.LineState.{LineState}
use Rattle.tables.specs.declared.types.LineState.TheVariants.{Empty, Valid, Swapped}
use Rattle.tables.specs.declared.types.Child.TheVariants.{NoChild, At}
use Rattle.tables.specs.declared.types.REntry.{REntry}
use Rattle.tables.specs.declared.types.Processor.{Processor}
use Rattle.rules.specs.Cache.{line_at, entry_at, put_entry, vdirty_of, unlinked, free_line, free_line_by, free_filled, with_child, moved, filled}
use Rattle.rules.specs.Bus.{Blocks, modified}
use Rattle.rules.specs.Invariant.{Filled, Present, placed}
use Rattle.rules.specs.Sound.{ProcOk, Clean}
use Rattle.rules.proofs.Cells.{But, place_dec, but_entry}
use Rattle.rules.proofs.Ops.{present_range, rplace_present, unique, swap_or}
use Rattle.rules.proofs.Whole.{Kept, Sub, Alike, Same, same_refl}

module _ (p p' : Processor) (h k : ℕ) (y : REntry) (m : But (entry_at p) (entry_at p') h k y) where
  pub same_but : Alike (entry_at p h k) y → Same p p'
  same_but a s w = go (place_dec s w h k)
    where
      go : Dec ((s ≡ h) × (w ≡ k)) → Alike (entry_at p s w) (entry_at p' s w)
      go (yes e) = rw (e.0, e.1, m.same) a
      go (no n) = rw (m.other s w n) (same_refl p s w)

  pub sub_but : (Present y → Kept (entry_at p h k) y) → Sub p p'
  sub_but a s w pr = go (place_dec s w h k)
    where
      go : Dec ((s ≡ h) × (w ≡ k)) → Kept (entry_at p s w) (entry_at p' s w)
      go (yes e) = rw (e.0, e.1, m.same) (a (rw (e.0, e.1, m.same) at pr))
      go (no n) = rw (m.other s w n) (record { here = rw (m.other s w n) at pr; block = refl; priv = λ z. z })

  -- a block that isn't this entry's is as clean as it was
  pub clean_but : (x : ℕ) → ((entry_at p h k).block.0 ≡ x → ⊥) → Clean p' x → Clean p x
  clean_but x nx c s w pr e = go (place_dec s w h k)
    where
      go : Dec ((s ≡ h) × (w ≡ k)) → modified (entry_at p s w) ≡ false
      go (yes q) = absurd (nx (rw (q.0, q.1) at e))
      go (no n) = let o = m.other s w n in rw o at (c s w (rw o pr) (rw o e))

  -- a block of which this was the one entry
  pub only_but : (T : ℕ → Option ℕ) (f : Blocks) → ProcOk T f p → Present (entry_at p h k) → (P : REntry → Type 0) → (Present y → P y)
      → (s w : ℕ) → Present (entry_at p' s w) → (entry_at p' s w).block.0 ≡ (entry_at p h k).block.0 → P (entry_at p' s w)
  only_but T f O pr P py s w q e = go (place_dec s w h k)
    where
      go : Dec ((s ≡ h) × (w ≡ k)) → P (entry_at p' s w)
      go (yes i) = rw (i.0, i.1, m.same) (py (rw (i.0, i.1, m.same) at q))
      go (no n) = let o = m.other s w n in absurd (n (unique T f p O s w h k (rw o at q) pr (rw o at e)))

module _ (T : ℕ → Option ℕ) (f : Blocks) (p : Processor) (O : ProcOk T f p) where
  pub but_present : (h k : ℕ) (y : REntry) → Present (entry_at p h k) → But (entry_at p) (entry_at (put_entry p h k y)) h k y
  but_present h k y pr = let r = present_range T f p O h k pr in but_entry p h k y O.shaped r.0 r.1

  filled_same : (s w : ℕ) → Filled (line_at p s w) → Same p (free_filled p s w (line_at p s w))
  filled_same s w fl =
      let l = line_at p s w in
      let h = l.rplace.set in
      let k = l.rplace.way in
      same_but p (free_filled p s w l) h k (unlinked (entry_at p h k) l) (but_present h k (unlinked (entry_at p h k) l) (rplace_present T f p O s w fl))
      (record { state = refl; block = refl; dirt = rw (O.sound.lines s w fl).up (swap_or l.dirty (entry_at p h k).rdirty) })

  pub go_same : (s w : ℕ) → Same p (free_line p s w)
  go_same s w = go (line_at p s w).state refl
    where
      go : (c : LineState) → (line_at p s w).state ≡ c → Same p (free_line_by c p s w (line_at p s w))
      go Empty e = same_refl p
      go Valid e = filled_same s w (rw e)
      go Swapped e = filled_same s w (rw e)

  pub fill_same : (t u h k g : ℕ) → Present (entry_at p h k) → (entry_at p h k).child ≡ NoChild → Same p (filled p t u h k g)
  fill_same t u h k g pr nil = same_but p (filled p t u h k g) h k (with_child (entry_at p h k) (At (placed t u) false)) (but_present h k (with_child (entry_at p h k) (At (placed t u) false)) pr)
      (record { state = refl; block = refl; dirt = rw nil })

  pub move_same : (s w t u h k g : ℕ) → Present (entry_at p h k) → Same p (moved p s w t u h k g)
  move_same s w t u h k g pr =
      let y = with_child (entry_at p h k) (At (placed t u) (vdirty_of (entry_at p h k).child)) in
      same_but p (moved p s w t u h k g) h k y (but_present h k y pr) (record { state = refl; block = refl; dirt = refl })

-- What the rules do to one processor keeps it sound.
use Rattle.std.proofs.Common.{◌≡◌, ℕ, ◌+◌, ◌%◌, ◌<◌, Bool, true, false, ◌||◌, length, set, Some, Option, sym, refl, ap, ◌∙◌, subst, arith}
use native.Mathlib.Decide.{dec_lt}
use borrow.Author.Tests.{clash}
use Rattle.rules.specs.Sizes.{v_sets, v_ways, r_sets, r_ways, page_blocks}
use Rattle.tables.specs.declared.types.LineState.{LineState}
use Rattle.tables.specs.declared.types.LineState.TheVariants.{Empty, Valid, Swapped}
use Rattle.tables.specs.declared.types.EntryState.{EntryState}
use Rattle.tables.specs.declared.types.EntryState.TheVariants.{Private, Shared}
use Rattle.tables.specs.declared.types.Child.{Child}
use Rattle.tables.specs.declared.types.Child.TheVariants.{NoChild, At}
use Rattle.tables.specs.declared.types.Place.{Place}
use Rattle.tables.specs.declared.types.VLine.{VLine}
use Rattle.tables.specs.declared.types.REntry.{REntry}
use Rattle.tables.specs.declared.types.Counts.{Counts}
use Rattle.tables.specs.declared.types.Processor.{Processor}
use Rattle.rules.specs.Basic.{pick}
use Rattle.rules.specs.Cache.{line_at, entry_at, put_line, put_entry, is_empty, is_absent, vdirty_of, unlinked, no_line, no_entry, past_line, past_entry, free_line, free_line_by, free_filled, with_counts, with_state, with_child, retagged, moved, filled, stored, marked_dirty}
use Rattle.rules.specs.Bus.{Blocks, modified, current, child_words, supplied, clean_at, empty_at, clean_line, clean_child}
use Rattle.rules.specs.Invariant.{Filled, Present, placed, resident, one}
use Rattle.rules.specs.Sound.{LineOk, EntryOk, Sound, ProcOk}
use Rattle.rules.proofs.Cells.{empty_filled, but_line, but_entry, shaped_line, shaped_entry, cell_past, resident_put}
use Rattle.rules.proofs.Change.{NewLine}
use Rattle.rules.proofs.Changes.{change_nil, change_cut, change_keep, change_tie, change_move}

pub swap_or : (a b : Bool) → ((a || b) || false) ≡ (b || a)
swap_or true true = refl
swap_or true false = refl
swap_or false true = refl
swap_or false false = refl

module _ (T : ℕ → Option ℕ) (f : Blocks) (p : Processor) (O : ProcOk T f p) where
  -- what is present or filled stands in the table
  pub present_range : (s w : ℕ) → Present (entry_at p s w) → (s < r_sets) × (w < r_ways)
  present_range s w pr = go (dec_lt s r_sets) (dec_lt w r_ways)
    where
      out : ((s < length p.r) × (w < r_ways) → ⊥) → ⊥
      out o = let e = cell_past r_ways p.r s w past_entry O.shaped.r_rows o in empty_filled (is_absent (entry_at p s w).state) (rw e) pr

      go : Dec (s < r_sets) → Dec (w < r_ways) → (s < r_sets) × (w < r_ways)
      go (yes i) (yes j) = (i, j)
      go (yes i) (no j) = absurd (out (λ h. j h.1))
      go (no i) k = absurd (out (λ h. i (rw O.shaped.r_sets at h.0)))

  pub filled_range : (s w : ℕ) → Filled (line_at p s w) → (s < v_sets) × (w < v_ways)
  filled_range s w fl = go (dec_lt s v_sets) (dec_lt w v_ways)
    where
      out : ((s < length p.v) × (w < v_ways) → ⊥) → ⊥
      out o = let e = cell_past v_ways p.v s w past_line O.shaped.v_rows o in empty_filled (is_empty (line_at p s w).state) (rw e) fl

      go : Dec (s < v_sets) → Dec (w < v_ways) → (s < v_sets) × (w < v_ways)
      go (yes i) (yes j) = (i, j)
      go (yes i) (no j) = absurd (out (λ h. j h.1))
      go (no i) k = absurd (out (λ h. i (rw O.shaped.v_sets at h.0)))

  pub rplace_of : ℕ → ℕ → REntry
  rplace_of s w = entry_at p (line_at p s w).rplace.set (line_at p s w).rplace.way

  pub rplace_present : (s w : ℕ) → Filled (line_at p s w) → Present (entry_at p (line_at p s w).rplace.set (line_at p s w).rplace.way)
  rplace_present s w fl = (O.sound.children (line_at p s w).rplace.set (line_at p s w).rplace.way (placed s w) (line_at p s w).dirty (O.sound.lines s w fl).up).here

  -- a child's line, seen from the entry
  pub child_line : (h k : ℕ) (q : Place) (d : Bool) → (entry_at p h k).child ≡ At q d → NewLine T f h k q.set q.way (line_at p q.set q.way) (entry_at p h k)
  child_line h k q d e =
      let o = O.sound.children h k q d e in
      record { full = o.full; rplace = o.rplace; ok = subst (λ (z : Place). LineOk T f q.set q.way (line_at p q.set q.way) (entry_at p z.set z.way)) o.rplace (O.sound.lines q.set q.way o.full) }

  pub child_is_dirty : (h k : ℕ) (q : Place) (d : Bool) → (entry_at p h k).child ≡ At q d → (line_at p q.set q.way).dirty ≡ d
  child_is_dirty h k q d e = let u = (child_line h k q d e).ok.up in let v : At (placed q.set q.way) (line_at p q.set q.way).dirty ≡ At q d = sym u ∙ e in ap vdirty_of v

  -- a block stands at one place
  pub unique : (a b h k : ℕ) → Present (entry_at p a b) → Present (entry_at p h k) → (entry_at p a b).block.0 ≡ (entry_at p h k).block.0 → (a ≡ h) × (b ≡ k)
  unique a b h k pr qr e =
      let i = sym (O.sound.ents a b pr).in_set ∙ ap (λ z. z % r_sets) e ∙ (O.sound.ents h k qr).in_set in
      (i, O.sound.once h b k (rw i at pr) qr (rw i at e))

  pub current_is : (h k : ℕ) → Present (entry_at p h k) → current p (entry_at p h k) ≡ f (entry_at p h k).block.0
  current_is h k pr = go (entry_at p h k).child refl
    where
      go : (c : Child) → (entry_at p h k).child ≡ c → child_words p c (entry_at p h k).words ≡ f (entry_at p h k).block.0
      go NoChild e = (O.sound.ents h k pr).words (rw e)
      go (At q true) e = (child_line h k q true e).ok.words
      go (At q false) e = (O.sound.ents h k pr).words (rw e)

  single_same : (h k : ℕ) (y : REntry) → y.block.0 ≡ (entry_at p h k).block.0 → (Present y → Present (entry_at p h k)) → (c : ℕ) → Present y → Present (entry_at p h c) → y.block.0 ≡ (entry_at p h c).block.0 → c ≡ k
  single_same h k y eb ep c pr qr e = O.sound.once h c k qr (ep pr) (sym e ∙ eb)

  -- the tally, where an entry is put that is there as the old one was, or goes
  tally_same : (h k : ℕ) (y : REntry) → h < r_sets → k < r_ways → is_absent y.state ≡ is_absent (entry_at p h k).state → p.counts.fetched ≡ resident (put_entry p h k y).r + p.counts.replaced + p.counts.invalidated
  tally_same h k y lh lk e =
      let n = resident_put p h k y O.shaped lh lk in
      let m : one (is_absent y.state) ≡ one (is_absent (entry_at p h k).state) = ap one e in
      omega (arith, O.tally)

  abbrev Lost : Counts → Type 0
  Lost c = (c.fetched ≡ p.counts.fetched) × (c.replaced + c.invalidated ≡ p.counts.replaced + p.counts.invalidated + 1)

  tally_lost : (h k : ℕ) (c : Counts) → h < r_sets → k < r_ways → Lost c → Present (entry_at p h k) → c.fetched ≡ resident (put_entry p h k no_entry).r + c.replaced + c.invalidated
  tally_lost h k c lh lk l pr =
      let n = resident_put p h k no_entry O.shaped lh lk in
      let m : one (is_absent (entry_at p h k).state) ≡ 1 = ap one pr in
      omega (arith, O.tally)

  -- a filled line is let go
  pub let_filled : (s w : ℕ) → Filled (line_at p s w) → ProcOk T f (free_filled p s w (line_at p s w))
  let_filled s w fl =
      let l = line_at p s w in
      let h = l.rplace.set in
      let k = l.rplace.way in
      let e = entry_at p h k in
      let lo = O.sound.lines s w fl in
      let pr = rplace_present s w fl in
      let r = present_range h k pr in
      let v = filled_range s w fl in
      let y = unlinked e l in
      let sh = shaped_entry p h k y O.shaped r.0 in
      record {
        shaped = shaped_line (put_entry p h k y) s w no_line sh v.0;
        sound = change_cut r_sets T f f (line_at p) (line_at (free_filled p s w l)) (entry_at p) (entry_at (free_filled p s w l)) h k y O.sound (λ z. absurd (empty_filled (is_absent e.state) z pr))
            (but_entry p h k y O.shaped r.0 r.1) (λ q. ok l e (O.sound.ents h k pr) lo)
            (single_same h k y refl (λ q. pr)) (λ a b i j. refl)
            (placed s w) l.dirty no_line lo.up refl (but_line (put_entry p h k y) s w no_line sh v.0 v.1) refl;
        tally = tally_same h k y r.0 r.1 refl;
      }
    where
      words : (d : Bool) (l : VLine) (e : REntry) → EntryOk r_sets f (line_at p s w).rplace.set e → LineOk T f s w l e → l.dirty ≡ d → pick d l.words e.words ≡ f e.block.0
      words true l e eo lo x = lo.words
      words false l e eo lo x = eo.words (ap vdirty_of lo.up ∙ x)

      ok : (l : VLine) (e : REntry) → EntryOk r_sets f (line_at p s w).rplace.set e → LineOk T f s w l e → EntryOk r_sets f (line_at p s w).rplace.set (unlinked e l)
      ok l e eo lo =
          let same : modified (unlinked e l) ≡ modified e = rw lo.up (swap_or l.dirty e.rdirty) in
          record { in_set = eo.in_set; words = λ x. words l.dirty l e eo lo refl; own = λ x. eo.own (sym same ∙ x) }

  pub free_line_lem : (s w : ℕ) → ProcOk T f (free_line p s w)
  free_line_lem s w = go (line_at p s w).state refl
    where
      go : (c : LineState) → (line_at p s w).state ≡ c → ProcOk T f (free_line_by c p s w (line_at p s w))
      go Empty e = O
      go Valid e = let_filled s w (rw e)
      go Swapped e = let_filled s w (rw e)

  none : Present no_entry → ⊥
  none pr = clash (sym pr)

  -- an entry without child goes away
  pub drop_entry : (h k : ℕ) (c : Counts) → Lost c → Present (entry_at p h k) → (entry_at p h k).child ≡ NoChild → ProcOk T f (with_counts (put_entry p h k no_entry) c)
  drop_entry h k c lost pr e =
      let r = present_range h k pr in
      record {
        shaped = record { v_rows = O.shaped.v_rows; r_rows = (shaped_entry p h k no_entry O.shaped r.0).r_rows; v_sets = O.shaped.v_sets; r_sets = (shaped_entry p h k no_entry O.shaped r.0).r_sets };
        sound = change_nil r_sets T f f (line_at p) (line_at p) (entry_at p) (entry_at (put_entry p h k no_entry)) h k no_entry O.sound (λ z. refl) (but_entry p h k no_entry O.shaped r.0 r.1)
            (λ q. absurd (none q)) (λ u q. absurd (none q)) (λ a b i j. refl) e refl (λ a b. refl);
        tally = tally_lost h k c r.0 r.1 lost pr;
      }

  -- with its child
  pub drop_both : (h k : ℕ) (c : Counts) → Lost c → (q : Place) (d : Bool) → Present (entry_at p h k) → (entry_at p h k).child ≡ At q d
      → ProcOk T f (with_counts (put_entry (put_line p q.set q.way no_line) h k no_entry) c)
  drop_both h k c lost q d pr e =
      let r = present_range h k pr in
      let v = filled_range q.set q.way (child_line h k q d e).full in
      let sv = shaped_line p q.set q.way no_line O.shaped v.0 in
      let se = shaped_entry (put_line p q.set q.way no_line) h k no_entry sv r.0 in
      record {
        shaped = record { v_rows = se.v_rows; r_rows = se.r_rows; v_sets = se.v_sets; r_sets = se.r_sets };
        sound = change_cut r_sets T f f (line_at p) (line_at (put_line p q.set q.way no_line)) (entry_at p) (entry_at (put_entry p h k no_entry)) h k no_entry O.sound (λ z. refl) (but_entry p h k no_entry O.shaped r.0 r.1)
            (λ z. absurd (none z)) (λ u z. absurd (none z)) (λ a b i j. refl) q d no_line e refl (but_line p q.set q.way no_line O.shaped v.0 v.1) refl;
        tally = tally_lost h k c r.0 r.1 lost pr;
      }

  -- an absent entry has no child
  pub absent_nil : (h k : ℕ) → is_absent (entry_at p h k).state ≡ true → (entry_at p h k).child ≡ NoChild
  absent_nil h k ab = go (entry_at p h k).child refl
    where
      go : (c : Child) → (entry_at p h k).child ≡ c → (entry_at p h k).child ≡ NoChild
      go NoChild e = e
      go (At q d) e = absurd (empty_filled (is_absent (entry_at p h k).state) ab (O.sound.children h k q d e).here)

  -- a fetched block
  pub fetch : (h k : ℕ) (c : Counts) (y : REntry) → (c.fetched ≡ p.counts.fetched + 1) × (c.replaced ≡ p.counts.replaced) × (c.invalidated ≡ p.counts.invalidated) → Present y → h < r_sets → k < r_ways → is_absent (entry_at p h k).state ≡ true → y.child ≡ NoChild → y.rdirty ≡ false → y.block.0 % r_sets ≡ h → y.words ≡ f y.block.0
      → ((u : ℕ) → Present (entry_at p h u) → y.block.0 ≡ (entry_at p h u).block.0 → ⊥) → ProcOk T f (with_counts (put_entry p h k y) c)
  fetch h k c y gain yp lh lk ab nil clean at words new =
      let se = shaped_entry p h k y O.shaped lh in
      record {
        shaped = record { v_rows = se.v_rows; r_rows = se.r_rows; v_sets = se.v_sets; r_sets = se.r_sets };
        sound = change_nil r_sets T f f (line_at p) (line_at p) (entry_at p) (entry_at (put_entry p h k y)) h k y O.sound (λ z. clean) (but_entry p h k y O.shaped lh lk)
            (λ q. record { in_set = at; words = λ x. words; own = λ x. absurd (clash (sym unmodified ∙ x)) }) (λ u q pr e. absurd (new u pr e)) (λ a b i j. refl) (absent_nil h k ab) nil (λ a b. refl);
        tally = got (resident_put p h k y O.shaped lh lk) (ap one yp) (ap one ab);
      }
    where
      got : resident (put_entry p h k y).r + one (is_absent (entry_at p h k).state) ≡ resident p.r + one (is_absent y.state) → one (is_absent y.state) ≡ 1 → one (is_absent (entry_at p h k).state) ≡ 0
          → c.fetched ≡ resident (put_entry p h k y).r + c.replaced + c.invalidated
      got n a b = omega (arith, O.tally)

      unmodified : modified y ≡ false
      unmodified = rw (clean, nil)

  -- a line is filled from its entry
  pub fill : (t u h k g : ℕ) → t < v_sets → u < v_ways → is_empty (line_at p t u).state ≡ true → Present (entry_at p h k) → (entry_at p h k).child ≡ NoChild → T g ≡ Some (entry_at p h k).block.0 → t % page_blocks ≡ h % page_blocks
      → ProcOk T f (filled p t u h k g)
  fill t u h k g lt lu em pr nil tr fits =
      let e = entry_at p h k in
      let r = present_range h k pr in
      let x : VLine = record { state = Valid; tag = record { 0 = g }; words = e.words; dirty = false; rplace = placed h k } in
      let y = with_child e (At (placed t u) false) in
      let eo = O.sound.ents h k pr in
      let w = eo.words (rw nil) in
      let sv = shaped_line p t u x O.shaped lt in
      record {
        shaped = shaped_entry (put_line p t u x) h k y sv r.0;
        sound = change_tie r_sets T f f (line_at p) (line_at (put_line p t u x)) (entry_at p) (entry_at (put_entry p h k y)) h k y O.sound (λ z. absurd (empty_filled (is_absent (entry_at p h k).state) z pr)) (but_entry p h k y O.shaped r.0 r.1)
            (λ q. record { in_set = eo.in_set; words = λ z. w; own = λ z. eo.own (was e nil z) })
            (single_same h k y refl (λ z. pr)) (λ a b i j. refl) (placed t u) false x nil refl (but_line p t u x O.shaped lt lu) em pr
            (record { full = refl; rplace = refl; ok = record { up = refl; words = w; maps = λ z. tr; fits = fits } });
        tally = tally_same h k y r.0 r.1 refl;
      }
    where
      was : (e : REntry) → e.child ≡ NoChild → (e.rdirty || false) ≡ true → modified e ≡ true
      was e nil z = rw nil z

  -- a line is valid under a new tag
  pub retag : (h k g : ℕ) (q : Place) (d : Bool) → (entry_at p h k).child ≡ At q d → T g ≡ Some (entry_at p h k).block.0 → ProcOk T f (put_line p q.set q.way (retagged (line_at p q.set q.way) g))
  retag h k g q d e tr =
      let l = line_at p q.set q.way in
      let nl = child_line h k q d e in
      let pr = (O.sound.children h k q d e).here in
      let v = filled_range q.set q.way nl.full in
      record {
        shaped = shaped_line p q.set q.way (retagged l g) O.shaped v.0;
        sound = change_keep r_sets T f f (line_at p) (line_at (put_line p q.set q.way (retagged l g))) (entry_at p) (entry_at p) h k (entry_at p h k) O.sound (O.sound.void h k)
            (record { same = refl; other = λ a b i. refl }) (O.sound.ents h k) (single_same h k (entry_at p h k) refl (λ z. z)) (λ a b i j. refl)
            q d d (retagged l g) e e (but_line p q.set q.way (retagged l g) O.shaped v.0 v.1) pr
            (record { full = refl; rplace = nl.rplace; ok = record { up = nl.ok.up; words = nl.ok.words; maps = λ z. tr; fits = nl.ok.fits } });
        tally = O.tally;
      }

  -- a line moves
  pub move : (h k g : ℕ) (q : Place) (d : Bool) (t u : ℕ) → (entry_at p h k).child ≡ At q d → t < v_sets → u < v_ways → is_empty (line_at p t u).state ≡ true → T g ≡ Some (entry_at p h k).block.0 → t % page_blocks ≡ h % page_blocks
      → ProcOk T f (moved p q.set q.way t u h k g)
  move h k g q d t u e lt lu em tr fits =
      let l = line_at p q.set q.way in
      let en = entry_at p h k in
      let nl = child_line h k q d e in
      let pr = (O.sound.children h k q d e).here in
      let v = filled_range q.set q.way nl.full in
      let r = present_range h k pr in
      let eo = O.sound.ents h k pr in
      let y = with_child en (At (placed t u) (vdirty_of en.child)) in
      let dd : vdirty_of en.child ≡ l.dirty = ap vdirty_of nl.ok.up in
      let s₁ = shaped_line p q.set q.way no_line O.shaped v.0 in
      let p₁ = put_line p q.set q.way no_line in
      let s₂ = shaped_line p₁ t u (retagged l g) s₁ lt in
      record {
        shaped = shaped_entry (put_line p₁ t u (retagged l g)) h k y s₂ r.0;
        sound = change_move r_sets T f f (line_at p) (line_at (put_line p₁ t u (retagged l g))) (entry_at p) (entry_at (put_entry p h k y)) h k y O.sound (λ z. absurd (empty_filled (is_absent (entry_at p h k).state) z pr)) (but_entry p h k y O.shaped r.0 r.1)
            (λ z. record { in_set = eo.in_set; words = eo.words; own = eo.own }) (single_same h k y refl (λ z. pr)) (λ a b i j. refl)
            q (placed t u) d (vdirty_of en.child) (retagged l g) (line_at p₁) no_line e refl (but_line p q.set q.way no_line O.shaped v.0 v.1) refl
            (but_line p₁ t u (retagged l g) s₁ lt lu) (λ s. empty_filled (is_empty l.state) (rw (s.0, s.1) em) nl.full) em pr
            (record { full = refl; rplace = nl.rplace; ok = record { up = ap {B = Child} (λ b. At (placed t u) b) dd; words = nl.ok.words; maps = λ z. tr; fits = fits ∙ ap (λ (z : Place). z.set % page_blocks) (sym nl.rplace) } });
        tally = tally_same h k y r.0 r.1 refl;
      }

  -- an entry's share alone changes
  pub reshare : (h k : ℕ) (z : EntryState) → Present (entry_at p h k) → is_absent z ≡ false → (modified (entry_at p h k) ≡ true → z ≡ Private) → ProcOk T f (put_entry p h k (with_state (entry_at p h k) z))
  reshare h k z pr zp zo =
      let e = entry_at p h k in
      let r = present_range h k pr in
      record { shaped = shaped_entry p h k (with_state e z) O.shaped r.0; sound = go e.child refl r.0 r.1; tally = tally_same h k (with_state e z) r.0 r.1 (zp ∙ sym pr) }
    where
      ok : EntryOk r_sets f h (entry_at p h k) → EntryOk r_sets f h (with_state (entry_at p h k) z)
      ok eo = record { in_set = eo.in_set; words = eo.words; own = zo }

      go : (c : Child) → (entry_at p h k).child ≡ c → h < r_sets → k < r_ways → Sound r_sets T f (line_at p) (entry_at (put_entry p h k (with_state (entry_at p h k) z)))
      go NoChild e lh lk = change_nil r_sets T f f (line_at p) (line_at p) (entry_at p) (entry_at (put_entry p h k (with_state (entry_at p h k) z))) h k (with_state (entry_at p h k) z) O.sound (λ x. absurd (empty_filled (is_absent z) x zp))
          (but_entry p h k (with_state (entry_at p h k) z) O.shaped lh lk) (λ q. ok (O.sound.ents h k pr)) (single_same h k (with_state (entry_at p h k) z) refl (λ q. pr)) (λ a b i j. refl) e e (λ a b. refl)
      go (At q d) e lh lk =
          let nl = child_line h k q d e in
          change_keep r_sets T f f (line_at p) (line_at p) (entry_at p) (entry_at (put_entry p h k (with_state (entry_at p h k) z))) h k (with_state (entry_at p h k) z) O.sound (λ x. absurd (empty_filled (is_absent z) x zp))
          (but_entry p h k (with_state (entry_at p h k) z) O.shaped lh lk) (λ q. ok (O.sound.ents h k pr)) (single_same h k (with_state (entry_at p h k) z) refl (λ q. pr)) (λ a b i j. refl)
          q d d (line_at p q.set q.way) e e (record { same = refl; other = λ a b i. refl }) zp
          (record { full = nl.full; rplace = nl.rplace; ok = record { up = nl.ok.up; words = nl.ok.words; maps = nl.ok.maps; fits = nl.ok.fits } })

  -- a modified holder supplies its block
  pub supply : (h k : ℕ) → Present (entry_at p h k) → ProcOk T f (put_entry (clean_at p (entry_at p h k).child) h k (supplied p (entry_at p h k)))
  supply h k pr = go (entry_at p h k).child refl (present_range h k pr).0 (present_range h k pr).1
    where
      y : Child → REntry
      y c = record { state = Shared; block = (entry_at p h k).block; words = current p (entry_at p h k); rdirty = false; child = clean_child c }

      ok : (c : Child) → EntryOk r_sets f h (y c)
      ok c = record { in_set = (O.sound.ents h k pr).in_set; words = λ q. current_is h k pr; own = λ q. absurd (clean c q) }
        where
          clean : (c : Child) → modified (y c) ≡ true → ⊥
          clean NoChild q = clash q
          clean (At r d) q = clash q

      go : (c : Child) → (entry_at p h k).child ≡ c → h < r_sets → k < r_ways → ProcOk T f (put_entry (clean_at p c) h k (y c))
      go NoChild e lh lk = record {
        shaped = shaped_entry p h k (y NoChild) O.shaped lh;
        sound = change_nil r_sets T f f (line_at p) (line_at p) (entry_at p) (entry_at (put_entry p h k (y NoChild))) h k (y NoChild) O.sound (λ x. refl)
            (but_entry p h k (y NoChild) O.shaped lh lk) (λ q. ok NoChild) (single_same h k (y NoChild) refl (λ q. pr)) (λ a b i j. refl) e refl (λ a b. refl);
        tally = tally_same h k (y NoChild) lh lk (sym pr);
      }
      go (At q d) e lh lk =
          let nl = child_line h k q d e in
          let x = clean_line (line_at p q.set q.way) in
          let v = filled_range q.set q.way nl.full in
          let sv = shaped_line p q.set q.way x O.shaped v.0 in
          record {
            shaped = shaped_entry (put_line p q.set q.way x) h k (y (At q d)) sv lh;
            sound = change_keep r_sets T f f (line_at p) (line_at (put_line p q.set q.way x)) (entry_at p) (entry_at (put_entry p h k (y (At q d)))) h k (y (At q d)) O.sound (λ x. refl)
                (but_entry p h k (y (At q d)) O.shaped lh lk) (λ q'. ok (At q d)) (single_same h k (y (At q d)) refl (λ q. pr)) (λ a b i j. refl)
                q d false x e refl (but_line p q.set q.way x O.shaped v.0 v.1) refl
                (record { full = nl.full; rplace = nl.rplace; ok = record { up = refl; words = nl.ok.words; maps = nl.ok.maps; fits = nl.ok.fits } });
            tally = tally_same h k (y (At q d)) lh lk (sym pr);
          }

  -- an entry goes away with its child
  pub take : (h k : ℕ) (c : Counts) → Lost c → Present (entry_at p h k) → ProcOk T f (with_counts (put_entry (empty_at p (entry_at p h k).child) h k no_entry) c)
  take h k c lost pr = go (entry_at p h k).child refl
    where
      go : (x : Child) → (entry_at p h k).child ≡ x → ProcOk T f (with_counts (put_entry (empty_at p x) h k no_entry) c)
      go NoChild e = drop_entry h k c lost pr e
      go (At q d) e = drop_both h k c lost q d pr e

  -- a write's word goes into a line whose entry is private; what its block reads as is g's
  pub store : (g : Blocks) (t u i v : ℕ) → Filled (line_at p t u) → (entry_at p (line_at p t u).rplace.set (line_at p t u).rplace.way).state ≡ Private
      → set (f (entry_at p (line_at p t u).rplace.set (line_at p t u).rplace.way).block.0) i v ≡ g (entry_at p (line_at p t u).rplace.set (line_at p t u).rplace.way).block.0
      → ((x : ℕ) → (x ≡ (entry_at p (line_at p t u).rplace.set (line_at p t u).rplace.way).block.0 → ⊥) → f x ≡ g x)
      → ProcOk T g (stored p t u i v)
  store g t u i v fl pv here else =
      let l = line_at p t u in
      let h = l.rplace.set in
      let k = l.rplace.way in
      let e = entry_at p h k in
      let lo = O.sound.lines t u fl in
      let pr = rplace_present t u fl in
      let r = present_range h k pr in
      let ra = filled_range t u fl in
      let x : VLine = record { state = l.state; tag = l.tag; words = set l.words i v; dirty = true; rplace = l.rplace } in
      let y = with_child e (marked_dirty e.child) in
      let child_is : y.child ≡ At (placed t u) true = ap marked_dirty lo.up in
      let sv = shaped_line p t u x O.shaped ra.0 in
      record {
        shaped = shaped_entry (put_line p t u x) h k y sv r.0;
        sound = change_keep r_sets T f g (line_at p) (line_at (put_line p t u x)) (entry_at p) (entry_at (put_entry p h k y)) h k y O.sound (λ z. absurd (empty_filled (is_absent (entry_at p h k).state) z pr)) (but_entry p h k y O.shaped r.0 r.1)
            (λ z. record { in_set = (O.sound.ents h k pr).in_set; words = λ z. absurd (clash (sym z ∙ ap vdirty_of child_is)); own = λ z. pv })
            (single_same h k y refl (λ z. pr)) (λ a b n q. else (entry_at p a b).block.0 (λ z. n (unique a b h k q pr z)))
            (placed t u) l.dirty true x lo.up child_is (but_line p t u x O.shaped ra.0 ra.1) pr
            (record { full = fl; rplace = refl; ok = record { up = child_is; words = ap (λ z. set z i v) lo.words ∙ here; maps = lo.maps; fits = lo.fits } });
        tally = tally_same h k y r.0 r.1 refl;
      }

-- The kinds of change: by whether the entry had a child before, and has one after.
use Rattle.std.proofs.Common.{◌≡◌, ℕ, Bool, true, false, Option, ap, ◌∙◌}
use Rattle.tables.specs.declared.types.Child.{Child}
use Rattle.tables.specs.declared.types.Child.TheVariants.{NoChild, At}
use Rattle.tables.specs.declared.types.Place.{Place}
use Rattle.tables.specs.declared.types.VLine.{VLine}
use Rattle.tables.specs.declared.types.REntry.{REntry}
use Rattle.rules.specs.Cache.{is_empty, is_absent, vdirty_of}
use Rattle.rules.specs.Bus.{Blocks}
use Rattle.rules.specs.Invariant.{Present, placed}
use Rattle.rules.specs.Sound.{EntryOk, Sound}
use Rattle.rules.proofs.Cells.{But, nil_at}
use Rattle.rules.proofs.Change.{Is, is_at, is_same, NewLine, changed}

module _ (n : ℕ) (T : ℕ → Option ℕ) (f g : Blocks) (L M : ℕ → ℕ → VLine) (E F : ℕ → ℕ → REntry) (h k : ℕ) (y : REntry)
    (S : Sound n T f L E) (void : is_absent y.state ≡ true → y.rdirty ≡ false) (m : But E F h k y)
    (ok : Present y → EntryOk n g h y)
    (single : (c : ℕ) → Present y → Present (E h c) → y.block.0 ≡ (E h c).block.0 → c ≡ k)
    (reads : (a b : ℕ) → ((a ≡ h) × (b ≡ k) → ⊥) → Present (E a b) → f (E a b).block.0 ≡ g (E a b).block.0) where
  child_is : (c : Child) → y.child ≡ c → (F h k).child ≡ c
  child_is c e = ap (λ (z : REntry). z.child) m.same ∙ e

  entry' : Present (F h k) → EntryOk n g h (F h k)
  entry' pr = rw m.same (ok (rw m.same at pr))

  void' : is_absent (F h k).state ≡ true → (F h k).rdirty ≡ false
  void' ab = rw m.same (void (rw m.same at ab))

  single' : (c : ℕ) → Present (F h k) → Present (E h c) → (F h k).block.0 ≡ (E h c).block.0 → c ≡ k
  single' c pr qr e = single c (rw m.same at pr) qr (rw m.same at e)

  -- no child before, none after
  pub change_nil : (E h k).child ≡ NoChild → y.child ≡ NoChild → ((a b : ℕ) → M a b ≡ L a b) → Sound n T g M F
  change_nil e z same = changed n T f g L M E F h k (record {
    entries = m.other;
    lines = λ a b i j. same a b;
    gone = λ a b i j. absurd (nil_at (E h k).child (placed a b) (vdirty_of (E h k).child) e i);
    room = λ a b i j. absurd (nil_at (F h k).child (placed a b) (vdirty_of (F h k).child) (child_is NoChild z) i);
    line = λ a b i. absurd (nil_at (F h k).child (placed a b) (vdirty_of (F h k).child) (child_is NoChild z) i);
    here = λ q d i. absurd (nil_at (F h k).child q d (child_is NoChild z) i);
    entry = entry';
    void = void';
    single = single';
    reads = reads;
  }) S

  -- a child before, none after
  pub change_cut : (q : Place) (d : Bool) (x : VLine) → (E h k).child ≡ At q d → y.child ≡ NoChild → But L M q.set q.way x → is_empty x.state ≡ true → Sound n T g M F
  change_cut q d x e z l em = changed n T f g L M E F h k (record {
    entries = m.other;
    lines = λ a b i j. l.other a b (λ s. i (rw (s.0, s.1) (is_at (E h k).child q d e)));
    gone = λ a b i j. let s = is_same (E h k).child q d a b e i in rw (s.0, s.1, l.same) em;
    room = λ a b i j. absurd (nil_at (F h k).child (placed a b) (vdirty_of (F h k).child) (child_is NoChild z) i);
    line = λ a b i. absurd (nil_at (F h k).child (placed a b) (vdirty_of (F h k).child) (child_is NoChild z) i);
    here = λ r c i. absurd (nil_at (F h k).child r c (child_is NoChild z) i);
    entry = entry';
    void = void';
    single = single';
    reads = reads;
  }) S

  new_line : (r : Place) (c : Bool) (x : VLine) → y.child ≡ At r c → M r.set r.way ≡ x → Present y → NewLine T g h k r.set r.way x y
      → (a b : ℕ) → Is (F h k).child a b → NewLine T g h k a b (M a b) (F h k)
  new_line r c x z same pr nl a b i =
      let s = is_same (F h k).child r c a b (child_is (At r c) z) i in
      rw (s.0, s.1, same, m.same) nl

  -- the child stays where it is
  pub change_keep : (q : Place) (d c : Bool) (x : VLine) → (E h k).child ≡ At q d → y.child ≡ At q c → But L M q.set q.way x → Present y
      → NewLine T g h k q.set q.way x y → Sound n T g M F
  change_keep q d c x e z l pr nl = changed n T f g L M E F h k (record {
    entries = m.other;
    lines = λ a b i j. l.other a b (λ s. i (rw (s.0, s.1) (is_at (E h k).child q d e)));
    gone = λ a b i j. let s = is_same (E h k).child q d a b e i in absurd (j (rw (s.0, s.1) (is_at (F h k).child q c (child_is (At q c) z))));
    room = λ a b i j. let s = is_same (F h k).child q c a b (child_is (At q c) z) i in absurd (j (rw (s.0, s.1) (is_at (E h k).child q d e)));
    line = new_line q c x z l.same pr nl;
    here = λ r b i. rw m.same pr;
    entry = entry';
    void = void';
    single = single';
    reads = reads;
  }) S

  -- none before, a child after
  pub change_tie : (r : Place) (c : Bool) (x : VLine) → (E h k).child ≡ NoChild → y.child ≡ At r c → But L M r.set r.way x → is_empty (L r.set r.way).state ≡ true → Present y
      → NewLine T g h k r.set r.way x y → Sound n T g M F
  change_tie r c x e z l em pr nl = changed n T f g L M E F h k (record {
    entries = m.other;
    lines = λ a b i j. l.other a b (λ s. j (rw (s.0, s.1) (is_at (F h k).child r c (child_is (At r c) z))));
    gone = λ a b i j. absurd (nil_at (E h k).child (placed a b) (vdirty_of (E h k).child) e i);
    room = λ a b i j. let s = is_same (F h k).child r c a b (child_is (At r c) z) i in rw (s.0, s.1) em;
    line = new_line r c x z l.same pr nl;
    here = λ q b i. rw m.same pr;
    entry = entry';
    void = void';
    single = single';
    reads = reads;
  }) S

  -- the child goes from one place to another
  pub change_move : (q r : Place) (d c : Bool) (x : VLine) (K : ℕ → ℕ → VLine) (o : VLine) → (E h k).child ≡ At q d → y.child ≡ At r c
      → But L K q.set q.way o → is_empty o.state ≡ true → But K M r.set r.way x → ((q.set ≡ r.set) × (q.way ≡ r.way) → ⊥)
      → is_empty (L r.set r.way).state ≡ true → Present y → NewLine T g h k r.set r.way x y → Sound n T g M F
  change_move q r d c x K o e z l₁ em₁ l₂ ne em pr nl = changed n T f g L M E F h k (record {
    entries = m.other;
    lines = λ a b i j. l₂.other a b (λ s. j (rw (s.0, s.1) (is_at (F h k).child r c (child_is (At r c) z)))) ∙ l₁.other a b (λ s. i (rw (s.0, s.1) (is_at (E h k).child q d e)));
    gone = λ a b i j. let s = is_same (E h k).child q d a b e i in rw (s.0, s.1, l₂.other q.set q.way ne, l₁.same) em₁;
    room = λ a b i j. let s = is_same (F h k).child r c a b (child_is (At r c) z) i in rw (s.0, s.1) em;
    line = new_line r c x z l₂.same pr nl;
    here = λ q b i. rw m.same pr;
    entry = entry';
    void = void';
    single = single';
    reads = reads;
  }) S

-- One entry and the lines that are or were its child change: what is to be shown, and no more.
use Rattle.std.proofs.Common.{◌≡◌, ℕ, Bool, true, false, Option, sym, refl, ap, ◌∙◌, subst}
use Rattle.tables.specs.declared.types.Child.{Child}
use Rattle.tables.specs.declared.types.Child.TheVariants.{NoChild, At}
use Rattle.tables.specs.declared.types.Place.{Place}
use Rattle.tables.specs.declared.types.VLine.{VLine}
use Rattle.tables.specs.declared.types.REntry.{REntry}
use Rattle.rules.specs.Cache.{is_empty, is_absent, vdirty_of}
use Rattle.rules.specs.Bus.{Blocks}
use Rattle.rules.specs.Invariant.{Filled, Present, placed}
use Rattle.rules.specs.Sound.{LineOk, ChildOk, EntryOk, Sound}
use Rattle.rules.proofs.Cells.{place_dec, same_place, nil_at, empty_filled}

-- (a, b) is where the child is
abbrev pub Is : Child → ℕ → ℕ → Type 0
Is c a b = c ≡ At (placed a b) (vdirty_of c)

pub is_at : (c : Child) (q : Place) (d : Bool) → c ≡ At q d → Is c q.set q.way
is_at c q d e = rw e

pub is_same : (c : Child) (q : Place) (d : Bool) (a b : ℕ) → c ≡ At q d → Is c a b → (a ≡ q.set) × (b ≡ q.way)
is_same c q d a b e i = same_place (placed a b) q (vdirty_of c) d (sym i ∙ e)

is_dec : (c : Child) (a b : ℕ) → Dec (Is c a b)
is_dec NoChild a b = no (λ e. nil_at NoChild (placed a b) false refl e)
is_dec (At q d) a b = go (place_dec a b q.set q.way)
  where
    go : Dec ((a ≡ q.set) × (b ≡ q.way)) → Dec (Is (At q d) a b)
    go (yes e) = yes (rw (e.0, e.1))
    go (no n) = no (λ e. n (same_place (placed a b) q d d (sym e)))

-- a line of the new child at (a, b)
pub record NewLine (T : ℕ → Option ℕ) (g : Blocks) (h k a b : ℕ) (l : VLine) (e : REntry) : Type 0 where
  pub full : Filled l
  pub rplace : l.rplace ≡ placed h k
  pub ok : LineOk T g a b l e

pub record Change (n : ℕ) (T : ℕ → Option ℕ) (f g : Blocks) (L M : ℕ → ℕ → VLine) (E F : ℕ → ℕ → REntry) (h k : ℕ) : Type 0 where
  pub entries : (a b : ℕ) → ((a ≡ h) × (b ≡ k) → ⊥) → F a b ≡ E a b
  pub lines : (a b : ℕ) → (Is (E h k).child a b → ⊥) → (Is (F h k).child a b → ⊥) → M a b ≡ L a b
  pub gone : (a b : ℕ) → Is (E h k).child a b → (Is (F h k).child a b → ⊥) → is_empty (M a b).state ≡ true
  pub room : (a b : ℕ) → Is (F h k).child a b → (Is (E h k).child a b → ⊥) → is_empty (L a b).state ≡ true
  pub line : (a b : ℕ) → Is (F h k).child a b → NewLine T g h k a b (M a b) (F h k)
  pub here : (q : Place) (d : Bool) → (F h k).child ≡ At q d → Present (F h k)
  pub entry : Present (F h k) → EntryOk n g h (F h k)
  pub void : is_absent (F h k).state ≡ true → (F h k).rdirty ≡ false
  pub single : (c : ℕ) → Present (F h k) → Present (E h c) → (F h k).block.0 ≡ (E h c).block.0 → c ≡ k
  pub reads : (a b : ℕ) → ((a ≡ h) × (b ≡ k) → ⊥) → Present (E a b) → f (E a b).block.0 ≡ g (E a b).block.0

module _ (n : ℕ) (T : ℕ → Option ℕ) (f g : Blocks) (L M : ℕ → ℕ → VLine) (E F : ℕ → ℕ → REntry) (h k : ℕ)
    (c : Change n T f g L M E F h k) (S : Sound n T f L E) where
  -- a filled line that is no child of (h, k) has its home elsewhere
  elsewhere : (a b : ℕ) → Filled (L a b) → (Is (E h k).child a b → ⊥) → ((L a b).rplace.set ≡ h) × ((L a b).rplace.way ≡ k) → ⊥
  elsewhere a b fl ni e = ni (is_at (E h k).child (placed a b) (L a b).dirty (rw (e.0, e.1) at (S.lines a b fl).up))

  rplace_here : (a b : ℕ) → Filled (L a b) → Present (E (L a b).rplace.set (L a b).rplace.way)
  rplace_here a b fl = (S.children (L a b).rplace.set (L a b).rplace.way (placed a b) (L a b).dirty (S.lines a b fl).up).here

  lines' : (a b : ℕ) → Filled (M a b) → LineOk T g a b (M a b) (F (M a b).rplace.set (M a b).rplace.way)
  lines' a b fl = go (is_dec (F h k).child a b) (is_dec (E h k).child a b)
    where
      old : (Is (E h k).child a b → ⊥) → Filled (L a b) → LineOk T g a b (L a b) (F (L a b).rplace.set (L a b).rplace.way)
      old ni fl' =
          let ne = elsewhere a b fl' ni in
          let o = S.lines a b fl' in
          rw (c.entries (L a b).rplace.set (L a b).rplace.way ne)
          (record { up = o.up; words = o.words ∙ c.reads (L a b).rplace.set (L a b).rplace.way ne (rplace_here a b fl'); maps = o.maps; fits = o.fits })

      go : Dec (Is (F h k).child a b) → Dec (Is (E h k).child a b) → LineOk T g a b (M a b) (F (M a b).rplace.set (M a b).rplace.way)
      go (yes i) j =
          let x = c.line a b i in
          subst (λ (z : Place). LineOk T g a b (M a b) (F z.set z.way)) (sym x.rplace) x.ok
      go (no i) (yes j) = absurd (empty_filled (is_empty (M a b).state) (c.gone a b j i) fl)
      go (no i) (no j) = rw (c.lines a b j i) (old j (rw (c.lines a b j i) at fl))

  kids' : (a b : ℕ) (q : Place) (d : Bool) → (F a b).child ≡ At q d → ChildOk a b (M q.set q.way) (F a b)
  kids' a b q d e = go (place_dec a b h k)
    where
      go₂ : ((a ≡ h) × (b ≡ k) → ⊥) → ChildOk a b (L q.set q.way) (E a b) → Dec (Is (E h k).child q.set q.way) → Dec (Is (F h k).child q.set q.way) → ChildOk a b (M q.set q.way) (E a b)
      go₂ ne o (yes i) j =
          let x = (S.children h k (placed q.set q.way) (vdirty_of (E h k).child) i).rplace in
          let y : placed a b ≡ placed h k = sym o.rplace ∙ x in
          absurd (ne (ap (λ (z : Place). z.set) y, ap (λ (z : Place). z.way) y))
      go₂ ne o (no i) (yes j) = absurd (empty_filled (is_empty (L q.set q.way).state) (c.room q.set q.way j i) o.full)
      go₂ ne o (no i) (no j) = rw (c.lines q.set q.way i j) o

      go : Dec ((a ≡ h) × (b ≡ k)) → ChildOk a b (M q.set q.way) (F a b)
      go (yes i) =
          let e' : (F h k).child ≡ At q d = rw (i.0, i.1) at e in
          let x = c.line q.set q.way (is_at (F h k).child q d e') in
          rw (i.0, i.1) (record { full = x.full; rplace = x.rplace; here = c.here q d e' })
      go (no ne) = let e' : (E a b).child ≡ At q d = rw (c.entries a b ne) at e in
          rw (c.entries a b ne) (go₂ ne (S.children a b q d e') (is_dec (E h k).child q.set q.way) (is_dec (F h k).child q.set q.way))

  ents' : (a b : ℕ) → Present (F a b) → EntryOk n g a (F a b)
  ents' a b pr = go (place_dec a b h k)
    where
      go : Dec ((a ≡ h) × (b ≡ k)) → EntryOk n g a (F a b)
      go (yes i) = rw (i.0, i.1) (c.entry (rw (i.0, i.1) at pr))
      go (no ne) =
          let pr' : Present (E a b) = rw (c.entries a b ne) at pr in
          let o = S.ents a b pr' in
          rw (c.entries a b ne) (record { in_set = o.in_set; words = λ d. o.words d ∙ c.reads a b ne pr'; own = o.own })

  void' : (a b : ℕ) → is_absent (F a b).state ≡ true → (F a b).rdirty ≡ false
  void' a b ab = go (place_dec a b h k)
    where
      go : Dec ((a ≡ h) × (b ≡ k)) → (F a b).rdirty ≡ false
      go (yes i) = rw (i.0, i.1) (c.void (rw (i.0, i.1) at ab))
      go (no ne) = rw (c.entries a b ne) (S.void a b (rw (c.entries a b ne) at ab))

  once' : (a b u : ℕ) → Present (F a b) → Present (F a u) → (F a b).block.0 ≡ (F a u).block.0 → b ≡ u
  once' a b u pr qr e = go (place_dec a b h k) (place_dec a u h k)
    where
      go : Dec ((a ≡ h) × (b ≡ k)) → Dec ((a ≡ h) × (u ≡ k)) → b ≡ u
      go (yes i) (yes j) = i.1 ∙ sym j.1
      go (yes i) (no nj) =
          let qr' : Present (E h u) = rw (c.entries a u nj, i.0) at qr in
          let e' : (F h k).block.0 ≡ (E h u).block.0 = rw (c.entries a u nj, i.0, i.1) at e in
          i.1 ∙ sym (c.single u (rw (i.0, i.1) at pr) qr' e')
      go (no ni) (yes j) =
          let pr' : Present (E h b) = rw (c.entries a b ni, j.0) at pr in
          let e' : (E h b).block.0 ≡ (F h k).block.0 = rw (c.entries a b ni, j.0, j.1) at e in
          c.single b (rw (j.0, j.1) at qr) pr' (sym e') ∙ sym j.1
      go (no ni) (no nj) = S.once a b u (rw (c.entries a b ni) at pr) (rw (c.entries a u nj) at qr) (rw (c.entries a b ni, c.entries a u nj) at e)

  pub changed : Sound n T g M F
  changed = record { lines = lines'; children = kids'; ents = ents'; void = void'; once = once' }

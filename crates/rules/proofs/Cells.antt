-- Tables read and written by set and way: one cell, a whole table mapped or new, and the count of present entries.
use Rattle.std.proofs.Common.{◌≡◌, ℕ, zero, suc, ◌+◌, ◌<◌, ◌≤◌, Bool, true, false, ◌≢◌, ◌⊎◌, List, [], ◌∷◌, map, length, get_or, set, replicate, refl, ap, ◌∙◌, inl, inr, arith, length-set, get_or-set_other, get_or-set_same}
use native.Mathlib.Decide.{ℕ_discrete, dec_lt}
use lib.ListN.{length-map, length-replicate, get_or-map, get_or-eq_default}
use Rattle.rules.specs.Sizes.{v_sets, v_ways, r_sets, r_ways}
use Rattle.tables.specs.declared.types.Child.{Child}
use Rattle.tables.specs.declared.types.Child.TheVariants.{NoChild, At}
use Rattle.tables.specs.declared.types.Place.{Place}
use Rattle.tables.specs.declared.types.VLine.{VLine}
use Rattle.tables.specs.declared.types.REntry.{REntry}
use Rattle.tables.specs.declared.types.Processor.{Processor}
use Rattle.rules.specs.Cache.{line_at, entry_at, put_line, put_entry, is_absent, past_entry, past_line}
use Rattle.rules.specs.Invariant.{Shaped, Rows, one, in_row, resident}

module _ {A : Type 0} where
  pub rows_at : (n : ℕ) (t : List (List A)) (s : ℕ) → Rows n t → s < length t → length (get_or t s []) ≡ n
  rows_at n [] s h lt = let z : ⊥ = omega arith in absurd z
  rows_at n (r ∷ rs) zero h lt = h.0
  rows_at n (r ∷ rs) (suc s) h lt = rows_at n rs s h.1 (omega arith)

  pub rows_set : (n : ℕ) (t : List (List A)) (s : ℕ) (r : List A) → Rows n t → length r ≡ n → Rows n (set t s r)
  rows_set n [] s r h e = tt
  rows_set n (x ∷ xs) zero r h e = (e, h.1)
  rows_set n (x ∷ xs) (suc s) r h e = (h.0, rows_set n xs s r h.1 e)

  -- at the place written, and at any other
  pub cell_same : (n : ℕ) (t : List (List A)) (s w : ℕ) (x d : A) → Rows n t → s < length t → w < n
      → get_or (get_or (set t s (set (get_or t s []) w x)) s []) w d ≡ x
  cell_same n t s w x d h ls lw =
      let e = rows_at n t s h ls in
      let k : w < length (get_or t s []) = omega arith in
      rw (get_or-set_same, get_or-set_same)

  pub cell_other : (t : List (List A)) (s w : ℕ) (x d : A) (s' w' : ℕ) → s < length t → ((s' ≡ s) × (w' ≡ w) → ⊥)
      → get_or (get_or (set t s (set (get_or t s []) w x)) s' []) w' d ≡ get_or (get_or t s' []) w' d
  cell_other t s w x d s' w' ls ne = go (ℕ_discrete s' s)
    where
      go : Dec (s' ≡ s) → get_or (get_or (set t s (set (get_or t s []) w x)) s' []) w' d ≡ get_or (get_or t s' []) w' d
      go (yes e) = let ne' : w' ≢ w = λ q. ne (e, q) in rw (e, get_or-set_same, get_or-set_other)
      go (no k) = rw get_or-set_other

module _ {A B : Type 0} where
  pub cell_map : (f : A → B) (t : List (List A)) (s w : ℕ) (d : A) → get_or (get_or (map (map f) t) s []) w (f d) ≡ f (get_or (get_or t s []) w d)
  cell_map f t s w d = rw (get_or-map (map f) t s [], get_or-map f (get_or t s []) w d)

pub place_dec : (a b s w : ℕ) → Dec ((a ≡ s) × (b ≡ w))
place_dec a b s w = go (ℕ_discrete a s) (ℕ_discrete b w)
  where
    go : Dec (a ≡ s) → Dec (b ≡ w) → Dec ((a ≡ s) × (b ≡ w))
    go (yes p) (yes q) = yes (p, q)
    go (yes p) (no q) = no (λ h. q h.1)
    go (no p) q = no (λ h. p h.0)

-- g is f, but for the place (s, w), where it is x
pub record But {A : Type 0} (f g : ℕ → ℕ → A) (s w : ℕ) (x : A) : Type 0 where
  pub same : g s w ≡ x
  pub other : (a b : ℕ) → ((a ≡ s) × (b ≡ w) → ⊥) → g a b ≡ f a b

pub same_place : (q r : Place) (d e : Bool) → At q d ≡ At r e → (q.set ≡ r.set) × (q.way ≡ r.way)
same_place q r d e h = let k : q ≡ r = cc in (ap (λ (x : Place). x.set) k, ap (λ (x : Place). x.way) k)

pub nil_at : (c : Child) (q : Place) (d : Bool) → c ≡ NoChild → c ≡ At q d → ⊥
nil_at c q d h k = let z : ◌≡◌ {A = ℕ} 0 1 = cc in omega arith

pub empty_filled : (b : Bool) → b ≡ true → b ≡ false → ⊥
empty_filled b h k = let z : ◌≡◌ {A = ℕ} 0 1 = cc in omega arith

module _ {A : Type 0} where
  -- a cell outside the table is the default
  pub cell_past : (n : ℕ) (t : List (List A)) (s w : ℕ) (d : A) → Rows n t → ((s < length t) × (w < n) → ⊥) → get_or (get_or t s []) w d ≡ d
  cell_past n t s w d h o = go (dec_lt s (length t))
    where
      go : Dec (s < length t) → get_or (get_or t s []) w d ≡ d
      go (yes k) =
          let e = rows_at n t s h k in
          let far : length (get_or t s []) ≤ w = past (dec_lt w n) k e in
          get_or-eq_default (get_or t s []) d far
        where
          past : Dec (w < n) → s < length t → length (get_or t s []) ≡ n → length (get_or t s []) ≤ w
          past (yes i) k e = absurd (o (k, i))
          past (no i) k e = omega arith
      go (no k) = let far : length t ≤ s = omega arith in rw (get_or-eq_default t [] far)

-- the laws of counting present entries
row_set : (r : List REntry) (w : ℕ) (e : REntry) → w < length r → in_row (set r w e) + one (is_absent (get_or r w past_entry).state) ≡ in_row r + one (is_absent e.state)
row_set [] w e lt = let z : ⊥ = omega arith in absurd z
row_set (x ∷ xs) zero e lt = omega arith
row_set (x ∷ xs) (suc w) e lt = let i = row_set xs w e (omega arith) in omega arith

table_set : (t : List (List REntry)) (s : ℕ) (r : List REntry) → s < length t → resident (set t s r) + in_row (get_or t s []) ≡ resident t + in_row r
table_set [] s r lt = let z : ⊥ = omega arith in absurd z
table_set (x ∷ xs) zero r lt = omega arith
table_set (x ∷ xs) (suc s) r lt = let i = table_set xs s r (omega arith) in omega arith

pub resident_put : (p : Processor) (s w : ℕ) (e : REntry) → Shaped p → s < r_sets → w < r_ways
    → resident (put_entry p s w e).r + one (is_absent (entry_at p s w).state) ≡ resident p.r + one (is_absent e.state)
resident_put p s w e h ls lw =
    let a : s < length p.r = omega (arith, h.r_sets) in
    let b = rows_at r_ways p.r s h.r_rows a in
    let i = row_set (get_or p.r s []) w e (omega arith) in
    let j = table_set p.r s (set (get_or p.r s []) w e) a in
    omega arith

-- one cell written
pub but_line : (p : Processor) (s w : ℕ) (l : VLine) → Shaped p → s < v_sets → w < v_ways → But (line_at p) (line_at (put_line p s w l)) s w l
but_line p s w l h ls lw =
    let a : s < length p.v = omega (arith, h.v_sets) in
    record { same = cell_same v_ways p.v s w l past_line h.v_rows a lw; other = λ x y n. cell_other p.v s w l past_line x y a n }

pub but_entry : (p : Processor) (s w : ℕ) (e : REntry) → Shaped p → s < r_sets → w < r_ways → But (entry_at p) (entry_at (put_entry p s w e)) s w e
but_entry p s w e h ls lw =
    let a : s < length p.r = omega (arith, h.r_sets) in
    record { same = cell_same r_ways p.r s w e past_entry h.r_rows a lw; other = λ x y n. cell_other p.r s w e past_entry x y a n }

pub shaped_line : (p : Processor) (s w : ℕ) (l : VLine) → Shaped p → s < v_sets → Shaped (put_line p s w l)
shaped_line p s w l h ls =
    let a : s < length p.v = omega (arith, h.v_sets) in
    record { v_rows = rows_set v_ways p.v s (set (get_or p.v s []) w l) h.v_rows (length-set (get_or p.v s []) w l ∙ rows_at v_ways p.v s h.v_rows a); r_rows = h.r_rows; v_sets = length-set p.v s (set (get_or p.v s []) w l) ∙ h.v_sets; r_sets = h.r_sets }

pub shaped_entry : (p : Processor) (s w : ℕ) (e : REntry) → Shaped p → s < r_sets → Shaped (put_entry p s w e)
shaped_entry p s w e h ls =
    let a : s < length p.r = omega (arith, h.r_sets) in
    record { v_rows = h.v_rows; r_rows = rows_set r_ways p.r s (set (get_or p.r s []) w e) h.r_rows (length-set (get_or p.r s []) w e ∙ rows_at r_ways p.r s h.r_rows a); v_sets = h.v_sets; r_sets = length-set p.r s (set (get_or p.r s []) w e) ∙ h.r_sets }

pub rows_map : {A B : Type 0} (f : A → B) (n : ℕ) (t : List (List A)) → Rows n t → Rows n (map (map f) t)
rows_map f n [] h = tt
rows_map f n (r ∷ rs) h = (length-map r f ∙ h.0, rows_map f n rs h.1)

module _ {A : Type 0} where
  pub at_copies : (n : ℕ) (a d : A) (i : ℕ) → (get_or (replicate n a) i d ≡ a) ⊎ (get_or (replicate n a) i d ≡ d)
  at_copies zero a d i = inr refl
  at_copies (suc n) a d zero = inl refl
  at_copies (suc n) a d (suc i) = at_copies n a d i

module _ {A : Type 0} where
  pub cell_copies : (n m : ℕ) (a d : A) (s w : ℕ) → (get_or (get_or (replicate n (replicate m a)) s []) w d ≡ a) ⊎ (get_or (get_or (replicate n (replicate m a)) s []) w d ≡ d)
  cell_copies n m a d s w = elim (at_copies n (replicate m a) [] s)
      [ inl e ↦ rw e (at_copies m a d w) | inr e ↦ rw e (inr refl) ]

pub rows : {A : Type 0} (m : ℕ) (a : A) (n : ℕ) → Rows m (replicate n (replicate m a))
rows m a zero = tt
rows m a (suc n) = (length-replicate m a, rows m a n)

-- A list with one element replaced, at every index.
use Rattle.std.specs.Prelude.{◌≡◌, ℕ, zero, suc, ◌<◌, if◌then◌else◌, ◌≢◌, List, [], ◌∷◌, length, ◌==◌, slice_index_or, slice_set, refl}
use Rattle.std.proofs.Common.{sym, subst, get_or-set_same, get_or-set_other}
use Rattle.std.proofs.Math.Decide.{ℕ_discrete}
use Rattle.std.proofs.lemmas.Bool.{eq-eqb, ne_eqb}

module _ {A : Type 0} where
  pub set_at : (l : List A) (i j : ℕ) (a d : A) → i < length l → slice_index_or (slice_set l i a) j d ≡ (if j == i then a else slice_index_or l j d)
  set_at l i j a d h = go (ℕ_discrete j i)
    where
      go : Dec (j ≡ i) → slice_index_or (slice_set l i a) j d ≡ (if j == i then a else slice_index_or l j d)
      go (yes e) = rw (eq-eqb j i e, e) (get_or-set_same l i a d h)
      go (no k) = rw (ne_eqb j i k) (get_or-set_other l i j a d k)

  -- what holds of the new element and of every old one holds of the list after, whatever its length
  pub set_keeps : (P : ℕ → A → Type 0) (l : List A) (i j : ℕ) (a d : A) → P i a → P j (slice_index_or l j d) → P j (slice_index_or (slice_set l i a) j d)
  set_keeps P [] i j a d x y = y
  set_keeps P (e ∷ es) zero zero a d x y = x
  set_keeps P (e ∷ es) zero (suc j) a d x y = y
  set_keeps P (e ∷ es) (suc i) zero a d x y = y
  set_keeps P (e ∷ es) (suc i) (suc j) a d x y = set_keeps (λ k. P (suc k)) es i j a d x y

  set_self : (l : List A) (i : ℕ) (d : A) → slice_index_or (slice_set l i d) i d ≡ d
  set_self [] i d = refl
  set_self (e ∷ es) zero d = refl
  set_self (e ∷ es) (suc i) d = set_self es i d

  -- the default put at one index: what holds of it there and of the other elements holds of the list after
  pub set_default : (P : ℕ → A → Type 0) (l : List A) (i j : ℕ) (d : A) → P i d → ((j ≢ i) → P j (slice_index_or l j d)) → P j (slice_index_or (slice_set l i d) j d)
  set_default P l i j d x y = go (ℕ_discrete j i)
    where
      go : Dec (j ≡ i) → P j (slice_index_or (slice_set l i d) j d)
      go (yes e) = subst (λ k. P k (slice_index_or (slice_set l i d) k d)) (sym e) (subst (λ v. P i v) (sym (set_self l i d)) x)
      go (no k) = subst (λ v. P j v) (sym (get_or-set_other l i j d d k)) (y k)

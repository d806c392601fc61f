-- The first place of a list that passes a test, as the library counts it, is the first number that does.
use Rattle.std.proofs.Common.{◌≡◌, ℕ, zero, suc, ◌+◌, ◌<◌, add-one, ◌≤◌, Bool, true, false, List, length, get_or, Some, None, Option, refl, sym, subst, ⊎_elim, arith, lt-ltb, le-ltb}
use native.Mathlib.Decide.{dec_lt}
use Rattle.std.specs.List.{position, position_or_len}
use Rattle.std.proofs.lemmas.Bool.{cases_lt}
use Rattle.std.proofs.lemmas.List.Sums.{fails_before_first, passes_at_first}
use Rattle.rules.specs.Basic.{first_below}
use Rattle.caches.specs.Found.{FoundBelow}

-- found by counting up
pub first_more : (n : ℕ) (f : ℕ → Bool) → first_below n f ≡ None → f n ≡ false → first_below (n + 1) f ≡ None
first_more n f h e = rw (add-one, h, e)

pub first_found : (n : ℕ) (f : ℕ → Bool) (w : ℕ) → w < n → first_below w f ≡ None → f w ≡ true → first_below n f ≡ Some w
first_found zero f w lt h e = let z : ⊥ = omega arith in absurd z
first_found (suc n) f w lt h e = go (dec_lt w n) (λ k. first_found n f w k h e)
  where
    go : Dec (w < n) → (w < n → first_below n f ≡ Some w) → first_below (suc n) f ≡ Some w
    go (yes k) ih = rw (ih k)
    go (no k) ih = let q : n ≡ w = omega arith in rw (q, h, e)

none_below : (n : ℕ) (f : ℕ → Bool) → ((w : ℕ) → w < n → f w ≡ false) → first_below n f ≡ None
none_below zero f h = refl
none_below (suc n) f h = rw (none_below n f (λ w k. h w (omega arith)), h n (omega arith))

some_below : (n : ℕ) (f : ℕ → Bool) (w : ℕ) → w < n → f w ≡ true → ((k : ℕ) → k < w → f k ≡ false) → first_below n f ≡ Some w
some_below zero f w lt e h = let z : ⊥ = omega arith in absurd z
some_below (suc n) f w lt e h = go (dec_lt w n) (λ k. some_below n f w k e h)
  where
    go : Dec (w < n) → (w < n → first_below n f ≡ Some w) → first_below (suc n) f ≡ Some w
    go (yes k) ih = rw (ih k)
    go (no k) ih = let q : n ≡ w = omega arith in rw (q, none_below w f h, e)

module _ {A : Type 0} (n : ℕ) (f : A → Bool) (d : A) (row : List A) (e : length row ≡ n) where
  -- what a search of a row answers
  pub record First (r : Option ℕ) : Type 0 where
    pub way : r ≡ first_below n (λ w. f (get_or row w d))
    pub within : FoundBelow n r

  pub first_in : (r : Option ℕ) → r ≡ position f row → First r
  first_in r h = subst First (sym h) (⊎_elim some none (cases_lt (position_or_len f row) (length row)))
    where
      some : position_or_len f row < length row → First (position f row)
      some lt =
          let k : position_or_len f row < n = omega arith in
          rw lt-ltb record {
            way = sym (some_below n (λ w. f (get_or row w d)) (position_or_len f row) k (passes_at_first f row d lt) (λ w. fails_before_first f row w d));
            within = k;
          }

      none : length row ≤ position_or_len f row → First (position f row)
      none le =
          rw le-ltb record {
            way = sym (none_below n (λ w. f (get_or row w d)) (λ w k. fails_before_first f row w d (omega arith)));
            within = tt;
          }

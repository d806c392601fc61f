-- Numbers that are shifted into a word one after another.
use Rattle.std.proofs.Common.{◌≡◌, ℕ, ◌%◌, Bool, true, false, cond, not, eqb, List, [], ◌∷◌, reverse, fold, refl, arith}
use Rattle.std.proofs.lemmas.Bool.Decides.{nat_tests}
use Rattle.replacement.specs.Sizes.{ways}
use Rattle.replacement.specs.Recent.{numbers, renewed, shift, without}

-- the old numbers that differ from a way, shifted in from the oldest, and then the way
pub shift_numbers : (w x : ℕ) → shift (fold shift 0 (without (x % ways) (reverse (numbers w)))) (x % ways) ≡ renewed w x
shift_numbers w x = grind (arith, nat_tests)

-- a word after one more number that may be x, which is passed over
abbrev pub shift_other : ℕ → ℕ → ℕ → ℕ
shift_other x w y = cond (eqb y x) w (shift w y)

either_way : (x w y : ℕ) (ys : List ℕ) (b : Bool) → ((v : ℕ) → fold (shift_other x) v ys ≡ fold shift v (without x ys)) → fold (shift_other x) (cond b w (shift w y)) ys ≡ fold shift w (cond (not b) (y ∷ without x ys) (without x ys))
either_way x w y ys true k = k w
either_way x w y ys false k = k (shift w y)

-- to pass over a number while the others are shifted in is to leave it out before
pub fold_others : (x w : ℕ) (ys : List ℕ) → fold (shift_other x) w ys ≡ fold shift w (without x ys)
fold_others x w [] = refl
fold_others x w (y ∷ ys) = either_way x w y ys (eqb y x) (λ v. fold_others x v ys)

-- Examples: way 0 becomes the newest of 3, 2, 1, 0; of equal numbers that differ from the way, three stay.
turned : renewed 27 0 ≡ 108
turned = refl

equals_stay : renewed 85 4 ≡ 84
equals_stay = refl

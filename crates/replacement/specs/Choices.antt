-- Where a candidate is asked for, the first candidate asked for is one.
use Rattle.std.proofs.Common.{◌≡◌, ℕ, zero, suc, ◌<◌, Bool, true, false, cond, Some, find, unwrap_or, List, [], ◌∷◌, length, get_or, sym, refl, ap, ◌∙◌, ⊎_elim, zero-add, arith, reverse, Contains}
use borrow.Author.Tests.{clash}
use Rattle.std.specs.List.{range_with_len}
use Rattle.std.proofs.lemmas.List.{get_or_past}
use Rattle.std.proofs.lemmas.List.Elements.{Contains-append_right}
use Rattle.std.proofs.lemmas.List.FromFn.{get_or-range_with_len}
use Rattle.std.proofs.lemmas.Bool.{cases_lt}
use Rattle.replacement.specs.Sizes.{ways}
use Rattle.replacement.specs.Asked.{first_asked}
use Rattle.replacement.specs.Recent.{numbers, oldest, oldest_first}

passed : (ws : List Bool) (c : ℕ) (cs : List ℕ) (b : Bool) → get_or ws c false ≡ b → (b ≡ false → get_or ws (first_asked ws cs) false ≡ true) → get_or ws (unwrap_or (cond b (Some c) (find (λ n. get_or ws n false) cs)) 0) false ≡ true
passed ws c cs true e k = e
passed ws c cs false e k = k refl

pub contains_chosen : (ws : List Bool) (cs : List ℕ) (i : ℕ) → Contains cs i → get_or ws i false ≡ true → get_or ws (first_asked ws cs) false ≡ true
contains_chosen ws [] i (k, h, q) e = absurd (omega arith)
contains_chosen ws (c ∷ cs) i (zero, h, q) e =
    passed ws c cs (get_or ws c false) refl (λ n. absurd (clash (sym n ∙ ap (λ k. get_or ws k false) q ∙ e)))
contains_chosen ws (c ∷ cs) i (suc k, h, q) e =
    passed ws c cs (get_or ws c false) refl (λ n. contains_chosen ws cs i (k, omega arith, q) e)

-- a way asked for is one of the ways
pub asked_below : (ws : List Bool) (i : ℕ) → length ws ≡ ways → get_or ws i false ≡ true → i < ways
asked_below ws i n e = ⊎_elim (λ h. h) (λ h. absurd (clash (sym (get_or_past ws i false (omega arith)) ∙ e))) (cases_lt i ways)

-- every way is among the candidates of least recently used
every_way : (w i : ℕ) → i < ways → Contains (oldest_first w) i
every_way w i h =
    Contains-append_right (reverse (numbers w)) (range_with_len 0 ways) i (i, h, get_or-range_with_len 0 ways i i h ∙ zero-add i)

pub oldest_lawful : (w : ℕ) (ws : List Bool) (i : ℕ) → length ws ≡ ways → get_or ws i false ≡ true → get_or ws (oldest w ws) false ≡ true
oldest_lawful w ws i n e = contains_chosen ws (oldest_first w) i (every_way w i (asked_below ws i n e)) e

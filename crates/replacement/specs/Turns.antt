-- First in, first out chooses a way asked for, where there is one.
use Rattle.std.proofs.Common.{◌≡◌, ℕ, ◌+◌, ◌-◌, ◌%◌, ◌<◌, Bool, true, false, List, length, get_or, ◌∙◌, zero-add, arith, Contains}
use Rattle.std.proofs.lemmas.List.FromFn.{get_or-map-range_with_len}
use Rattle.replacement.specs.Sizes.{ways}
use Rattle.replacement.specs.Around.{around, next_around}
use Rattle.replacement.specs.Choices.{contains_chosen, asked_below}

every_way : (w i : ℕ) → i < ways → Contains (around w) i
every_way w i h =
    let k = (i + (ways - w % ways)) % ways in
    (k, omega arith, get_or-map-range_with_len (λ step. (w + step) % ways) 0 ways k k i (omega arith) (zero-add k) ∙ omega arith)

pub next_lawful : (w : ℕ) (ws : List Bool) (i : ℕ) → length ws ≡ ways → get_or ws i false ≡ true → get_or ws (next_around w ws) false ≡ true
next_lawful w ws i n e = contains_chosen ws (around w) i (every_way w i (asked_below ws i n e)) e

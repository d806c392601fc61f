-- First in, first out: the word, modulo the ways of a set, is the way to replace next.
use Rattle.std.specs.Prelude.{ℕ, ◌+◌, ◌%◌, Bool, List, map}
use Rattle.std.specs.List.{range_with_len}
use Rattle.replacement.specs.Sizes.{ways}
use Rattle.replacement.specs.Asked.{first_asked}

-- every way, from the word's upwards and around to the one before it
abbrev pub around : ℕ → List ℕ
around w = map (λ step. (w + step) % ways) (range_with_len 0 ways)

-- the word after a load of a way: the way after it
abbrev pub advanced : ℕ → ℕ
advanced x = (x + 1) % ways

-- the first way asked for from the word's upwards and around
abbrev pub next_around : ℕ → List Bool → ℕ
next_around w ws = first_asked ws (around w)

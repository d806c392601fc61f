-- Least recently used: what a word says, how it goes on, and which way is chosen by it.
use Rattle.std.specs.Prelude.{ℕ, ◌+◌, ◌*◌, ◌/◌, ◌%◌, Bool, not, List, [], ◌∷◌, ◌++◌, reverse, take, filter, ◌==◌}
use Rattle.std.specs.List.{range_with_len}
use Rattle.replacement.specs.Sizes.{ways}
use Rattle.replacement.specs.Asked.{first_asked}

-- the four way numbers of a word, the newest first: two bits each, from bit 0 up
abbrev pub numbers : ℕ → List ℕ
numbers w = (w % 4) ∷ (w / 4 % 4) ∷ (w / 16 % 4) ∷ (w / 64 % 4) ∷ []

-- the numbers that differ from x, in their order
abbrev pub without : ℕ → List ℕ → List ℕ
without x ys = filter (λ y. not (y == x)) ys

-- the word of some numbers, the first lowest
abbrev pub pack : List ℕ → ℕ
pack [] = 0
pack (x ∷ xs) = x + 4 * pack xs

-- the word after a use or a load of a way: the way first, then the first three of the old numbers that differ from it
abbrev pub renewed : ℕ → ℕ → ℕ
renewed w x = pack ((x % ways) ∷ take 3 (without (x % ways) (numbers w)))

-- a word after one more number: its numbers go up by a place, and the highest goes
abbrev pub shift : ℕ → ℕ → ℕ
shift w y = w % 64 * 4 + y

-- the candidates for a choice: the numbers from the oldest to the newest, then every way from the lowest
abbrev pub oldest_first : ℕ → List ℕ
oldest_first w = reverse (numbers w) ++ range_with_len 0 ways

-- the way asked for that is the oldest of the numbers, or else the lowest
abbrev pub oldest : ℕ → List Bool → ℕ
oldest w ws = first_asked ws (oldest_first w)

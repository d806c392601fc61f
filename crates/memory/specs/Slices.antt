-- A list of words as the blocks of a memory.
use Rattle.std.specs.Prelude.{ℕ, ◌+◌, ◌*◌, ◌/◌, ◌≤◌, min, List, [], ◌∷◌, ◌++◌, length, if◌then◌else◌, nat_lt, slice_index, take, drop}
use Rattle.std.proofs.Math.Nat.{min-le_right}
use Rattle.base.specs.Sizes.{block_words, most_blocks}
use Rattle.base.specs.declared.block.PhysicalBlock.{PhysicalBlock}

-- how many blocks the words make: the whole ones, and no more than a memory has
abbrev pub whole_blocks : List ℕ → ℕ
whole_blocks ws = min (length ws / block_words) most_blocks

-- the words of block b
abbrev pub block_at : List ℕ → ℕ → List ℕ
block_at ws b =
    slice_index ws (block_words * b)
    ∷ slice_index ws (block_words * b + 1)
    ∷ slice_index ws (block_words * b + 2)
    ∷ slice_index ws (block_words * b + 3)
    ∷ []

-- the four words from place p on replaced, and no other
abbrev pub four_at : List ℕ → ℕ → List ℕ → List ℕ
four_at ws p vs = take p ws ++ (vs ++ drop (p + block_words) ws)

-- the words after a write of block b: its four words replaced, and none where it is refused
abbrev pub stored : List ℕ → PhysicalBlock → List ℕ → List ℕ
stored ws b vs = if nat_lt b.0 (whole_blocks ws) then four_at ws (block_words * b.0) vs else ws

-- they are no more than a memory has
pub few_blocks : (ws : List ℕ) → whole_blocks ws ≤ most_blocks
few_blocks ws = min-le_right (length ws / block_words) most_blocks

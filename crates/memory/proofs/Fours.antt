-- What a write of four words leaves in each block.
use Rattle.std.proofs.Common.{◌≡◌, ℕ, ◌+◌, ◌*◌, ◌<◌, ◌≤◌, Bool, true, false, eqb, ◌≢◌, List, [], ◌∷◌, length, get_or, refl, add-zero, arith}
use Rattle.std.specs.Prelude.{if◌then◌else◌}
use Rattle.std.proofs.lemmas.Bool.{eqb-false, eqb-true}
use Rattle.std.proofs.lemmas.Grind.{common_steps}
use Rattle.base.specs.Sizes.{block_words}
use Rattle.memory.specs.Slices.{block_at, four_at, whole_blocks}
use Rattle.memory.specs.Words.{put}

module _ (ws vs : List ℕ) (p : ℕ) (long : length vs ≡ block_words) (within : p + 3 < length ws) where
  -- the four are what was written
  four_same : (i : ℕ) → i < block_words → get_or (four_at ws p vs) (p + i) 0 ≡ get_or vs i 0
  four_same i h = grind (arith, common_steps)

  -- the words before and after them are as they were
  four_before : (j : ℕ) → j < p → get_or (four_at ws p vs) j 0 ≡ get_or ws j 0
  four_before j h = grind (arith, common_steps)

  four_after : (j : ℕ) → p + block_words ≤ j → get_or (four_at ws p vs) j 0 ≡ get_or ws j 0
  four_after j h = grind (arith, common_steps)

-- a list of length four is its four words
words_are : (vs : List ℕ) → length vs ≡ block_words → get_or vs 0 0 ∷ get_or vs 1 0 ∷ get_or vs 2 0 ∷ get_or vs 3 0 ∷ [] ≡ vs
words_are (a ∷ b ∷ c ∷ d ∷ []) e = refl
words_are _ e = absurd (omega arith)

module _ (ws vs : List ℕ) (b : ℕ) (long : length vs ≡ block_words) (h : b < whole_blocks ws) where
  abbrev p : ℕ
  p = block_words * b

  -- the block is in the list
  within : p + 3 < length ws
  within = omega arith

  -- it holds what was written
  same : block_at (four_at ws p vs) b ≡ vs
  same =
      simp (rw add-zero at (four_same ws vs p long within 0 (omega arith)), four_same ws vs p long within 1 (omega arith), four_same ws vs p long within 2 (omega arith), four_same ws vs p long within 3 (omega arith))
      (words_are vs long)

  -- a word of another block is as it was
  away : (k i : ℕ) → k ≢ b → i < block_words → get_or (four_at ws p vs) (block_words * k + i) 0 ≡ get_or ws (block_words * k + i) 0
  away k i n l = grind (arith, four_before ws vs p long within, four_after ws vs p long within)

  apart : (k : ℕ) → k ≢ b → block_at (four_at ws p vs) k ≡ block_at ws k
  apart k n =
      simp (rw add-zero at (away k 0 n (omega arith)), away k 1 n (omega arith), away k 2 n (omega arith), away k 3 n (omega arith))

  each_by : (k : ℕ) (t : Bool) → eqb k b ≡ t → block_at (four_at ws p vs) k ≡ (if t then vs else block_at ws k)
  each_by k true e = rw (eqb-true k b e) same
  each_by k false e = apart k (eqb-false k b e)

  -- block b is replaced, and no other
  pub four_put : block_at (four_at ws p vs) ≡ put (block_at ws) b vs
  four_put i k = each_by k (eqb k b) refl i

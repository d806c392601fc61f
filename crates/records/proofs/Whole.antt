-- The words of bytes.
use Rattle.std.proofs.Common.{◌≡◌, ℕ, zero, suc, ◌*◌, ◌/◌, ◌≤◌, List, [], ◌∷◌, length, map, ap, w32, refl, arith}
use Rattle.records.specs.Bytes.{words_of}
use Rattle.std.specs.Int.{from_be_bytes}
use Rattle.std.specs.Simd.{first_chunks}

-- the words of the runs of four bytes
chunk_words : (n : ℕ) (bs : List ℕ) → n ≡ length bs / 4 → map (from_be_bytes w32) (first_chunks 4 n bs) ≡ words_of bs
chunk_words zero [] e = refl
chunk_words zero (a ∷ []) e = refl
chunk_words zero (a ∷ b ∷ []) e = refl
chunk_words zero (a ∷ b ∷ c ∷ []) e = refl
chunk_words zero (a ∷ b ∷ c ∷ d ∷ rest) e = absurd (omega arith)
chunk_words (suc n) [] e = absurd (omega arith)
chunk_words (suc n) (a ∷ []) e = absurd (omega arith)
chunk_words (suc n) (a ∷ b ∷ []) e = absurd (omega arith)
chunk_words (suc n) (a ∷ b ∷ c ∷ []) e = absurd (omega arith)
chunk_words (suc n) (a ∷ b ∷ c ∷ d ∷ rest) e = ap (λ (ws : List ℕ). from_be_bytes w32 (a ∷ b ∷ c ∷ d ∷ []) ∷ ws) (chunk_words n rest (omega arith))

pub words_chunks : (bs : List ℕ) → map (from_be_bytes w32) (first_chunks 4 (length bs / 4) bs) ≡ words_of bs
words_chunks bs = chunk_words (length bs / 4) bs refl

-- four bytes make a word
pub words_length : (bs : List ℕ) → 4 * length (words_of bs) ≤ length bs
words_length [] = omega arith
words_length (a ∷ []) = omega arith
words_length (a ∷ b ∷ []) = omega arith
words_length (a ∷ b ∷ c ∷ []) = omega arith
words_length (a ∷ b ∷ c ∷ d ∷ rest) = omega (arith, words_length rest)

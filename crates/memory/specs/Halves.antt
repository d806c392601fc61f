-- Two memories as one: even blocks in the first, odd ones in the second.
use Rattle.std.specs.Prelude.{◌≡◌, ℕ, ◌*◌, ◌/◌, ◌%◌, ◌<◌, ◌≤◌, min, Bool, true, false, length, ◌==◌, Ok, Err, Result, if◌then◌else◌, nat_lt}
use Rattle.std.proofs.Math.Nat.{min-le_right}
use Rattle.std.proofs.Common.{arith}
use Rattle.base.specs.Sizes.{block_words, most_blocks}
use Rattle.base.specs.declared.block.PhysicalBlock.{PhysicalBlock}
use Rattle.memory.specs.Words.{Blocks}
use Rattle.memory.specs.declared.fault.MemoryFault.{MemoryFault}
use Rattle.memory.specs.declared.fault.MemoryFault.TheVariants.{Outside}
use Rattle.memory.specs.declared.pair.Half.{Half}
use Rattle.memory.specs.declared.pair.Half.TheVariants.{Even, Odd}

-- whether block b is in the first
abbrev pub is_even : ℕ → Bool
is_even b = b % 2 == 0

-- which of the two block b is in, and which of its blocks it is
abbrev pub half_of : PhysicalBlock → Half
half_of b = if is_even b.0 then Even (record { 0 = b.0 / 2 }) else Odd (record { 0 = b.0 / 2 })

-- that of a block below n, and a fault for any other
abbrev pub halving : ℕ → PhysicalBlock → Result Half MemoryFault
halving n b = if nat_lt b.0 n then Ok (half_of b) else Err (Outside b)

-- how many blocks: twice as many as the smaller has, and no more than a memory has
abbrev pub pair_count : ℕ → ℕ → ℕ
pair_count m n = min (2 * min m n) most_blocks

-- the words of block b
abbrev pub pair_holds : Blocks → Blocks → Blocks
pair_holds f g b = if is_even b then f (b / 2) else g (b / 2)

-- they are no more than a memory has
pub pair_few : (m n : ℕ) → pair_count m n ≤ most_blocks
pair_few m n = min-le_right (2 * min m n) most_blocks

four_by : (t : Bool) (f g : Blocks) (k : ℕ) → length (f k) ≡ block_words → length (g k) ≡ block_words → length (if t then f k else g k) ≡ block_words
four_by true f g k p q = p
four_by false f g k p q = q

-- blocks of four words make blocks of four words
pub pair_four : (m n : ℕ) (f g : Blocks) →
    ((k : ℕ) → k < m → length (f k) ≡ block_words) →
    ((k : ℕ) → k < n → length (g k) ≡ block_words) →
    (b : ℕ) → b < pair_count m n → length (pair_holds f g b) ≡ block_words
pair_four m n f g p q b h = four_by (is_even b) f g (b / 2) (p (b / 2) (omega arith)) (q (b / 2) (omega arith))

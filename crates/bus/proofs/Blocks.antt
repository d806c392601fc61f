-- What a memory's reads and writes come to in the rules.
use Rattle.std.proofs.Common.{◌≡◌, ℕ, ◌<◌, Bool, true, false, cond, eqb, ltb, List, refl, ap, ◌∙◌, arith}
use Rattle.std.proofs.lemmas.Bool.{eqb-true, lt-ltb}
use Rattle.base.specs.declared.block.PhysicalBlock.{PhysicalBlock}
use Rattle.memory.specs.Words.{put, written}
use Rattle.memory.specs.declared.memory.Memory as memories
use Rattle.rules.specs.Basic.{pick}
use Rattle.rules.specs.Cache.{zeros}
use Rattle.rules.specs.Bus.{Blocks, put_block}
use Rattle.bus.specs.Passes.{blocks_of}

-- blocks, and zeros past a count
abbrev below : ℕ → Blocks → Blocks
below n f = λ k. pick (ltb k n) (f k) zeros

module _ {S : Type 0} (s : memories.Ghosts S) where
  -- a block below the count is as the memory holds it
  pub block_held : (x : S) (b : ℕ) → b < s.count x → blocks_of s x b ≡ s.holds x b
  block_held x b lt = ap (λ t. pick t (s.holds x b) zeros) (lt-ltb b (s.count x) lt)

  -- a call that leaves count and blocks leaves their meaning
  pub same_blocks : (x y : S) → s.count y ≡ s.count x → s.holds y ≡ s.holds x → blocks_of s y ≡ blocks_of s x
  same_blocks x y ec eh = ap (λ n. below n (s.holds y)) ec ∙ ap (below (s.count x)) eh

  -- a write of a block below the count puts that block
  pub written_blocks : (x y : S) (b : PhysicalBlock) (ws : List ℕ) → b.0 < s.count x → s.count y ≡ s.count x
      → s.holds y ≡ written (s.count x) (s.holds x) b ws → blocks_of s y ≡ put_block (blocks_of s x) b.0 ws
  written_blocks x y b ws lt ec eh =
      ap (λ n. below n (s.holds y)) ec
      ∙ ap (below (s.count x)) (eh ∙ ap (λ t. cond t (put (s.holds x) b.0 ws) (s.holds x)) (lt-ltb b.0 (s.count x) lt))
      ∙ (λ j k. at k (eqb k b.0) refl j)
    where
      at : (k : ℕ) (t : Bool) → eqb k b.0 ≡ t → pick (ltb k (s.count x)) (cond t ws (s.holds x k)) zeros ≡ pick t ws (pick (ltb k (s.count x)) (s.holds x k) zeros)
      at k true e = ap (λ t. pick t ws zeros) (lt-ltb k (s.count x) (let z : k ≡ b.0 = eqb-true k b.0 e in omega arith))
      at k false e = refl

-- A way found by counting up is that of the search's definition.
use Rattle.std.proofs.Common.{◌≡◌, ℕ, ◌%◌, ◌<◌, true, Some, None, sym, ap, ◌∙◌}
use Rattle.tables.specs.declared.types.Processor.{Processor}
use Rattle.rules.specs.Sizes.{v_sets, v_ways, r_sets, r_ways}
use Rattle.rules.specs.Basic.{first_below}
use Rattle.rules.specs.Cache.{hits, holds, line_at, entry_at, v_find, r_find}
use Rattle.caches.proofs.First.{first_found}

-- n is the block's number as the code has it, w the way reached
pub line_found : (p : Processor) (b n w : ℕ) → n ≡ b → w < v_ways → first_below w (λ k. hits b (line_at p (n % v_sets) k)) ≡ None → true ≡ hits b (line_at p (n % v_sets) w) → Some w ≡ v_find p b
line_found p b n w e lt h f =
    sym (first_found v_ways (λ k. hits b (line_at p (n % v_sets) k)) w lt h (sym f)) ∙ ap (λ m. first_below v_ways (λ k. hits b (line_at p (m % v_sets) k))) e

pub line_missed : (p : Processor) (b n w : ℕ) → n ≡ b → w ≡ v_ways → first_below w (λ k. hits b (line_at p (n % v_sets) k)) ≡ None → None ≡ v_find p b
line_missed p b n w e lt h =
    sym h ∙ ap (λ m. first_below m (λ k. hits b (line_at p (n % v_sets) k))) lt ∙ ap (λ m. first_below v_ways (λ k. hits b (line_at p (m % v_sets) k))) e

pub entry_found : (p : Processor) (b n w : ℕ) → n ≡ b → w < r_ways → first_below w (λ k. holds b (entry_at p (n % r_sets) k)) ≡ None → true ≡ holds b (entry_at p (n % r_sets) w) → Some w ≡ r_find p b
entry_found p b n w e lt h f =
    sym (first_found r_ways (λ k. holds b (entry_at p (n % r_sets) k)) w lt h (sym f)) ∙ ap (λ m. first_below r_ways (λ k. holds b (entry_at p (m % r_sets) k))) e

pub entry_missed : (p : Processor) (b n w : ℕ) → n ≡ b → w ≡ r_ways → first_below w (λ k. holds b (entry_at p (n % r_sets) k)) ≡ None → None ≡ r_find p b
entry_missed p b n w e lt h =
    sym h ∙ ap (λ m. first_below m (λ k. holds b (entry_at p (n % r_sets) k))) lt ∙ ap (λ m. first_below r_ways (λ k. holds b (entry_at p (m % r_sets) k))) e

-- A refused call leaves the board as it was.
use Rattle.std.proofs.Common.{◌≡◌, ℕ, zero, suc, length, Some, None, refl}
use Rattle.rules.specs.Calls.{Board, Step, refer, ref_number, make_ref, switch_by, switch_number, remap_by, remap_number, take_bus, take_number, release_bus, release_number, device_read_by, device_write_by, device_number}
use Rattle.rules.specs.Run.{reading, writing, switching, entering, erasing, taking, releasing, device_reading, device_writing, line_reading, entry_reading, counts_reading}
use Rattle.rules.specs.Laws.{RefusalsChangeNothing}

-- a step by its number, where 0 is accepted
by_number : (b : Board) (f : ℕ → Step) → (f 0).number ≡ 0 → ((k : ℕ) → (f (suc k)).after ≡ b) → (n : ℕ) → ((f n).number ≡ 0 → ⊥) → (f n).after ≡ b
by_number b f z k zero r = absurd (r z)
by_number b f z k (suc n) r = k n

pub refusals_change_nothing : RefusalsChangeNothing
refusals_change_nothing rs (reading i a) b = by_number b (λ n. refer n rs b (make_ref i a None)) refl (λ k. refl) (ref_number b i a (make_ref i a None))
refusals_change_nothing rs (writing i a x) b = by_number b (λ n. refer n rs b (make_ref i a (Some x))) refl (λ k. refl) (ref_number b i a (make_ref i a (Some x)))
refusals_change_nothing rs (switching i q) b = by_number b (λ n. switch_by n b i q) refl (λ k. refl) (switch_number b i q)
refusals_change_nothing rs (entering q g f) b = by_number b (λ n. remap_by n b q g (Some f)) refl (λ k. refl) (remap_number b q g f)
refusals_change_nothing rs (erasing q g) b = by_number b (λ n. remap_by n b q g None) refl (λ k. refl) (remap_number b q g 0)
refusals_change_nothing rs taking b = by_number b (λ n. take_bus n b) refl (λ k. refl) (take_number b)
refusals_change_nothing rs (releasing t) b = by_number b (λ n. release_bus n b) refl (λ k. refl) (release_number b t)
refusals_change_nothing rs (device_reading t x k) b = by_number b (λ n. device_read_by n b x) refl (λ k. refl) (device_number b t x k)
refusals_change_nothing rs (device_writing t x ws) b = by_number b (λ n. device_write_by n b x ws) refl (λ k. refl) (device_number b t x (length ws))
refusals_change_nothing rs (line_reading i s w) b = λ r. refl
refusals_change_nothing rs (entry_reading i s w) b = λ r. refl
refusals_change_nothing rs (counts_reading i) b = λ r. refl

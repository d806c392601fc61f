-- What stands at each place of a field.
use Rattle.std.proofs.Common.{◌≡◌, ℕ, zero, suc, ◌+◌, ◌-◌, ◌*◌, ◌/◌, ◌%◌, ◌^◌, ◌<◌, length, get_or, sym, refl, ap, ◌∙◌, arith}
use Rattle.std.proofs.lemmas.Nat.{pow-add}
use native.Mathlib.Nat.{pow-suc}
use Rattle.lines.specs.Hex.{digit_of, hex_field}

pub digit_at : (w n end k : ℕ) → k < w → get_or (hex_field w n end) k 0 ≡ digit_of (n / 16 ^ (w - 1 - k) % 16)
digit_at zero n end k h = absurd (omega arith)
digit_at (suc w) n end zero h = ap (λ p. digit_of (n / 16 ^ p % 16)) (omega arith)
digit_at (suc w) n end (suc k) h =
    digit_at w n end k (omega arith) ∙ ap (λ p. digit_of (n / 16 ^ p % 16)) (omega arith)

pub end_at : (w n end : ℕ) → get_or (hex_field w n end) w 0 ≡ end
end_at zero n end = refl
end_at (suc w) n end = end_at w n end

pub length-hex_field : (w n end : ℕ) → length (hex_field w n end) ≡ w + 1
length-hex_field zero n end = refl
length-hex_field (suc w) n end = omega (arith, length-hex_field w n end)

-- a shift by whole digits
pub shifted : (k : ℕ) → 2 ^ (4 * k) ≡ 16 ^ k
shifted zero = refl
shifted (suc k) =
    ap (λ m. 2 ^ m) (omega arith) ∙ pow-add 2 (4 * k) 4 ∙ ap (λ m. m * 16) (shifted k) ∙ sym (pow-suc 16 k)

-- Numbers in hexadecimal digits of a fixed width.
use Rattle.std.specs.Prelude.{ℕ, zero, suc, ◌+◌, ◌/◌, ◌%◌, ◌^◌, if◌then◌else◌, List, [], ◌∷◌, ◌++◌, nat_lt}

-- the upper-case hexadecimal digit of a number below 16
abbrev pub digit_of : ℕ → ℕ
digit_of n = if nat_lt n 10 then 48 + n else 55 + n

-- the last w hexadecimal digits of n
abbrev pub hex : ℕ → ℕ → List ℕ
hex zero n = []
hex (suc w) n = digit_of (n / 16 ^ w % 16) ∷ hex w n

-- w digits and the byte after them
abbrev pub hex_field : ℕ → ℕ → ℕ → List ℕ
hex_field w n end = hex w n ++ (end ∷ [])

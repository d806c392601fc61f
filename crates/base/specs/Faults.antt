-- The numbers of refusals.
use Rattle.std.specs.Prelude.{ℕ}

-- the greatest of them
abbrev pub last_number : ℕ
last_number = 19

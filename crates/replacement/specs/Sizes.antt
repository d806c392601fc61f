-- The size of a set.
use Rattle.std.specs.Prelude.{ℕ}

-- the ways of a set
abbrev pub ways : ℕ
ways = 4

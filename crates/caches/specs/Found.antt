-- What a search answers.
use Rattle.std.specs.Prelude.{ℕ, ◌<◌, Some, None, Option}

-- a way found is below n
abbrev pub FoundBelow : ℕ → Option ℕ → Type 0
FoundBelow n None = Unit {0}
FoundBelow n (Some w) = w < n

-- The levels at which a reference finds its word.
use Rattle.std.specs.Prelude.{ℕ}
use Rattle.lines.specs.declared.line.Level.{Level}
use Rattle.lines.specs.declared.line.Level.TheVariants.{VHit, RHit, Synonym, Miss, NoReference}

-- the digit that a line shows
abbrev pub level_number : Level → ℕ
level_number VHit = 0
level_number RHit = 1
level_number Synonym = 2
level_number Miss = 3
level_number NoReference = 4

-- A replacement rule as functions, and its law.
use Rattle.std.specs.Prelude.{◌≡◌, ℕ, Bool, true, false, List, length, slice_index_or}
use Rattle.replacement.specs.Sizes.{ways}
use Rattle.replacement.specs.Recent.{oldest, renewed}

pub record Rule : Type 0 where
  pub first : ℕ
  pub used : ℕ → ℕ → ℕ
  pub loaded : ℕ → ℕ → ℕ
  pub choice : ℕ → List Bool → ℕ

-- the choice is one of the ways asked for
pub record Lawful (r : Rule) : Type 0 where
  pub chosen : (word : ℕ) (ws : List Bool) (w : ℕ) → length ws ≡ ways → slice_index_or ws w false ≡ true → slice_index_or ws (r.choice word ws) false ≡ true

-- least recently used
abbrev pub lru : Rule
lru = record { first = 27; used = renewed; loaded = renewed; choice = oldest }

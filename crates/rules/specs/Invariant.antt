-- What holds of one processor's two tables at all times.
use Rattle.std.specs.Prelude.{◌≡◌, ℕ, ◌+◌, Bool, true, false, List, [], ◌∷◌, length}
use Rattle.rules.specs.Sizes.{v_sets, v_ways, r_sets, r_ways}
use Rattle.tables.specs.declared.types.Place.{Place}
use Rattle.tables.specs.declared.types.VLine.{VLine}
use Rattle.tables.specs.declared.types.REntry.{REntry}
use Rattle.tables.specs.declared.types.Processor.{Processor}
use Rattle.rules.specs.Cache.{is_empty, is_absent}

abbrev pub placed : ℕ → ℕ → Place
placed s w = record { set = s; way = w }

-- a line and an entry, by what they say of themselves
abbrev pub Filled : VLine → Type 0
Filled l = is_empty l.state ≡ false

abbrev pub Present : REntry → Type 0
Present e = is_absent e.state ≡ false

-- the table's shape
abbrev pub Rows : {A : Type 0} → ℕ → List (List A) → Type 0
Rows n [] = Unit {0}
Rows n (r ∷ rs) = (length r ≡ n) × Rows n rs

pub record Shaped (p : Processor) : Type 0 where
  pub v_rows : Rows v_ways p.v
  pub r_rows : Rows r_ways p.r
  pub v_sets : length p.v ≡ v_sets
  pub r_sets : length p.r ≡ r_sets

-- present entries
abbrev pub one : Bool → ℕ
one true = 0
one false = 1

abbrev pub in_row : List REntry → ℕ
in_row [] = 0
in_row (e ∷ es) = one (is_absent e.state) + in_row es

abbrev pub resident : List (List REntry) → ℕ
resident [] = 0
resident (r ∷ rs) = in_row r + resident rs

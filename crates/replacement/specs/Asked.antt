-- The choice among the ways asked for.
use Rattle.std.specs.Prelude.{ℕ, Bool, false, List, find, unwrap_or, slice_index_or}

-- the first of the candidates that is asked for, or 0 where none is
abbrev pub first_asked : List Bool → List ℕ → ℕ
first_asked ws cs = unwrap_or (find (λ c. slice_index_or ws c false) cs) 0

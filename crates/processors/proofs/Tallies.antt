-- Present entries, in the library's word for a count.
use Rattle.std.proofs.Common.{◌≡◌, ℕ, ◌+◌, ◌≤◌, Bool, true, false, not, cond, List, [], ◌∷◌, length, count_by, sum_by, flat_map, refl, sym, arith}
use Rattle.std.proofs.lemmas.List.Recursion.{is_count_by}
use Rattle.std.proofs.lemmas.List.Sums.{sum_by-append}
use Rattle.tables.specs.declared.types.REntry.{REntry}
use Rattle.rules.specs.Cache.{is_absent}
use Rattle.rules.specs.Invariant.{one, in_row, resident}

one_more : (t : Bool) (n : ℕ) → one t + n ≡ cond (not t) (1 + n) n
one_more true n = omega arith
one_more false n = refl

row_counted : (row : List REntry) → in_row row ≡ count_by (λ e. not (is_absent e.state)) row
row_counted = is_count_by in_row (λ e. not (is_absent e.state)) refl (λ e es. one_more (is_absent e.state) (in_row es))

pub rows_counted : (sets : List (List REntry)) → count_by (λ e. not (is_absent e.state)) (flat_map (λ row. row) sets) ≡ resident sets
rows_counted [] = refl
rows_counted (row ∷ rows) = let a = sum_by-append (λ (e : REntry). cond (not (is_absent e.state)) 1 0) row (flat_map (λ r. r) rows) in omega (arith, a, row_counted row, rows_counted rows)

-- the same count, as a sum of what each entry adds
pub row_summed : (row : List REntry) → sum_by (λ e. cond (not (is_absent e.state)) 1 0) row ≡ in_row row
row_summed row = sym (row_counted row)

-- an entry counts for 1 at most
one_few : (t : Bool) → one t ≤ 1
one_few true = omega arith
one_few false = omega arith

pub row_few : (row : List REntry) → in_row row ≤ length row
row_few [] = omega arith
row_few (e ∷ es) = omega (arith, one_few (is_absent e.state), row_few es)

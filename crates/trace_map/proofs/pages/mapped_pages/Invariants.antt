use Rattle.std.proofs.Common.{◌≡◌, ◌++◌, vec_items}
use Rattle.std.specs.List.{flat_map, range_with_len}
use Rattle.trace_map.specs.Pages.{row_of, rows_of}
use Rattle.trace_map.proofs.pages.mapped_pages.Given as goal

abbrev pub invariant-loop-p : goal.invariant-loop-p
invariant-loop-p g l = g.M.Map.sound l.fn.map → g.M.Map.sound l.map × (g.M.Map.frame l.map ≡ g.M.Map.frame l.fn.map)
    × (vec_items l.rows ≡ flat_map (rows_of (g.M.Map.frame l.fn.map)) (range_with_len 0 l.p))

abbrev pub invariant-loop-g : goal.invariant-loop-g
invariant-loop-g g l = g.M.Map.sound l.fn.map → g.M.Map.sound l.map × (g.M.Map.frame l.map ≡ g.M.Map.frame l.fn.map)
    × (vec_items l.rows ≡ flat_map (rows_of (g.M.Map.frame l.fn.map)) (range_with_len 0 l.p)
    ++ flat_map (λ n. row_of l.p n (g.M.Map.frame l.fn.map l.p n)) (range_with_len 0 l.g))

use Rattle.std.proofs.Common.{◌≡◌, take}
use Rattle.trace_map.specs.Played.{played_all}
use Rattle.trace_map.proofs.play.play_all.Given as goal

abbrev pub invariant-loop-next : goal.invariant-loop-next
invariant-loop-next g l = g.M.Map.sound l.fn.map → g.M.Map.sound l.map × (g.M.Map.frame l.map ≡ played_all (take l.next-index l.records) (g.M.Map.frame l.fn.map))

use Rattle.std.proofs.Common.{arith, map}
use Rattle.std.proofs.lemmas.Grind.{common_steps}
use Rattle.std.proofs.lemmas.List.Edits.{map_over_more}
use Rattle.caches.specs.Swapped.{swapped}
use Rattle.caches.proofs.swap.swap_sets.Goals as goal

pub loop-lines-preserved : goal.loop-lines-preserved
loop-lines-preserved c = grind (arith, common_steps, map_over_more (map (swapped c.args.page)))

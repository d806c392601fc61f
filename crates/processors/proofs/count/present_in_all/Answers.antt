use Rattle.std.proofs.Common.{arith}
use Rattle.std.proofs.lemmas.List.{at_drop_all}
use Rattle.rules.specs.Sizes.{r_ways}
use Rattle.rules.specs.Invariant.{resident}
use Rattle.processors.proofs.count.present_in_all.Goals as goal

pub overflow_add-count : goal.overflow_add-count
unfolding r_ways
overflow_add-count c = omega arith

pub returns : goal.returns
returns c = let r = at_drop_all resident c.args.sets.now c.loop-set.set-index (omega arith) in omega arith

use Rattle.rules.specs.Sizes.{r_sets}
use Rattle.caches.specs.Choice.{rule_of}
use Rattle.steps.proofs.Rooming.{rooms}
use Rattle.steps.proofs.room.make_room.Goals as goal

pub returns-clause-room : goal.returns-clause-room
unfolding r_sets
returns-clause-room g c =
    rooms (rule_of g.V.Rule c.args.rules.now.v) (rule_of g.R.Rule c.args.rules.now.r) c.args.p.now c.free_way-line.new.p c.free_child.new.p c.evict-replaced.new.p
    c.args.tag.0 c.args.block.0 c.from-set.result c.entry_way-entry_way.result c.free_way-line.result c.home-home.result c.entry_at-child.result c.evict-replaced.result
    c.free_way-line.ensures.set c.free_way-line.ensures.way c.free_way-line.ensures.processor
    c.from-set.ensures c.entry_way-entry_way.ensures.way c.entry_way-entry_way.ensures.within c.home-home.ensures.set c.home-home.ensures.way
    c.entry_at-child.ensures c.free_child.ensures c.evict-replaced.ensures.processor c.evict-replaced.ensures.answer

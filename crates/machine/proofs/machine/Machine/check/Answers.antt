use Rattle.std.proofs.Common.{refl, ap, ◌∙◌}
use Rattle.machine.specs.SetUp.{setup_of}
use Rattle.machine.proofs.Beginning.{setup_none, setup_some}
use Rattle.machine.proofs.machine.Machine.check.Goals as goal

pub returns-in-Some : goal.returns-in-Some
returns-in-Some g c = λ so. setup_some c.args.processors (g.S.Memory.count c.args.memory.now) _ _ (c.in-Some.ensures ∙ ap (setup_of c.args.processors) (c.count_blocks.ensures so)) refl

pub returns-in-None : goal.returns-in-None
returns-in-None g c = λ so. setup_none c.args.processors (g.S.Memory.count c.args.memory.now) _ (c.in-None.ensures ∙ ap (setup_of c.args.processors) (c.count_blocks.ensures so)) refl

use Rattle.rules.specs.Rule.{Lawful}
use Rattle.rules.specs.Run.{reading}
use Rattle.machine.specs.State.{rules_of}
use Rattle.machine.proofs.Lawful.{performs}
use Rattle.machine.proofs.machine.Machine.read.Goals as goal

pub returns : goal.returns
returns g c =
    let x = c.args.self.now in
    let lv : Lawful (rules_of g.M.Map g.S.Memory g.V.Rule g.R.Rule x).for_v = record { chosen = g.met.V.Rule.chosen x.rules.v } in
    let lr : Lawful (rules_of g.M.Map g.S.Memory g.V.Rule g.R.Rule x).for_r = record { chosen = g.met.R.Rule.chosen x.rules.r } in
    performs g.M.Map g.S.Memory g.V.Rule g.R.Rule (reading c.args.processor.0 c.args.address) x c.reference.new.self _ lv lr c.reference.ensures

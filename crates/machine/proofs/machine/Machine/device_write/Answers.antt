use Rattle.std.proofs.Common.{rules, sym, ◌∙◌}
use Rattle.std.proofs.lemmas.Result.{err_from_is_err_and}
use Rattle.faults.specs.declared.machine_fault.Caller.TheVariants.{Device}
use Rattle.machine.proofs.Besides.{told_beside}
use Rattle.machine.proofs.Transferring.{write_ends, write_fits, write_stops}
use Rattle.machine.proofs.machine.Machine.device_write.Goals as goal

pub returns-in_err-check_transfer-clause-call : goal.returns-in_err-check_transfer-clause-call
returns-in_err-check_transfer-clause-call g c =
    let p = err_from_is_err_and c.from_residual.result c.from_residual.ensures.1 in
    rw (p.1, p.2) (write_stops _ _ _ _ g.met.V.Rule.chosen g.met.R.Rule.chosen _ c.check_transfer.new.self c.args.tenure.now.machine c.args.block c.args.words.now _ c.in_err-check_transfer.ensures.found)

pub returns-in_err-map_err-clause-call : goal.returns-in_err-map_err-clause-call
returns-in_err-map_err-clause-call g c =
    let told = told_beside c.write.result c.map_err.result Device c.map_err.ensures.cases (λ e y q. search rules) in
    write_fits _ _ _ _ g.met.V.Rule.chosen g.met.R.Rule.chosen _ c.check_transfer.new.self c.args.tenure.now.machine c.args.block c.args.words.now c.in_ok-check_transfer.ensures.found _ _ _ c.write.result c.write.ensures.answer _ (sym c.in_err-map_err.was ∙ told)

pub returns-clause-call : goal.returns-clause-call
returns-clause-call g c =
    write_ends _ _ _ _ g.met.V.Rule.chosen g.met.R.Rule.chosen _ c.check_transfer.new.self c.args.tenure.now.machine c.args.block c.args.words.now c.in_ok-check_transfer.ensures.found
    c.invalidate.new.processors c.write.new.self _ c.count_up.new.count c.invalidate.ensures c.write.ensures.kept c.write.ensures.same c.write.ensures.blocks c.copy_from_slice.ensures.after c.count_up.ensures

use Rattle.std.proofs.Common.{rules, sym, ◌∙◌}
use Rattle.std.proofs.lemmas.Result.{err_from_is_err_and}
use Rattle.faults.specs.declared.machine_fault.Caller.TheVariants.{Device}
use Rattle.machine.proofs.Besides.{told_beside}
use Rattle.machine.proofs.Transferring.{read_ends, read_fits, read_stops}
use Rattle.machine.proofs.machine.Machine.device_read.Goals as goal

pub returns-in_err-check_transfer-clause-call : goal.returns-in_err-check_transfer-clause-call
returns-in_err-check_transfer-clause-call g c =
    let p = err_from_is_err_and c.from_residual.result c.from_residual.ensures.1 in
    rw (p.1, p.2) (read_stops _ _ _ _ g.met.V.Rule.chosen g.met.R.Rule.chosen _ c.check_transfer.new.self c.args.tenure.now.machine c.args.block c.args.words.now _ c.in_err-check_transfer.ensures.found)

pub returns-in_err-read-clause-call : goal.returns-in_err-read-clause-call
returns-in_err-read-clause-call g c =
    let told = told_beside c.read.result c.map_err.result Device c.map_err.ensures.cases (λ e y q. search rules) in
    read_fits _ _ _ _ g.met.V.Rule.chosen g.met.R.Rule.chosen _ c.check_transfer.new.self c.args.tenure.now.machine c.args.block c.args.words.now c.in_ok-check_transfer.ensures.found c.share-shared.new.processors c.share-shared.new.memory c.share-shared.result c.share-shared.ensures c.read.new.self c.read.result
    (record { kept = c.read.ensures.kept; answer = c.read.ensures.answer; same = c.read.ensures.same; blocks = c.read.ensures.blocks }) _ _ _ _ (sym c.in_err-read.was ∙ told)

pub returns-clause-call : goal.returns-clause-call
returns-clause-call g c =
    let told = told_beside c.read.result c.map_err.result Device c.map_err.ensures.cases (λ e y q. search rules) in
    read_ends _ _ _ _ g.met.V.Rule.chosen g.met.R.Rule.chosen _ c.check_transfer.new.self c.args.tenure.now.machine c.args.block c.args.words.now c.in_ok-check_transfer.ensures.found c.share-shared.new.processors c.share-shared.new.memory c.share-shared.result c.share-shared.ensures c.read.new.self c.read.result
    (record { kept = c.read.ensures.kept; answer = c.read.ensures.answer; same = c.read.ensures.same; blocks = c.read.ensures.blocks }) _ _ _ (sym c.in_ok-read.was ∙ told) c.copy_from_slice.ensures.after c.count_up.ensures

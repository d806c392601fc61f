use Rattle.std.proofs.lemmas.Result.{err_from_is_err_and}
use Rattle.machine.proofs.Switching.{switch_ends, switch_no_process, switch_no_processor, switch_not_admitted}
use Rattle.machine.proofs.machine.Machine.switch.Goals as goal

pub returns-in_err-admit : goal.returns-in_err-admit
returns-in_err-admit g c =
    let p = err_from_is_err_and c.from_residual.result c.from_residual.ensures.1 in
    rw (p.1, p.2) (switch_not_admitted _ _ _ _ g.met.V.Rule.chosen g.met.R.Rule.chosen _ _ _ _ c.in_err-admit.ensures)

pub returns-in_err-cpu : goal.returns-in_err-cpu
returns-in_err-cpu g c =
    let p = err_from_is_err_and c.from_residual-in_err-cpu.result c.from_residual-in_err-cpu.ensures.1 in
    rw (p.1, p.2) (switch_no_processor _ _ _ _ g.met.V.Rule.chosen g.met.R.Rule.chosen _ _ _ c.in_ok-admit.ensures _ c.in_err-cpu.ensures)

pub returns-then-process-ge-PROCESSES : goal.returns-then-process-ge-PROCESSES
returns-then-process-ge-PROCESSES g c =
    switch_no_process _ _ _ _ g.met.V.Rule.chosen g.met.R.Rule.chosen _ _ _ c.in_ok-admit.ensures _ c.in_ok-cpu.ensures c.if-process-ge-PROCESSES.true

pub returns : goal.returns
returns g c = switch_ends _ _ _ _ g.met.V.Rule.chosen g.met.R.Rule.chosen _ _ _ c.in_ok-admit.ensures _ c.in_ok-cpu.ensures c.if-process-ge-PROCESSES.false _ _ c.swap_lines.ensures c.count_up.ensures

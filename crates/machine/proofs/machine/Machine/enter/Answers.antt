use Rattle.std.proofs.Common.{rules, Some, sym, ◌∙◌}
use Rattle.std.proofs.lemmas.Result.{err_from_is_err_and}
use Rattle.faults.specs.declared.machine_fault.Caller.TheVariants.{Nobody}
use Rattle.machine.proofs.Besides.{told_beside}
use Rattle.machine.proofs.Remapping.{remap_ends, remap_not_admitted, remap_out_of_range}
use Rattle.machine.proofs.machine.Machine.enter.Goals as goal

pub returns-in_err-admit : goal.returns-in_err-admit
returns-in_err-admit g c =
    let p = err_from_is_err_and c.from_residual.result c.from_residual.ensures.1 in
    rw (p.1, p.2) (remap_not_admitted _ _ _ _ g.met.V.Rule.chosen g.met.R.Rule.chosen _ c.args.process.0 c.args.page (Some c.args.frame.0) _ c.in_err-admit.ensures)

pub returns-in_err-map_err : goal.returns-in_err-map_err
returns-in_err-map_err g c =
    let told = told_beside c.enter.result c.map_err.result Nobody c.map_err.ensures.cases (λ e y q. search rules) in
    let p = err_from_is_err_and c.from_residual-in_err-map_err.result c.from_residual-in_err-map_err.ensures.1 in
    rw p.1
    (remap_out_of_range _ _ _ _ g.met.V.Rule.chosen g.met.R.Rule.chosen _ c.args.process.0 c.args.page (Some c.args.frame.0) c.in_ok-admit.ensures c.enter.new.self c.enter.result
    (record { kept = c.enter.ensures.kept; answer = c.enter.ensures.answer; frames = c.enter.ensures.frames }) _ _ (sym c.in_err-map_err.was ∙ told) p.2)

pub returns : goal.returns
returns g c =
    let told = told_beside c.enter.result c.map_err.result Nobody c.map_err.ensures.cases (λ e y q. search rules) in
    remap_ends _ _ _ _ g.met.V.Rule.chosen g.met.R.Rule.chosen _ c.args.process.0 c.args.page (Some c.args.frame.0) c.in_ok-admit.ensures c.enter.new.self c.enter.result
    (record { kept = c.enter.ensures.kept; answer = c.enter.ensures.answer; frames = c.enter.ensures.frames }) _ _ (sym c.in_ok-map_err.was ∙ told) c.swap_pages.ensures c.count_up.ensures

use Rattle.std.proofs.lemmas.Result.{err_from_is_err_and}
use Rattle.machine.proofs.Tenures.{take_ends, take_held, take_unset}
use Rattle.machine.proofs.machine.Machine.take.Goals as goal

pub returns-in_err-is_set_up-clause-call : goal.returns-in_err-is_set_up-clause-call
returns-in_err-is_set_up-clause-call g c =
    let p = err_from_is_err_and c.from_residual.result c.from_residual.ensures.1 in
    rw (p.1, p.2) (take_unset _ _ _ _ g.met.V.Rule.chosen g.met.R.Rule.chosen _ _ c.in_err-is_set_up.ensures)

pub returns-then-self-clause-call : goal.returns-then-self-clause-call
returns-then-self-clause-call g c = take_held _ _ _ _ g.met.V.Rule.chosen g.met.R.Rule.chosen _ c.in_ok-is_set_up.ensures c.if-self.true

pub returns-clause-call : goal.returns-clause-call
returns-clause-call g c = take_ends _ _ _ _ g.met.V.Rule.chosen g.met.R.Rule.chosen _ c.in_ok-is_set_up.ensures c.if-self.false

use Rattle.std.proofs.Common.{ℕ, refl, ap, ◌∙◌}
use Rattle.std.proofs.lemmas.Result.{err_from_is_err_and}
use Rattle.rules.specs.Sizes.{v_sets, v_ways}
use Rattle.rules.specs.Bus.{proc_at}
use Rattle.rules.specs.Cache.{line_at}
use Rattle.machine.proofs.Readings.{reading_refused, reading_told}
use Rattle.machine.proofs.machine.Machine.line.Goals as goal

pub returns-in_err-cpu : goal.returns-in_err-cpu
unfolding v_sets v_ways
returns-in_err-cpu g c =
    let p = err_from_is_err_and c.from_residual.result c.from_residual.ensures.1 in
    rw (p.1, p.2) (reading_refused _ _ _ _ g.met.V.Rule.chosen g.met.R.Rule.chosen _ c.args.processor _ _ refl _ (λ few. let u = c.in_err-cpu.ensures few in (u.number, u.fault)))

pub returns : goal.returns
unfolding v_sets v_ways
returns g c =
    let l = c.in_ok-cpu.ensures in
    reading_told _ _ _ _ g.met.V.Rule.chosen g.met.R.Rule.chosen _ c.args.processor _ _ refl l.number _ _
    (c.line_at.ensures l.set l.way ∙ ap (λ (z : ℕ). line_at (proc_at c.args.self.now.processors z) c.args.set c.args.way) l.place)

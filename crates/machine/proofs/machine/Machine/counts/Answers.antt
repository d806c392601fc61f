use Rattle.std.proofs.Common.{ℕ, refl, ap, ◌∙◌}
use Rattle.std.proofs.lemmas.Result.{err_from_is_err_and}
use Rattle.rules.specs.Bus.{proc_at}
use Rattle.rules.specs.Invariant.{resident}
use Rattle.machine.proofs.Readings.{counts_none, counts_one, reading_no_processor, reading_not_set_up, reading_tells}
use Rattle.machine.proofs.machine.Machine.counts.Goals as goal

pub returns-in_err-is_set_up : goal.returns-in_err-is_set_up
returns-in_err-is_set_up g c =
    let p = err_from_is_err_and c.from_residual.result c.from_residual.ensures.1 in
    rw (p.1, p.2) (reading_not_set_up _ _ _ _ g.met.V.Rule.chosen g.met.R.Rule.chosen _ c.args.processor _ _ refl _ c.in_err-is_set_up.ensures)

pub returns-in_err-cpu : goal.returns-in_err-cpu
returns-in_err-cpu g c =
    let p = err_from_is_err_and c.from_residual-in_err-cpu.result c.from_residual-in_err-cpu.ensures.1 in
    rw (p.1, p.2) (reading_no_processor _ _ _ _ g.met.V.Rule.chosen g.met.R.Rule.chosen _ c.args.processor _ _ refl c.in_ok-is_set_up.ensures _ c.in_err-cpu.ensures (counts_none _ _))

pub returns : goal.returns
returns g c =
    let x = c.args.self.now in
    let l = c.in_ok-cpu.ensures in
    reading_tells _ _ _ _ g.met.V.Rule.chosen g.met.R.Rule.chosen x c.args.processor _ _ refl c.in_ok-is_set_up.ensures (counts_one _ _ l.below) _ _
    (λ j. record {
      fetched = (proc_at x.processors (l.place j)).counts.fetched;
      resident = (c.resident_blocks.ensures ∙ ap (λ (z : ℕ). resident (proc_at x.processors z).r) l.place) j;
      replaced = (proc_at x.processors (l.place j)).counts.replaced;
      invalidated = (proc_at x.processors (l.place j)).counts.invalidated;
    })

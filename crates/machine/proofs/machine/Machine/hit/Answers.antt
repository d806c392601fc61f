use Rattle.std.proofs.Common.{ℕ, ◌<◌, Ok, Err, set, sym, subst}
use lib.Seq.{set-get_or}
use Rattle.rules.specs.Bus.{no_processor}
use Rattle.std.proofs.lemmas.Result.{err_from_is_err_and}
use Rattle.rules.specs.Sizes.{v_sets}
use Rattle.rules.proofs.Sizes.{v_set_in}
use Rattle.machine.specs.References.{ref_of}
use Rattle.machine.proofs.Ending.{finish_at}
use Rattle.machine.proofs.Ends.{one_more}
use Rattle.machine.proofs.Hitting.{few, hit_claim, hit_ends, hit_line, hit_stops, way}
use Rattle.machine.proofs.machine.Machine.hit.Goals as goal

pub returns-in_err-sent : goal.returns-in_err-sent
returns-in_err-sent g c = λ f A found.
    let x = c.args.self.now in
    let r = c.args.r in
    let w = c.args.way in
    let ec = c.cpu-cpu.ensures.value (few g.M.Map g.S.Memory g.V.Rule g.R.Rule x r w f A found) in
    let el = hit_line g.M.Map g.S.Memory g.V.Rule g.R.Rule x r w f A found c.line_at.result c.cpu-cpu.result c.set.result ec c.set.ensures c.line_at.ensures in
    let p = err_from_is_err_and c.from_residual.result c.from_residual.ensures.1 in
    rw (p.1, p.2)
    (hit_stops g.M.Map g.S.Memory g.V.Rule g.R.Rule x r w f A found c.claim.new.processors c.in_err-sent.field-0.0
    (hit_claim g.M.Map g.S.Memory g.V.Rule g.R.Rule x r w f A found c.line_at.result el _ c.claim.new.processors (Err c.in_err-sent.field-0.0) (set-get_or x.processors c.cpu-cpu.result no_processor) c.in_err-sent.ensures))

pub returns : goal.returns
returns g c = λ f A found.
    let x = c.args.self.now in
    let r = c.args.r in
    let w = c.args.way in
    let lf = few g.M.Map g.S.Memory g.V.Rule g.R.Rule x r w f A found in
    let lw = way g.M.Map g.S.Memory g.V.Rule g.R.Rule x r w f A found in
    let ec = c.cpu-cpu.ensures.value lf in
    let ls : c.set.result < v_sets = subst (λ (z : ℕ). z < v_sets) (sym c.set.ensures) (v_set_in (ref_of r).vb) in
    let el = hit_line g.M.Map g.S.Memory g.V.Rule g.R.Rule x r w f A found c.line_at.result c.cpu-cpu.result c.set.result ec c.set.ensures c.line_at.ensures in
    let cl = hit_claim g.M.Map g.S.Memory g.V.Rule g.R.Rule x r w f A found c.line_at.result el _ c.claim.new.processors (Ok c.in_ok-sent.sent) (set-get_or x.processors c.cpu-cpu.result no_processor) c.in_ok-sent.ensures in
    let qs = set c.claim.new.processors c.cpu-cpu.result c.line_used.new.p in
    hit_ends g.M.Map g.S.Memory g.V.Rule g.R.Rule x r w f A found c.claim.new.processors (set qs c.cpu-cpu.result c.finish-word.new.p) c.line_used.new.p c.in_ok-sent.sent
    c.cpu-cpu.result c.set.result c.word.result c.finish-word.result c.count_up.new.count ec c.set.ensures c.word.ensures.value cl
    (c.line_used.ensures ls lw)
    (λ rg fl. finish_at r.value qs c.cpu-cpu.result c.set.result w c.word.result c.finish-word.new.p (c.finish-word.ensures.processor rg fl ls lw c.word.ensures.within))
    (c.finish-word.ensures.answer ls lw c.word.ensures.within)
    (one_more x.accepted c.count_up.new.count A.room c.count_up.ensures)

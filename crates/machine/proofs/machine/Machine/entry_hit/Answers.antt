use Rattle.std.proofs.Common.{ℕ, ◌<◌, Ok, Err, set, sym, subst}
use lib.Seq.{set-get_or}
use Rattle.std.proofs.lemmas.Result.{err_from_is_err_and}
use Rattle.rules.specs.Bus.{no_processor}
use Rattle.rules.specs.Rule.{Lawful}
use Rattle.rules.specs.Sizes.{v_sets}
use Rattle.rules.proofs.Sizes.{v_set_in}
use Rattle.machine.specs.References.{ref_of}
use Rattle.machine.specs.State.{rules_of}
use Rattle.machine.proofs.Ending.{finish_at}
use Rattle.machine.proofs.Ends.{one_more}
use Rattle.machine.proofs.Holding.{here_claim, here_ends, here_entry, here_few, here_stops}
use Rattle.machine.proofs.machine.Machine.entry_hit.Goals as goal

pub returns-in_err-sent : goal.returns-in_err-sent
returns-in_err-sent g c = λ f A F.
    let x = c.args.self.now in
    let r = c.args.r in
    let w = c.args.way in
    let p = err_from_is_err_and c.from_residual.result c.from_residual.ensures.1 in
    rw (p.1, p.2)
    (here_stops g.M.Map g.S.Memory g.V.Rule g.R.Rule x r c.args.block.0 w f A F.0 F.1 c.claim.new.processors c.in_err-sent.field-0.0
    (here_claim g.M.Map g.S.Memory g.V.Rule g.R.Rule x r c.args.block.0 w f A F.0 F.1 c.home-home.result.set c.home-home.result.way c.home-home.ensures.set c.home-home.ensures.way _ c.claim.new.processors (Err c.in_err-sent.field-0.0) (set-get_or x.processors c.cpu-cpu.result no_processor) c.in_err-sent.ensures))

pub returns : goal.returns
returns g c = λ f A F.
    let x = c.args.self.now in
    let r = c.args.r in
    let w = c.args.way in
    let b = c.args.block.0 in
    let law : Lawful (rules_of g.M.Map g.S.Memory g.V.Rule g.R.Rule x).for_v = record { chosen = g.met.V.Rule.chosen x.rules.v } in
    let ec = c.cpu-cpu.ensures.value (here_few g.M.Map g.S.Memory g.V.Rule g.R.Rule x r b w f A F.0 F.1) in
    let ls : c.set.result < v_sets = subst (λ (z : ℕ). z < v_sets) (sym c.set.ensures) (v_set_in (ref_of r).vb) in
    let ee = here_entry g.M.Map g.S.Memory g.V.Rule g.R.Rule x r b w f A F.0 F.1 c.entry_at-child.result c.cpu-cpu.result c.home-home.result.set c.home-home.result.way ec c.home-home.ensures.set c.home-home.ensures.way c.entry_at-child.ensures in
    let cl = here_claim g.M.Map g.S.Memory g.V.Rule g.R.Rule x r b w f A F.0 F.1 c.home-home.result.set c.home-home.result.way c.home-home.ensures.set c.home-home.ensures.way _ c.claim.new.processors (Ok c.in_ok-sent.sent) (set-get_or x.processors c.cpu-cpu.result no_processor) c.in_ok-sent.ensures in
    let qs = set c.claim.new.processors c.cpu-cpu.result c.attach-found.new.p in
    here_ends g.M.Map g.S.Memory g.V.Rule g.R.Rule x r b w f A F.0 F.1 law c.claim.new.processors (set qs c.cpu-cpu.result c.finish-word.new.p) c.attach-found.new.p c.in_ok-sent.sent c.attach-found.result c.entry_at-child.result
    c.cpu-cpu.result c.set.result c.word.result c.block.result.0 c.finish-word.result c.count_up.new.count ec c.set.ensures c.word.ensures.value c.block.ensures ee cl
    c.attach-found.ensures
    (λ lw rg fl. finish_at r.value qs c.cpu-cpu.result c.set.result c.attach-found.result.way c.word.result c.finish-word.new.p (c.finish-word.ensures.processor rg fl ls lw c.word.ensures.within))
    (λ lw. c.finish-word.ensures.answer ls lw c.word.ensures.within)
    (one_more x.accepted c.count_up.new.count A.room c.count_up.ensures)

use Rattle.std.proofs.Common.{◌≡◌, ℕ, ◌<◌, Some, None, sym, refl, ◌∙◌, subst}
use Rattle.std.proofs.lemmas.Result.{err_from_is_err_and}
use Rattle.base.specs.Blocks.{block_of}
use Rattle.base.specs.Sizes.{addresses}
use Rattle.rules.specs.Sizes.{most_processors}
use Rattle.faults.specs.declared.machine_fault.Caller.TheVariants.{Processor}
use Rattle.rules.specs.Bus.{proc_at}
use Rattle.rules.specs.Cache.{v_find}
use Rattle.rules.specs.Rule.{Lawful}
use Rattle.rules.proofs.Bounds.{past_ready}
use Rattle.machine.specs.State.{board, rules_of}
use Rattle.machine.proofs.Accepting.{few}
use Rattle.machine.proofs.Besides.{was_ok}
use Rattle.machine.proofs.Admitting.{admit_passes}
use Rattle.machine.proofs.Referring.{an_address, refer_admitted, refer_goes, refer_missing}
use Rattle.machine.proofs.machine.Machine.reference.Goals as goal

pub returns-in_err-locate : goal.returns-in_err-locate
returns-in_err-locate g c = λ u h P.
    let x = c.args.self.now in
    let lv : Lawful (rules_of g.M.Map g.S.Memory g.V.Rule g.R.Rule x).for_v = record { chosen = g.met.V.Rule.chosen x.rules.v } in
    let lr : Lawful (rules_of g.M.Map g.S.Memory g.V.Rule g.R.Rule x).for_r = record { chosen = g.met.R.Rule.chosen x.rules.r } in
    let O = admit_passes g.M.Map g.S.Memory g.V.Rule g.R.Rule x P.sound (Processor c.args.processor) (sym c.admit.ensures ∙ c.in_ok-admit.was) in
    let p = err_from_is_err_and c.from_residual-in_err-locate.result c.from_residual-in_err-locate.ensures.1 in
    rw (p.1, p.2)
    (refer_missing g.M.Map g.S.Memory g.V.Rule g.R.Rule x c.args.processor c.args.address c.args.value P.sound O c.in_err-locate.field-0.0 c.in_err-locate.ensures
    (few g.M.Map g.S.Memory g.V.Rule g.R.Rule x lv lr u h P O.setup))

pub returns-in_default : goal.returns-in_default
returns-in_default g c = λ u h P.
    let x = c.args.self.now in
    let lv : Lawful (rules_of g.M.Map g.S.Memory g.V.Rule g.R.Rule x).for_v = record { chosen = g.met.V.Rule.chosen x.rules.v } in
    let lr : Lawful (rules_of g.M.Map g.S.Memory g.V.Rule g.R.Rule x).for_r = record { chosen = g.met.R.Rule.chosen x.rules.r } in
    let O = admit_passes g.M.Map g.S.Memory g.V.Rule g.R.Rule x P.sound (Processor c.args.processor) (sym c.admit.ensures ∙ c.in_ok-admit.was) in
    let R = past_ready (rules_of g.M.Map g.S.Memory g.V.Rule g.R.Rule x) lv lr u h (board g.M.Map g.S.Memory g.V.Rule g.R.Rule x) P.past O.setup in
    let L = c.in_ok-locate.ensures in
    let a = an_address c.args.address c.in_ok-address.address (sym c.try_from.ensures ∙ was_ok _ c.try_from.result c.map_err.result c.in_ok-address.address c.map_err.ensures.cases c.map_err.ensures.variant c.in_ok-address.was) in
    let ec = c.cpu.ensures.value (subst (λ (z : ℕ). z < most_processors) L.place L.within) in
    let es : v_find (proc_at x.processors c.args.processor.0) (block_of c.in_ok-address.address.0) ≡ None = sym (c.in_default.ensures.way ∙ (λ j. v_find (proc_at x.processors (ec j)) (c.block.ensures j))) in
    refer_goes g.M.Map g.S.Memory g.V.Rule g.R.Rule x c.args.processor c.args.address c.args.value P.sound O L.below R.0 R.1 c.in_ok-address.address a.0 a.1 x.processors refl c.miss.new.self c.miss.result None es
    (c.miss.ensures R.0 (refer_admitted g.M.Map g.S.Memory g.V.Rule g.R.Rule x c.args.processor c.args.address c.args.value P.sound O L.below R.0 R.1 c.in_ok-address.address a.0 a.1 x.processors refl)
    (subst (λ (z : ℕ). z < addresses) (sym a.0) a.1))

pub returns : goal.returns
returns g c = λ u h P.
    let x = c.args.self.now in
    let lv : Lawful (rules_of g.M.Map g.S.Memory g.V.Rule g.R.Rule x).for_v = record { chosen = g.met.V.Rule.chosen x.rules.v } in
    let lr : Lawful (rules_of g.M.Map g.S.Memory g.V.Rule g.R.Rule x).for_r = record { chosen = g.met.R.Rule.chosen x.rules.r } in
    let O = admit_passes g.M.Map g.S.Memory g.V.Rule g.R.Rule x P.sound (Processor c.args.processor) (sym c.admit.ensures ∙ c.in_ok-admit.was) in
    let R = past_ready (rules_of g.M.Map g.S.Memory g.V.Rule g.R.Rule x) lv lr u h (board g.M.Map g.S.Memory g.V.Rule g.R.Rule x) P.past O.setup in
    let L = c.in_ok-locate.ensures in
    let a = an_address c.args.address c.in_ok-address.address (sym c.try_from.ensures ∙ was_ok _ c.try_from.result c.map_err.result c.in_ok-address.address c.map_err.ensures.cases c.map_err.ensures.variant c.in_ok-address.was) in
    let ec = c.cpu.ensures.value (subst (λ (z : ℕ). z < most_processors) L.place L.within) in
    let es : v_find (proc_at x.processors c.args.processor.0) (block_of c.in_ok-address.address.0) ≡ Some c.in-Some.way = sym (c.in-Some.ensures.way ∙ (λ j. v_find (proc_at x.processors (ec j)) (c.block.ensures j))) in
    refer_goes g.M.Map g.S.Memory g.V.Rule g.R.Rule x c.args.processor c.args.address c.args.value P.sound O L.below R.0 R.1 c.in_ok-address.address a.0 a.1 x.processors refl c.hit.new.self c.hit.result (Some c.in-Some.way) es
    (c.hit.ensures R.0 (refer_admitted g.M.Map g.S.Memory g.V.Rule g.R.Rule x c.args.processor c.args.address c.args.value P.sound O L.below R.0 R.1 c.in_ok-address.address a.0 a.1 x.processors refl) es)

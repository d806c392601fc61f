use Rattle.std.proofs.Common.{◌≡◌, ◌<◌, Some, None, refl, ◌∙◌, arith, rules}
use Rattle.std.proofs.lemmas.Result.{err_from_is_err_and}
use Rattle.base.specs.Sizes.{processes}
use Rattle.base.specs.declared.block.Process.{Process}
use Rattle.faults.specs.declared.machine_fault.Caller.TheVariants.{Processor}
use Rattle.rules.specs.Bus.{proc_at}
use Rattle.machine.proofs.Besides.{besides, told_beside}
use Rattle.machine.proofs.Looking.{beyond_stops, look_admitted, look_few, look_found, look_frame, look_goes, look_none, look_search, look_some, look_stops}
use Rattle.machine.proofs.machine.Machine.miss.Goals as goal

pub returns-in_err-block : goal.returns-in_err-block
returns-in_err-block g c = λ f A la.
    let x = c.args.self.now in
    let r = c.args.r in
    let ec = c.cpu-cpu.ensures.value (look_few g.M.Map g.S.Memory g.V.Rule g.R.Rule x r f A la) in
    let q : Process = (proc_at x.processors c.cpu-cpu.result).process in
    let eo : c.map_err.result ≡ besides c.look_up.result (Processor r.processor) = told_beside c.look_up.result c.map_err.result (Processor r.processor) c.map_err.ensures.cases (λ e y p. search rules) in
    let lq : q.0 < processes = A.ready.known c.cpu-cpu.result in
    let n = look_none (g.M.Map.frame x.map) q c.block.result r.address.0 c.block.ensures lq la c.look_up.result (c.look_up.ensures.answer A.sound.map) (Processor r.processor) c.map_err.result eo
    c.in_err-block.field-0.0.0 c.in_err-block.field-0.0.1 c.in_err-block.was in
    let p = err_from_is_err_and c.from_residual.result c.from_residual.ensures.1 in
    rw p.1
    (look_stops g.M.Map g.S.Memory g.V.Rule g.R.Rule x r f A la c.look_up.new.self x.processors (c.look_up.ensures.kept A.sound.map) (c.look_up.ensures.frames A.sound.map) refl
    p.0 c.in_err-block.field-0.0.0 c.in_err-block.field-0.0.1 p.2 (look_frame g.M.Map g.S.Memory g.V.Rule g.R.Rule x r f A la None c.cpu-cpu.result ec n.0) n.1 n.2)

pub returns-then-from-count_blocks : goal.returns-then-from-count_blocks
returns-then-from-count_blocks g c = λ f A la.
    let x = c.args.self.now in
    let r = c.args.r in
    let ec = c.cpu-cpu.ensures.value (look_few g.M.Map g.S.Memory g.V.Rule g.R.Rule x r f A la) in
    let q : Process = (proc_at x.processors c.cpu-cpu.result).process in
    let eo : c.map_err.result ≡ besides c.look_up.result (Processor r.processor) = told_beside c.look_up.result c.map_err.result (Processor r.processor) c.map_err.ensures.cases (λ e y p. search rules) in
    let lq : q.0 < processes = A.ready.known c.cpu-cpu.result in
    let n = look_some (g.M.Map.frame x.map) q c.block.result r.address.0 c.block.ensures lq la c.look_up.result (c.look_up.ensures.answer A.sound.map) (Processor r.processor) c.map_err.result eo c.in_ok-block.block c.in_ok-block.was in
    beyond_stops g.M.Map g.S.Memory g.V.Rule g.R.Rule x r f A la c.look_up.new.self x.processors (c.look_up.ensures.kept A.sound.map) (c.look_up.ensures.frames A.sound.map) refl
    c.from.result n.0 c.count_blocks.result (look_frame g.M.Map g.S.Memory g.V.Rule g.R.Rule x r f A la (Some n.0) c.cpu-cpu.result ec n.1) (c.from.ensures ∙ n.2) (c.count_blocks.ensures A.sound.memory) c.if-from-count_blocks.true

pub returns-in-Some : goal.returns-in-Some
returns-in-Some g c = λ f A la.
    let x = c.args.self.now in
    let r = c.args.r in
    let ec = c.cpu-cpu.ensures.value (look_few g.M.Map g.S.Memory g.V.Rule g.R.Rule x r f A la) in
    let q : Process = (proc_at x.processors c.cpu-cpu.result).process in
    let eo : c.map_err.result ≡ besides c.look_up.result (Processor r.processor) = told_beside c.look_up.result c.map_err.result (Processor r.processor) c.map_err.ensures.cases (λ e y p. search rules) in
    let lq : q.0 < processes = A.ready.known c.cpu-cpu.result in
    let b = c.in_ok-block.block.0 in
    let n = look_some (g.M.Map.frame x.map) q c.block.result r.address.0 c.block.ensures lq la c.look_up.result (c.look_up.ensures.answer A.sound.map) (Processor r.processor) c.map_err.result eo c.in_ok-block.block c.in_ok-block.was in
    let ef = look_frame g.M.Map g.S.Memory g.V.Rule g.R.Rule x r f A la (Some n.0) c.cpu-cpu.result ec n.1 in
    let es = look_search g.M.Map g.S.Memory g.V.Rule g.R.Rule x r f A la b c.cpu-cpu.result (Some c.in-Some.way) ec c.in-Some.ensures.way in
    let ks = c.look_up.ensures.kept A.sound.map in
    let km = c.look_up.ensures.frames A.sound.map in
    let en = c.count_blocks.ensures A.sound.memory in
    let lt : b < c.count_blocks.result = let l = c.if-from-count_blocks.false in let k = c.from.ensures in omega arith in
    look_goes g.M.Map g.S.Memory g.V.Rule g.R.Rule x r f A la c.look_up.new.self x.processors ks km refl b n.0 c.count_blocks.result ef n.2 en lt c.entry_hit.new.self c.entry_hit.result (Some c.in-Some.way) es
    (c.entry_hit.ensures f (look_admitted g.M.Map g.S.Memory g.V.Rule g.R.Rule x r f A la c.look_up.new.self x.processors ks km refl)
    (look_found g.M.Map g.S.Memory g.V.Rule g.R.Rule x r f A la c.look_up.new.self x.processors ks km refl b n.0 c.count_blocks.result ef n.2 en lt, es))

pub returns-in-None : goal.returns-in-None
returns-in-None g c = λ f A la.
    let x = c.args.self.now in
    let r = c.args.r in
    let ec = c.cpu-cpu.ensures.value (look_few g.M.Map g.S.Memory g.V.Rule g.R.Rule x r f A la) in
    let q : Process = (proc_at x.processors c.cpu-cpu.result).process in
    let eo : c.map_err.result ≡ besides c.look_up.result (Processor r.processor) = told_beside c.look_up.result c.map_err.result (Processor r.processor) c.map_err.ensures.cases (λ e y p. search rules) in
    let lq : q.0 < processes = A.ready.known c.cpu-cpu.result in
    let b = c.in_ok-block.block.0 in
    let n = look_some (g.M.Map.frame x.map) q c.block.result r.address.0 c.block.ensures lq la c.look_up.result (c.look_up.ensures.answer A.sound.map) (Processor r.processor) c.map_err.result eo c.in_ok-block.block c.in_ok-block.was in
    let ef = look_frame g.M.Map g.S.Memory g.V.Rule g.R.Rule x r f A la (Some n.0) c.cpu-cpu.result ec n.1 in
    let es = look_search g.M.Map g.S.Memory g.V.Rule g.R.Rule x r f A la b c.cpu-cpu.result (None) ec c.in-None.ensures.way in
    let ks = c.look_up.ensures.kept A.sound.map in
    let km = c.look_up.ensures.frames A.sound.map in
    let en = c.count_blocks.ensures A.sound.memory in
    let lt : b < c.count_blocks.result = let l = c.if-from-count_blocks.false in let k = c.from.ensures in omega arith in
    look_goes g.M.Map g.S.Memory g.V.Rule g.R.Rule x r f A la c.look_up.new.self x.processors ks km refl b n.0 c.count_blocks.result ef n.2 en lt c.entry_miss.new.self c.entry_miss.result (None) es
    (c.entry_miss.ensures f (look_admitted g.M.Map g.S.Memory g.V.Rule g.R.Rule x r f A la c.look_up.new.self x.processors ks km refl)
    (look_found g.M.Map g.S.Memory g.V.Rule g.R.Rule x r f A la c.look_up.new.self x.processors ks km refl b n.0 c.count_blocks.result ef n.2 en lt, es))

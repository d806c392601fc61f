use Rattle.std.proofs.Common.{rules, sym, ◌∙◌}
use Rattle.std.proofs.lemmas.Result.{err_from_is_err_and}
use Rattle.faults.specs.declared.machine_fault.Caller.TheVariants.{Device}
use Rattle.machine.proofs.Besides.{told_beside}
use Rattle.machine.proofs.Checking.{admit_rejects, block_rejects, checks, length_rejects, tenure_rejects}
use Rattle.machine.proofs.machine.Machine.check_transfer.Goals as goal

pub returns-in_err-admit-clause-found : goal.returns-in_err-admit-clause-found
returns-in_err-admit-clause-found g c =
    let p = err_from_is_err_and c.from_residual.result c.from_residual.ensures.1 in
    rw (p.1, p.2) (λ so. admit_rejects _ _ _ _ _ _ _ _ so _ c.in_err-admit.ensures)

pub returns-in_err-check_tenure-clause-found : goal.returns-in_err-check_tenure-clause-found
returns-in_err-check_tenure-clause-found g c =
    let p = err_from_is_err_and c.from_residual-in_err-check_tenure.result c.from_residual-in_err-check_tenure.ensures.1 in
    rw (p.1, p.2) (λ so. tenure_rejects _ _ _ _ _ _ _ _ so c.in_ok-admit.ensures _ c.in_err-check_tenure.ensures)

pub returns-in_err-map_err-clause-found : goal.returns-in_err-map_err-clause-found
returns-in_err-map_err-clause-found g c =
    let told = told_beside c.read.result c.map_err.result Device c.map_err.ensures.cases (λ e y q. search rules) in
    let p = err_from_is_err_and c.from_residual-in_err-map_err.result c.from_residual-in_err-map_err.ensures.1 in
    rw p.1
    (λ so. block_rejects _ _ _ _ _ _ _ _ so c.in_ok-admit.ensures c.in_ok-check_tenure.ensures c.read.new.self c.read.result (record { kept = c.read.ensures.kept; answer = c.read.ensures.answer; same = c.read.ensures.same; blocks = c.read.ensures.blocks })
    _ _ (sym c.in_err-map_err.was ∙ told) p.2)

pub returns-then-size-ne-BLOCK_WORDS-clause-found : goal.returns-then-size-ne-BLOCK_WORDS-clause-found
returns-then-size-ne-BLOCK_WORDS-clause-found g c =
    let told = told_beside c.read.result c.map_err.result Device c.map_err.ensures.cases (λ e y q. search rules) in
    λ so. length_rejects _ _ _ _ _ _ _ _ so c.in_ok-admit.ensures c.in_ok-check_tenure.ensures c.read.new.self c.read.result (record { kept = c.read.ensures.kept; answer = c.read.ensures.answer; same = c.read.ensures.same; blocks = c.read.ensures.blocks })
    _ (sym c.in_ok-map_err.was ∙ told) c.if-size-ne-BLOCK_WORDS.true

pub returns-clause-found : goal.returns-clause-found
returns-clause-found g c =
    let told = told_beside c.read.result c.map_err.result Device c.map_err.ensures.cases (λ e y q. search rules) in
    λ so. checks _ _ _ _ _ _ _ _ so c.in_ok-admit.ensures c.in_ok-check_tenure.ensures c.read.new.self c.read.result (record { kept = c.read.ensures.kept; answer = c.read.ensures.answer; same = c.read.ensures.same; blocks = c.read.ensures.blocks })
    _ (sym c.in_ok-map_err.was ∙ told) c.if-size-ne-BLOCK_WORDS.false

use Rattle.std.proofs.Common.{refl}
use Rattle.std.proofs.lemmas.Result.{err_from_is_err_and}
use Rattle.machine.proofs.Moving.{moves, stays, take_told, writes_told}
use Rattle.machine.proofs.machine.Machine.write_block.Goals as goal

pub returns-in_err-tenure-clause-call : goal.returns-in_err-tenure-clause-call
returns-in_err-tenure-clause-call g c =
    let p = err_from_is_err_and c.from_residual.result c.from_residual.ensures.1 in
    rw (p.1, p.2) (λ u h H. let P = c.in_err-tenure.ensures.call u h H in stays _ _ _ _ _ u h _ _ _ _ _ P P.told (take_told c.args.block _ _ P.told))

pub returns-clause-call : goal.returns-clause-call
returns-clause-call g c =
    let E = c.in_ok-tenure.ensures in
    λ u h H.
    let P₀ = E.call u h H in
    let P₁ = c.device_write-moved.ensures.call u _ P₀.past in
    let P₂ = c.release.ensures.call u _ P₁.past in
    moves _ _ _ _ _ u h _ (λ _ _ _. refl) _ _ _ _ _ _ _ _ E.live.1 E.number P₀.told.0.number (writes_told c.args.block _) P₀ P₁ P₂

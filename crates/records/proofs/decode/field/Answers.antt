use Rattle.std.proofs.Common.{◌+◌, ◌-◌, ◌<◌, arith}
use Rattle.std.proofs.lemmas.Nat.{and_mask, one_shl}
use Rattle.records.proofs.decode.field.Goals as goal

pub returns : goal.returns
returns c =
    let h : c.args.high + 1 - c.args.low < 32 = omega arith in
    simp (one_shl (c.args.high + 1 - c.args.low) 32 h, and_mask)

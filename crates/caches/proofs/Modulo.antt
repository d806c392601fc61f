-- A number taken modulo a size is the number itself, where it is below the size.
use Rattle.std.proofs.Common.{mod-eq_of_lt}

pub ruleset modulo = (mod-eq_of_lt)

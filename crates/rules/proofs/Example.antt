-- The worked example, by computation.
use Rattle.std.proofs.Common.{refl}
use Rattle.rules.specs.Sizes.{v_sets, v_ways, r_sets, r_ways, page_blocks}
use Rattle.rules.specs.Example.{WorkedExample}

pub worked_example : WorkedExample
unfolding v_sets v_ways r_sets r_ways page_blocks
worked_example = record { listed = refl; renews = refl; last_address = refl; first_refused = refl }

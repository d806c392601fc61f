use Rattle.std.proofs.Common.{◌+◌, ◌%◌, refl, rules}
use Rattle.std.proofs.lemmas.Iterator.{YieldsList-from_map, YieldsList-from_range}
use Rattle.std.proofs.lemmas.Iterator.Consumers.{YieldsList-at}
use Rattle.replacement.specs.Around.{around}
use Rattle.replacement.proofs.first_in.FirstInRule.choose.Goals as goal

pub returns : goal.returns
returns c =
    let steps = YieldsList-from_range 0 4 4 refl refl in
    c.first_asked.ensures (around c.args.word) (YieldsList-from_map _ (λ step. (c.args.word + step) % 4) (YieldsList-at c.map-order.ensures.source steps) c.map-order.ensures.closure (λ x r q k. search rules))

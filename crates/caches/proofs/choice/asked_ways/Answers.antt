use Rattle.std.proofs.Common.{◌%◌, Bool, ltb, List, ap, ◌∙◌}
use Rattle.replacement.specs.Sizes.{ways}
use Rattle.rules.specs.Basic.{both, flags}
use Rattle.rules.specs.Cache.{childless, entry_at}
use Rattle.rules.specs.Sizes.{r_sets, r_ways}
use Rattle.caches.specs.Choice.{asked_by}
use Rattle.caches.proofs.choice.asked_ways.Goals as goal

pub returns-in-Some : goal.returns-in-Some
unfolding r_sets r_ways
returns-in-Some c =
    let free : List Bool = flags ways (λ w. both (ltb w r_ways) (childless (entry_at c.args.p.now (c.args.set % r_sets) w))) in
    c.childless_ways.ensures ∙ ap (asked_by free) c.in-Some.ensures

pub returns-in-None : goal.returns-in-None
unfolding r_sets r_ways
returns-in-None c =
    let free : List Bool = flags ways (λ w. both (ltb w r_ways) (childless (entry_at c.args.p.now (c.args.set % r_sets) w))) in
    c.ways_below.ensures ∙ ap (asked_by free) c.in-None.ensures

use Rattle.std.proofs.Common.{◌≡◌, ◌%◌, ltb, get_or, MatchOption, rules}
use Rattle.replacement.specs.Sizes.{ways}
use Rattle.rules.specs.Basic.{both, first_below, flags}
use Rattle.rules.specs.Cache.{childless, entry_at}
use Rattle.rules.specs.Rule.{Lawful}
use Rattle.rules.specs.Sizes.{r_sets, r_ways}
use Rattle.caches.specs.Choice.{asked_by, rule_of}
use Rattle.caches.proofs.Ways.{entry_way_in}
use Rattle.caches.proofs.choice.entry_way.Goals as goal

pub returns : goal.returns
unfolding r_sets
returns g c =
    let ru = rule_of g.R.Rule c.args.rule.now in
    let law : Lawful ru = record { chosen = g.met.R.Rule.chosen c.args.rule.now } in
    let m : MatchOption c.first_absent.result (c.unwrap_or_else.result ≡ ru.choice (get_or c.args.p.now.rrule (c.args.set % r_sets) 0) (asked_by (flags ways (λ w. both (ltb w r_ways) (childless (entry_at c.args.p.now (c.args.set % r_sets) w)))) (first_below r_ways (λ w. childless (entry_at c.args.p.now (c.args.set % r_sets) w))))) (λ w. c.unwrap_or_else.result ≡ w) = search rules in
    let h = entry_way_in ru law c.args.p.now c.args.set c.unwrap_or_else.result c.first_absent.result c.first_absent.ensures.way c.first_absent.ensures.within m in
    record { way = h.0; within = h.1 }

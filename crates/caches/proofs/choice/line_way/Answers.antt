use Rattle.std.proofs.Common.{◌≡◌, ◌%◌, get_or, MatchOption, rules}
use Rattle.rules.specs.Rule.{Lawful}
use Rattle.rules.specs.Sizes.{v_sets, v_ways}
use Rattle.caches.specs.Choice.{rule_of, ways_below}
use Rattle.caches.proofs.Ways.{line_way_in}
use Rattle.caches.proofs.choice.line_way.Goals as goal

pub returns : goal.returns
unfolding v_sets v_ways
returns g c =
    let ru = rule_of g.V.Rule c.args.rule.now in
    let law : Lawful ru = record { chosen = g.met.V.Rule.chosen c.args.rule.now } in
    let m : MatchOption c.first_empty.result (c.unwrap_or_else.result ≡ ru.choice (get_or c.args.p.now.vrule (c.args.set % v_sets) 0) (ways_below v_ways)) (λ w. c.unwrap_or_else.result ≡ w) = search rules in
    let h = line_way_in ru law c.args.p.now c.args.set c.unwrap_or_else.result c.first_empty.result c.first_empty.ensures.way c.first_empty.ensures.within m in
    record { way = h.0; within = h.1 }

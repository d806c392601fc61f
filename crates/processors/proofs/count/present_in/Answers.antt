use Rattle.std.proofs.Common.{rules, arith, tests, cond, not, ◌∙◌, ◌^◌, ◌≡◌, ◌≤◌, length}
use Rattle.std.proofs.lemmas.Iterator.{YieldsList-from_slice, YieldsList-from_map}
use Rattle.std.proofs.lemmas.Iterator.Adapters.{fits_from_length, at_most_from_yields_List}
use Rattle.std.proofs.lemmas.Iterator.Consumers.{YieldsList-at, sum_by_from_yields_List}
use Rattle.tables.specs.declared.types.REntry.{REntry}
use Rattle.rules.specs.Cache.{is_absent}
use Rattle.rules.specs.Invariant.{in_row}
use Rattle.rules.specs.Sizes.{r_ways}
use Rattle.processors.proofs.Tallies.{row_summed, row_few}
use Rattle.processors.proofs.count.present_in.Goals as goal

pub sum-requires-clause-fits : goal.sum-requires-clause-fits
sum-requires-clause-fits c =
    let few : length c.args.set.now ≤ 4 = search rules in
    fits_from_length _ _ 4 (2 ^ 32) (at_most_from_yields_List (YieldsList-from_slice c.args.set.now cc) few) c.map.ensures.closure (omega arith) (λ x r q k. search rules)

-- each entry adds 1 where it is present
pub returns : goal.returns
unfolding r_ways
returns c =
    let few : length c.args.set.now ≤ 4 = search rules in
    let e : c.sum.result ≡ in_row c.args.set.now =
    sum_by_from_yields_List _ _ c.map.result _ c.sum.ensures.ran (YieldsList-from_map _ (λ (e : REntry). cond (not (is_absent e.state)) 1 0) (YieldsList-at c.map.ensures.source (YieldsList-from_slice c.args.set.now cc)) c.map.ensures.closure (λ x r q k. search (rules, tests)))
    ∙ row_summed c.args.set.now in
    record { count = e; within = omega (arith, row_few c.args.set.now) }

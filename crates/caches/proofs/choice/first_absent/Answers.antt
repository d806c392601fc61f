use Rattle.std.proofs.Common.{◌≡◌, ◌%◌, Bool, List, [], get_or, length, rules, tests}
use Rattle.std.specs.List.{position}
use Rattle.std.proofs.lemmas.Iterator.{YieldsList-from_slice}
use Rattle.std.proofs.lemmas.Iterator.Search.{position_from_yields_List}
use Rattle.rules.specs.Sizes.{r_sets, r_ways}
use Rattle.rules.specs.Cache.{is_absent, past_entry}
use Rattle.tables.specs.declared.types.REntry.{REntry}
use Rattle.caches.proofs.First.{first_in}
use Rattle.caches.proofs.choice.first_absent.Goals as goal

pub returns : goal.returns
unfolding r_sets r_ways
returns c =
    let row : List REntry = get_or c.args.p.now.r (c.args.set % r_sets) [] in
    let n : length row ≡ r_ways = search rules in
    let test : REntry → Bool = λ l. is_absent l.state in
    let h : c.position.result ≡ position test row =
    position_from_yields_List test _ _ c.position.result c.position.ensures.ran (YieldsList-from_slice row cc) (λ x b q k. search (rules, tests)) in
    let first = first_in r_ways test past_entry row n c.position.result h in
    record { way = first.way; within = first.within }

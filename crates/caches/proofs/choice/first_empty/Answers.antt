use Rattle.std.proofs.Common.{◌≡◌, ◌%◌, Bool, List, [], get_or, length, rules, tests}
use Rattle.std.specs.List.{position}
use Rattle.std.proofs.lemmas.Iterator.{YieldsList-from_slice}
use Rattle.std.proofs.lemmas.Iterator.Search.{position_from_yields_List}
use Rattle.rules.specs.Sizes.{v_sets, v_ways}
use Rattle.rules.specs.Cache.{is_empty, past_line}
use Rattle.tables.specs.declared.types.VLine.{VLine}
use Rattle.caches.proofs.First.{first_in}
use Rattle.caches.proofs.choice.first_empty.Goals as goal

pub returns : goal.returns
unfolding v_sets v_ways
returns c =
    let row : List VLine = get_or c.args.p.now.v (c.args.set % v_sets) [] in
    let n : length row ≡ v_ways = search rules in
    let test : VLine → Bool = λ l. is_empty l.state in
    let h : c.position.result ≡ position test row =
    position_from_yields_List test _ _ c.position.result c.position.ensures.ran (YieldsList-from_slice row cc) (λ x b q k. search (rules, tests)) in
    let first = first_in v_ways test past_line row n c.position.result h in
    record { way = first.way; within = first.within }

use Rattle.std.proofs.Common.{false, get_or, unwrap_or, sym, ap, ◌∙◌, rules}
use borrow.Author.Tests.{tests}
use Rattle.std.proofs.lemmas.Iterator.Adapters.{option_map_id}
use Rattle.std.proofs.lemmas.Iterator.Search.{find_from_yields_List}
use Rattle.replacement.proofs.candidates.first_asked.Goals as goal

pub returns : goal.returns
returns g c = λ ways y.
    c.unwrap_or.ensures
    ∙ ap (λ o. unwrap_or o 0) (sym (option_map_id _) ∙ find_from_yields_List (λ way. get_or c.args.asked.now way false) _ _ c.find.result c.find.ensures.ran y (λ x b q k. search (rules, tests)))

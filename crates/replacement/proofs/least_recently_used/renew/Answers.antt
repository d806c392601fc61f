use Rattle.std.proofs.Common.{◌%◌, reverse, ap, ◌∙◌, rules}
use borrow.Author.Tests.{tests}
use Rattle.std.proofs.lemmas.Iterator.{YieldsList-from_slice}
use Rattle.std.proofs.lemmas.Iterator.Consumers.{YieldsList-at, YieldsList-from_copied, fold_from_yields_List}
use Rattle.replacement.specs.Recent.{numbers, shift}
use Rattle.replacement.proofs.Shifts.{fold_others, shift_numbers, shift_other}
use Rattle.replacement.proofs.least_recently_used.renew.Goals as goal

pub returns : goal.returns
returns c =
    let old = YieldsList-from_copied (YieldsList-at c.copied.ensures.source (YieldsList-from_slice (reverse (numbers c.args.word)) (c.iter.ensures.rest ∙ c.oldest_first.ensures))) in
    c.shift.ensures
    ∙ ap (λ rest. shift rest (c.args.way % 4)) (fold_from_yields_List _ (shift_other (c.args.way % 4)) 0 c.fold-rest.result c.fold-rest.ensures.ran old (λ a x b q k. search (rules, tests)) ∙ fold_others (c.args.way % 4) 0 (reverse (numbers c.args.word)))
    ∙ shift_numbers c.args.word c.args.way

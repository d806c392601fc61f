use Rattle.std.proofs.Common.{refl, ◌∙◌}
use Rattle.std.proofs.lemmas.Iterator.{YieldsList-from_slice}
use Rattle.std.proofs.lemmas.Iterator.Consumers.{YieldsList-at, YieldsList-from_copied}
use Rattle.replacement.specs.Recent.{oldest_first}
use Rattle.replacement.proofs.least_recently_used.LeastRecentlyUsedRule.choose.Goals as goal

pub returns : goal.returns
returns c =
    let order = YieldsList-from_slice (oldest_first c.args.word) (c.iter.ensures.rest ∙ rw c.oldest_first.ensures refl) in
    c.first_asked.ensures (oldest_first c.args.word) (YieldsList-from_copied (YieldsList-at c.copied.ensures.source order))

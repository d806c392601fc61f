use Rattle.std.proofs.Common.{◌≡◌, length, ap, ◌∙◌, rules}
use Rattle.base.specs.Sizes.{block_words}
use Rattle.memory.proofs.Fours.{four_put}
use Rattle.memory.specs.Slices.{block_at}
use Rattle.memory.proofs.word_memory.WordMemory.store.Goals as goal

pub returns-clause-blocks : goal.returns-clause-blocks
returns-clause-blocks c =
    let long : length c.args.words ≡ block_words = search rules in
    ap block_at (rw c.from.ensures at c.replace.ensures.list) ∙ four_put c.args.self.now.words.now c.args.words c.args.number long c.requires

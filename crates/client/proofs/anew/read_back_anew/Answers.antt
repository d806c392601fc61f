use Rattle.std.proofs.Common.{refl, ap, ◌∙◌}
use Rattle.paging.specs.Frames.{flat}
use Rattle.paging.specs.declared.table.FlatTable.{FlatTable}
use Rattle.listing.proofs.Whole.{fresh_board, zero_count, zero_memory}
use Rattle.client.proofs.NewMachine.{comes_back, none_refused, refusal_there}
use Rattle.client.proofs.anew.read_back_anew.Goals as goal

pub returns : goal.returns
returns c =
    let sm = c.new-2.ensures.sound c.new.ensures.sound in
    let h = c.new-3.ensures.holds in
    let nf = ap (λ (z : FlatTable). flat z.entries) c.new-2.ensures.same ∙ c.new.ensures.frames in
    let es = fresh_board _ _ _ _ _ refl (c.new-machine.ensures.board tt) (zero_memory 2048 _ h) (zero_count _ h) nf in
    let p = c.new-machine.ensures.past sm tt in
    comes_back _ _ _ _ _ _ _ _ _ _ _ _ _ (ap (refusal_there c.args.value) es ∙ none_refused c.args.value) refl (c.write_and_read_back.ensures _ _ p)

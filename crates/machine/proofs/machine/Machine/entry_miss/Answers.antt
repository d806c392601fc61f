use Rattle.std.proofs.Common.{ℕ, ◌<◌, false, set, sym, ap, ◌∙◌, subst, rules}
use Rattle.bus.proofs.Blocks.{block_held, same_blocks}
use Rattle.faults.specs.declared.machine_fault.Caller.TheVariants.{Processor}
use Rattle.rules.specs.Calls.{fetch_state}
use Rattle.rules.specs.Rule.{Lawful}
use Rattle.tables.specs.declared.types.Child.TheVariants.{NoChild}
use Rattle.rules.specs.Bus.{proc_at}
use Rattle.tables.specs.Messages.{sender_number}
use Rattle.rules.specs.Sizes.{r_ways}
use Rattle.steps.specs.Steps.{installed}
use Rattle.machine.specs.State.{rules_of}
use Rattle.machine.proofs.Besides.{told_beside}
use Rattle.machine.proofs.Ending.{finish_at}
use Rattle.machine.proofs.Ends.{one_more}
use Rattle.machine.proofs.Fetching.{miss_back, miss_below, miss_ends, miss_few, miss_fetch, miss_fetched, miss_room, read_never, read_words, write_is}
use Rattle.machine.proofs.machine.Machine.entry_miss.Goals as goal

pub returns-in_err-words : goal.returns-in_err-words
returns-in_err-words g c = λ f A F.
    let x = c.args.self.now in
    let r = c.args.r in
    let b = c.args.block.0 in
    let lv : Lawful (rules_of g.M.Map g.S.Memory g.V.Rule g.R.Rule x).for_v = record { chosen = g.met.V.Rule.chosen x.rules.v } in
    let lr : Lawful (rules_of g.M.Map g.S.Memory g.V.Rule g.R.Rule x).for_r = record { chosen = g.met.R.Rule.chosen x.rules.r } in
    let ec = c.cpu-cpu.ensures.value (miss_few g.M.Map g.S.Memory g.V.Rule g.R.Rule x r b f A F.0 F.1 lv lr) in
    let rm = miss_room g.M.Map g.S.Memory g.V.Rule g.R.Rule x r b f A F.0 F.1 lv lr c.cpu-cpu.result c.block-tag.result.0 c.make_room-room.new.p c.make_room-room.result ec c.block-tag.ensures c.make_room-room.ensures.room in
    let bk = miss_back g.M.Map g.S.Memory g.V.Rule g.R.Rule x r b f A F.0 F.1 lv lr c.cpu-cpu.result c.block-tag.result.0 c.make_room-room.new.p c.make_room-room.result ec rm c.write_back.new.memory c.write_back.ensures in
    let ez = c.is_some-exclusive.ensures ∙ write_is r.value in
    let fe = miss_fetch g.M.Map g.S.Memory g.V.Rule g.R.Rule x r b f A F.0 F.1 lv lr c.cpu-cpu.result c.block-tag.result.0 c.make_room-room.new.p c.make_room-room.result ec rm c.write_back.new.memory bk c.is_some-exclusive.result ez
    c.fetch-shared.new.processors c.fetch-shared.new.memory c.fetch-shared.result (sender_number c.sender-sender.result) (ap sender_number c.sender-sender.ensures) c.fetch-shared.ensures in
    let lb = miss_below g.M.Map g.S.Memory g.V.Rule g.R.Rule x r b f A F.0 F.1 lv lr c.cpu-cpu.result c.block-tag.result.0 c.make_room-room.new.p c.make_room-room.result ec rm c.write_back.new.memory bk c.is_some-exclusive.result ez
    c.fetch-shared.new.processors c.fetch-shared.new.memory c.fetch-shared.result fe in
    absurd (read_never (g.S.Memory.count c.fetch-shared.new.memory) (g.S.Memory.holds c.fetch-shared.new.memory) c.args.block lb c.read.result (c.read.ensures.answer fe.sound) (Processor r.processor) c.map_err.result (told_beside c.read.result c.map_err.result (Processor r.processor) c.map_err.ensures.cases (λ e y p. search rules)) c.in_err-words.field-0.0 c.in_err-words.was)

pub returns : goal.returns
returns g c = λ f A F.
    let x = c.args.self.now in
    let r = c.args.r in
    let b = c.args.block.0 in
    let lv : Lawful (rules_of g.M.Map g.S.Memory g.V.Rule g.R.Rule x).for_v = record { chosen = g.met.V.Rule.chosen x.rules.v } in
    let lr : Lawful (rules_of g.M.Map g.S.Memory g.V.Rule g.R.Rule x).for_r = record { chosen = g.met.R.Rule.chosen x.rules.r } in
    let ec = c.cpu-cpu.ensures.value (miss_few g.M.Map g.S.Memory g.V.Rule g.R.Rule x r b f A F.0 F.1 lv lr) in
    let rm = miss_room g.M.Map g.S.Memory g.V.Rule g.R.Rule x r b f A F.0 F.1 lv lr c.cpu-cpu.result c.block-tag.result.0 c.make_room-room.new.p c.make_room-room.result ec c.block-tag.ensures c.make_room-room.ensures.room in
    let bk = miss_back g.M.Map g.S.Memory g.V.Rule g.R.Rule x r b f A F.0 F.1 lv lr c.cpu-cpu.result c.block-tag.result.0 c.make_room-room.new.p c.make_room-room.result ec rm c.write_back.new.memory c.write_back.ensures in
    let ez = c.is_some-exclusive.ensures ∙ write_is r.value in
    let fe = miss_fetch g.M.Map g.S.Memory g.V.Rule g.R.Rule x r b f A F.0 F.1 lv lr c.cpu-cpu.result c.block-tag.result.0 c.make_room-room.new.p c.make_room-room.result ec rm c.write_back.new.memory bk c.is_some-exclusive.result ez
    c.fetch-shared.new.processors c.fetch-shared.new.memory c.fetch-shared.result (sender_number c.sender-sender.result) (ap sender_number c.sender-sender.ensures) c.fetch-shared.ensures in
    let lb = miss_below g.M.Map g.S.Memory g.V.Rule g.R.Rule x r b f A F.0 F.1 lv lr c.cpu-cpu.result c.block-tag.result.0 c.make_room-room.new.p c.make_room-room.result ec rm c.write_back.new.memory bk c.is_some-exclusive.result ez
    c.fetch-shared.new.processors c.fetch-shared.new.memory c.fetch-shared.result fe in
    let lf = miss_fetched g.M.Map g.S.Memory g.V.Rule g.R.Rule x r b f A F.0 F.1 lv lr c.cpu-cpu.result c.block-tag.result.0 c.make_room-room.new.p c.make_room-room.result ec rm c.write_back.new.memory bk c.is_some-exclusive.result ez
    c.fetch-shared.new.processors c.fetch-shared.new.memory c.fetch-shared.result fe in
    let ww = read_words (g.S.Memory.count c.fetch-shared.new.memory) (g.S.Memory.holds c.fetch-shared.new.memory) c.args.block lb c.read.result (c.read.ensures.answer fe.sound) (Processor r.processor) c.map_err.result (told_beside c.read.result c.map_err.result (Processor r.processor) c.map_err.ensures.cases (λ e y p. search rules)) c.in_ok-words.words c.in_ok-words.was
    ∙ sym (block_held g.S.Memory c.fetch-shared.new.memory b lb) in
    let qs = set c.fetch-shared.new.processors c.cpu-cpu.result c.install.new.p in
    let ew = c.home-home.ensures.way in
    miss_ends g.M.Map g.S.Memory g.V.Rule g.R.Rule x r b f A F.0 F.1 lv lr c.cpu-cpu.result c.block-tag.result.0 c.make_room-room.new.p c.make_room-room.result ec rm c.write_back.new.memory bk c.is_some-exclusive.result ez
    c.fetch-shared.new.processors c.fetch-shared.new.memory c.fetch-shared.result fe
    c.read.new.self (set qs c.cpu-cpu.result c.finish-word.new.p) c.install.new.p c.miss_messages.result c.fetched_entry-entry.result c.set.result c.home-home.result.set c.block-tag.result.0 c.word.result c.finish-word.result c.count_up.new.count
    c.set.ensures c.home-home.ensures.set c.block-tag.ensures c.word.ensures.value (c.read.ensures.kept fe.sound) (c.read.ensures.same fe.sound)
    (same_blocks g.S.Memory c.fetch-shared.new.memory c.read.new.self (c.read.ensures.same fe.sound) (c.read.ensures.blocks fe.sound))
    c.if-self.false (c.fetched_entry-entry.ensures ∙ (λ j. record { state = fetch_state c.is_some-exclusive.result c.fetch-shared.result.acked; block = c.args.block; words = ww j; rdirty = false; child = NoChild }))
    (λ lt lh. c.install.ensures lt c.make_room-room.ensures.lines lh (subst (λ (z : ℕ). z < r_ways) (sym ew) c.make_room-room.ensures.entries) lf
    ∙ (λ j. installed (rules_of g.M.Map g.S.Memory g.V.Rule g.R.Rule x).for_v (rules_of g.M.Map g.S.Memory g.V.Rule g.R.Rule x).for_r (proc_at c.fetch-shared.new.processors c.cpu-cpu.result) c.set.result c.make_room-room.result.line_way c.home-home.result.set (ew j) c.block-tag.result.0 c.fetched_entry-entry.result))
    (λ lt rg fl. finish_at r.value qs c.cpu-cpu.result c.set.result c.make_room-room.result.line_way c.word.result c.finish-word.new.p (c.finish-word.ensures.processor rg fl lt c.make_room-room.ensures.lines c.word.ensures.within))
    (λ lt. c.finish-word.ensures.answer lt c.make_room-room.ensures.lines c.word.ensures.within)
    c.miss_messages.ensures
    (one_more x.accepted c.count_up.new.count A.room c.count_up.ensures)

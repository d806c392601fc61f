use Rattle.std.proofs.Common.{◌+◌, ◌*◌, ◌≤◌, length, vec_items, vec_len, vec_capacity}
use Rattle.lines.specs.Lines.{line_length}
use Rattle.records.specs.Told.{told_by}
use Rattle.rules.specs.History.{History, Setup}
use Rattle.machine.specs.State.{HasPast}
use Rattle.listing.specs.Listed.{Going}
use Rattle.listing.proofs.list.list_records.Given as goal

abbrev pub invariant-loop-next : goal.invariant-loop-next
invariant-loop-next g l =
    (vec_len l.out + line_length * length (told_by l.next-iterator) ≤ vec_capacity l.out)
    × ((c : Setup) (h : History) → HasPast g.M.Map g.S.Memory g.V.Rule g.R.Rule c h l.initial.machine → Going g.M.Map g.S.Memory g.V.Rule g.R.Rule l.initial.machine l.machine c (vec_items l.initial.out) (told_by l.fn.records) (vec_items l.out) (told_by l.next-iterator))

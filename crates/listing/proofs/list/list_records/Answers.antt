use Rattle.std.proofs.Common.{◌≡◌, suc, ◌∷◌, length, vec_items, ap, ◌∙◌, subst, arith}
use Rattle.records.specs.Told.{told_by}
use Rattle.listing.specs.Listed.{Going}
use Rattle.listing.specs.Played.{refused}
use Rattle.records.specs.Faults.{number_of}
use Rattle.listing.proofs.Running.{Items, goes_on, stops_at}
use Rattle.listing.proofs.list.list_records.Goals.{in-Ok, in-Err}
use Rattle.listing.proofs.list.list_records.Goals as goal

pub loop-next-preserved : goal.loop-next-preserved
loop-next-preserved g c =
    let steps = c.in-Some.ensures.steps in
    let few : length (told_by c.loop-next.next-iterator) ≡ suc (length (told_by c.next.new.self)) = ap length steps in
    let len = c.push_line.ensures.len in
    let cap = c.push_line.ensures.capacity in
    let room = c.loop-next.invariant.0 in (
      omega arith,
      λ d h p. elim c.match-next-2.branch [
        | in-Ok w ↦
            rw w.machine-is
            (goes_on g.M.Map g.S.Memory g.V.Rule g.R.Rule c.args.machine.now d (vec_items c.args.out.now) (told_by c.args.records) c.loop-next.machine w.run_record.new.machine
            (vec_items c.loop-next.out) (vec_items c.push_line.new.out) w.in-Ok.number w.in-Ok.record (told_by c.next.new.self) c.match-next-2.line w.run_record.result
            w.run_record.ensures (w.line-is ∙ w.line_for-line.ensures) c.push_line.ensures.items
            (subst (λ (k : Items). Going g.M.Map g.S.Memory g.V.Rule g.R.Rule c.args.machine.now c.loop-next.machine d (vec_items c.args.out.now) (told_by c.args.records) (vec_items c.loop-next.out) k)
            (steps ∙ ap (λ z. z ∷ told_by c.next.new.self) w.in-Ok.is) (c.loop-next.invariant.1 d h p)))
        | in-Err w ↦
            rw w.machine-is
            (stops_at g.M.Map g.S.Memory g.V.Rule g.R.Rule c.args.machine.now d (vec_items c.args.out.now) (told_by c.args.records) c.loop-next.machine
            (vec_items c.loop-next.out) (vec_items c.push_line.new.out) w.in-Err.fault (told_by c.next.new.self) c.match-next-2.line
            (w.line-is ∙ w.refused_line-line.ensures ∙ ap (λ n. refused n (number_of w.in-Err.fault)) w.place.ensures) c.push_line.ensures.items
            (subst (λ (k : Items). Going g.M.Map g.S.Memory g.V.Rule g.R.Rule c.args.machine.now c.loop-next.machine d (vec_items c.args.out.now) (told_by c.args.records) (vec_items c.loop-next.out) k)
            (steps ∙ ap (λ z. z ∷ told_by c.next.new.self) w.in-Err.is) (c.loop-next.invariant.1 d h p)))
      ],
    )

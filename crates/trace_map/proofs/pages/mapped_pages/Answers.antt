use Rattle.std.proofs.Common.{◌≡◌, ◌++◌, vec_items, ◌∙◌, sym, arith}
use Rattle.std.proofs.lemmas.List.{append-nil}
use Rattle.trace_map.proofs.Rows.{answered, page_more, process_more, rows_all}
use Rattle.trace_map.proofs.pages.mapped_pages.Goals as goal
use Rattle.trace_map.proofs.pages.mapped_pages.Goals.{in-Ok+in_ok-push, in_default}

pub loop-g-preserved : goal.loop-g-preserved
loop-g-preserved g c =
    let e = c.frame_of.ensures in
    let k : vec_items c.match-frame_of.rows ≡ vec_items c.loop-g.rows ++ answered c.loop-p.p c.loop-g.g c.frame_of.result =
    elim c.match-frame_of.branch [ in-Ok+in_ok-push w ↦ rw (w.rows-is, w.in-Ok.is) w.in_ok-push.ensures.items | in_default w ↦ rw (w.rows-is, w.in_default.is) (sym (append-nil (vec_items c.loop-g.rows))) ] in
    λ s.
    let i = c.loop-g.invariant s in (
      e.kept i.0,
      e.frames i.0 ∙ i.1,
      page_more (g.M.Map.frame c.args.map.now) (g.M.Map.frame c.loop-g.map) c.loop-p.p c.loop-g.g c.frame_of.result _ _ _ (omega arith) (omega arith) i.1 (e.answer i.0) k i.2,
    )

pub loop-p-preserved : goal.loop-p-preserved
loop-p-preserved g c = λ s.
    let i = c.loop-g.invariant s in (
      i.0,
      i.1,
      process_more (g.M.Map.frame c.args.map.now) c.loop-p.p c.loop-g.g _ (omega arith) (omega arith) i.2,
    )

pub returns-clause-rows : goal.returns-clause-rows
returns-clause-rows g c = λ s. rows_all (g.M.Map.frame c.args.map.now) c.loop-p.p _ (omega arith) (omega arith) (c.loop-p.invariant s).2

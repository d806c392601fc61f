use Rattle.std.proofs.Common.{List, ap, ◌∙◌, subst}
use Rattle.paging.specs.Frames.{flat}
use Rattle.records.specs.declared.record.Record.{Record}
use Rattle.records.specs.Traces.{trace_of}
use Rattle.trace_map.specs.Played.{played_all}
use Rattle.trace_map.specs.Traced.{Counted}
use Rattle.trace_map.proofs.trace.map_of_trace.Goals as goal

pub returns : goal.returns
returns c =
    let t = c.in_ok-records.ensures.value in
    let s = c.new-map.ensures.sound c.new.ensures.sound in
    let k = c.play_all.ensures.kept s in
    record {
      whole = t.0;
      small = k.0;
      agree = k.1;
      frames = c.play_all.ensures.frames s ∙ ap (λ (x : List Record). played_all x (flat c.new-map.result.below.entries)) (c.deref-2.ensures.value ∙ t.1) ∙ ap (λ m. played_all (trace_of c.args.bytes.now).records (flat m.entries)) c.new-map.ensures.same ∙ ap (played_all (trace_of c.args.bytes.now).records) c.new.ensures.frames;
      counts = subst (λ (x : List Record). Counted x c.counts_of-counts.result) (c.deref.ensures.value ∙ t.1) c.counts_of-counts.ensures;
    }

use Rattle.std.proofs.Common.{ℕ, List, ◌++◌, length, vec_items, refl, ap, ◌∙◌, arith}
use Rattle.lines.specs.Lines.{line_bytes}
use Rattle.paging.specs.Frames.{flat}
use Rattle.paging.specs.declared.table.FlatTable.{FlatTable}
use Rattle.records.proofs.Whole.{words_length}
use Rattle.records.specs.Traces.{loose_after}
use Rattle.listing.specs.Played.{refused}
use Rattle.listing.proofs.Running.{items_few}
use Rattle.listing.proofs.Whole.{fresh_board, too_long, words_listed, zero_count, zero_memory}
use Rattle.listing.proofs.list.list_trace.Goals.{in-Ok, in-Err}
use Rattle.listing.proofs.list.list_trace.Goals as goal

pub returns-then-bytes-gt-TRACE_BYTES : goal.returns-then-bytes-gt-TRACE_BYTES
returns-then-bytes-gt-TRACE_BYTES c =
    too_long c.args.bytes.now (vec_items c.push_line.new.out) (line_bytes c.refused_line.result) (omega arith)
    (ap line_bytes (c.refused_line.ensures ∙ ap (λ n. refused n 15) c.place.ensures)) (c.push_line.ensures.items ∙ ap (λ (z : List ℕ). z ++ line_bytes c.refused_line.result) c.in_ok-out.ensures.items)

pub overflow_mul-len : goal.overflow_mul-len
overflow_mul-len c =
    let few = words_length c.args.bytes.now in
    let is = ap length c.in_ok-words.ensures in
    let own = c.in_ok-words.words.ok.0 in
    omega arith

pub list_records-requires : goal.list_records-requires
list_records-requires c =
    let own = c.in_ok-words.words.ok.0 in
    let none = c.in_ok-out-2.ensures.len in
    let cap = c.in_ok-out-2.ensures.capacity in
    let here = c.deref.ensures.len in
    let items = ap length c.in-Ok.ensures.0 in
    omega (arith, items_few (loose_after c.args.bytes.now) c.deref.result.now)

pub returns : goal.returns
returns c =
    let cap = c.in_ok-out-2.ensures in
    let sm = c.new-2.ensures.sound c.new.ensures.sound in
    let h = c.new-3.ensures.holds in
    let nf = ap (λ (z : FlatTable). flat z.entries) c.new-2.ensures.same ∙ c.new.ensures.frames in
    let es = fresh_board _ _ _ _ _ refl (c.new-machine.ensures.board tt) (zero_memory 2048 _ h) (zero_count _ h) nf in
    let ws = c.deref.ensures.value ∙ c.in_ok-words.ensures in
    elim c.match-new.branch [
      | in-Ok w ↦
          rw w.out-is
          (words_listed c.args.bytes.now _ (vec_items c.in_ok-out-2.out) (vec_items w.list_records.new.out) _ _ _ _ (omega arith) ws refl w.in-Ok.ensures.0 refl es cap.items
          (w.list_records.ensures _ _ (c.new-machine.ensures.past sm tt)))
      | in-Err w ↦
          let few = words_length c.args.bytes.now in
          let is = ap length ws in
          let many = w.in-Err.ensures.1 in
          absurd (omega arith)
    ]

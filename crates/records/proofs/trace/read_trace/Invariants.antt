use Rattle.std.proofs.Common.{◌≡◌, vec_items}
use Rattle.records.proofs.Telling.{heard}
use Rattle.records.proofs.Steps.{behind}
use Rattle.records.proofs.trace.read_trace.Given as goal
use Rattle.records.specs.Told.{told_by}
use Rattle.records.specs.Traces.{trace_of}

abbrev pub invariant-loop-next : goal.invariant-loop-next
invariant-loop-next l = behind (vec_items l.records) (heard (told_by l.next-iterator)) ≡ trace_of l.bytes

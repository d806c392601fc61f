-- The map of a trace: what its records make of an empty map, or the trace's fault.
use Rattle.std.specs.Prelude.{◌≡◌, List, length, count_by, None, Ok, Err, Result}
use Rattle.paging.specs.Frames.{flat, unmapped, Small}
use Rattle.paging.specs.Places.{Agree}
use Rattle.records.specs.Read.{Fails}
use Rattle.records.specs.Traces.{Trace}
use Rattle.records.specs.declared.record.Record.{Record}
use Rattle.records.specs.declared.trace.TraceError.{TraceError}
use Rattle.trace_map.specs.Played.{is_enter, is_erase, played_all}
use Rattle.trace_map.specs.declared.trace.Counts.{Counts}
use Rattle.trace_map.specs.declared.trace.TraceMap.{TraceMap}

-- the counts are the records' own
pub record Counted (rs : List Record) (n : Counts) : Type 0 where
  pub records : n.records ≡ length rs
  pub enters : n.enters ≡ count_by is_enter rs
  pub erases : n.erases ≡ count_by is_erase rs

-- the trace is whole, the map is sound and means what the records make of an empty map, and they are counted
pub record IsMapOf (t : Trace) (m : TraceMap) : Type 0 where
  pub whole : t.fault ≡ None
  pub small : Small m.map.below.entries
  pub agree : Agree (flat m.map.below.entries) m.map.places
  pub frames : flat m.map.below.entries ≡ played_all t.records unmapped
  pub counts : Counted t.records m.counts

abbrev pub Maps : Trace → Result TraceMap TraceError → Type 0
Maps t (Ok m) = IsMapOf t m
Maps t (Err e) = Fails t e

-- The records of a trace that change its map, played one after another, and counted.
use Rattle.std.specs.Prelude.{Bool, true, false, List, fold, Some, None}
use Rattle.paging.specs.Frames.{Frames, changed, enters, named}
use Rattle.records.specs.declared.record.Record.{Record}
use Rattle.records.specs.declared.record.Record.TheVariants.{Read, Write, Switch, Enter, Erase, DeviceRead, DeviceWrite}

-- the map's meaning after one record: enter and erase change their one entry, no other kind changes any
abbrev pub played : Record → Frames → Frames
played (Read i a) m = m
played (Write i a v) m = m
played (Switch i q) m = m
played (Enter q g f) m = changed (enters q g f) m q.0 g.0 (Some f.0)
played (Erase q g) m = changed (named q.0 g.0) m q.0 g.0 None
played (DeviceRead b) m = m
played (DeviceWrite b ws) m = m

-- and after all records, in their order
abbrev pub played_all : List Record → Frames → Frames
played_all rs m = fold (λ n r. played r n) m rs

-- the records of the two kinds that change a map
abbrev pub is_enter : Record → Bool
is_enter (Read i a) = false
is_enter (Write i a v) = false
is_enter (Switch i q) = false
is_enter (Enter q g f) = true
is_enter (Erase q g) = false
is_enter (DeviceRead b) = false
is_enter (DeviceWrite b ws) = false

abbrev pub is_erase : Record → Bool
is_erase (Read i a) = false
is_erase (Write i a v) = false
is_erase (Switch i q) = false
is_erase (Enter q g f) = false
is_erase (Erase q g) = true
is_erase (DeviceRead b) = false
is_erase (DeviceWrite b ws) = false

use Rattle.base.specs.Sizes.{pages, processes}
use Rattle.std.proofs.Common.{◌*◌}
use Rattle.paging.proofs.Flat.{empty_small, empty_unmapped}
use Rattle.paging.proofs.table.FlatTable.new.Goals as goal

pub returns-clause-sound : goal.returns-clause-sound
returns-clause-sound c = empty_small c.no_entries.result (processes * pages) c.no_entries.ensures

pub returns-clause-frames : goal.returns-clause-frames
returns-clause-frames c = empty_unmapped c.no_entries.result (processes * pages) c.no_entries.ensures

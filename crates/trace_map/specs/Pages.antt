-- The mapped pages of a map, in the order of processes and pages, and the pages that share a frame.
use Rattle.std.specs.Prelude.{ℕ, List, [], ◌∷◌, filter, Some, None, Option, ◌==◌}
use Rattle.std.specs.List.{flat_map, range_with_len}
use Rattle.base.specs.Sizes.{pages, processes}
use Rattle.base.specs.declared.block.Frame.{Frame}
use Rattle.paging.specs.Frames.{Frames}
use Rattle.paging.specs.declared.mapped.MappedPage.{MappedPage}

-- the row of one page: none where it has no frame
abbrev pub row_of : ℕ → ℕ → Option ℕ → List MappedPage
row_of p g None = []
row_of p g (Some f) = record { process = record { 0 = p }; page = record { 0 = g }; frame = record { 0 = f } } ∷ []

-- the rows of one process
abbrev pub rows_of : Frames → ℕ → List MappedPage
rows_of m p = flat_map (λ g. row_of p g (m p g)) (range_with_len 0 pages)

-- all mapped pages
abbrev pub mapped : Frames → List MappedPage
mapped m = flat_map (rows_of m) (range_with_len 0 processes)

-- the rows of one frame
abbrev pub sharing : Frame → List MappedPage → List MappedPage
sharing f = filter (λ r. r.frame.0 == f.0)

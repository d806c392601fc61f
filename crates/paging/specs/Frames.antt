-- What a map means, and what its calls answer and change.
use Rattle.std.specs.Prelude.{◌≡◌, ℕ, ◌+◌, ◌*◌, ◌%◌, ◌<◌, Bool, true, ◌&&◌, List, Some, None, Ok, Err, Option, Result, ◌==◌, if◌then◌else◌, nat_lt, slice_index_or, slice_set}
use Rattle.base.specs.Blocks.{in_page, page_of}
use Rattle.base.specs.Sizes.{frames, page_blocks, pages, processes}
use Rattle.base.specs.declared.block.Frame.{Frame}
use Rattle.base.specs.declared.block.Page.{Page}
use Rattle.base.specs.declared.block.PhysicalBlock.{PhysicalBlock}
use Rattle.base.specs.declared.block.Process.{Process}
use Rattle.base.specs.declared.block.VirtualBlock.{VirtualBlock}
use Rattle.paging.specs.declared.fault.MapFault.{MapFault}
use Rattle.paging.specs.declared.fault.MapFault.TheVariants.{NoFrame, OutOfRange}

-- the meaning of a map: by process and page, a frame or none
abbrev pub Frames : Type 0
Frames = ℕ → ℕ → Option ℕ

-- the process and the page are in their ranges
abbrev pub named : ℕ → ℕ → Bool
named p g = nat_lt p processes && nat_lt g pages

-- a frame stands only at a process and a page in their ranges, and is in its own
abbrev pub Within : Frames → Type 0
Within m = (p g f : ℕ) → m p g ≡ Some f → (named p g ≡ true) × (f < frames)

abbrev pub found : Option ℕ → Page → Result Frame MapFault
found (Some f) page = Ok (record { 0 = f })
found None page = Err (NoFrame page)

-- what the look-up of a page answers
abbrev pub looked : Frames → Process → Page → Result Frame MapFault
looked m p g = if named p.0 g.0 then found (m p.0 g.0) g else Err (OutOfRange g)

-- the block of a frame that stands where a virtual block stands in its page
abbrev pub block_in : ℕ → ℕ → PhysicalBlock
block_in f v = record { 0 = f * page_blocks + in_page v }

abbrev pub in_frame : VirtualBlock → Result Frame MapFault → Result PhysicalBlock MapFault
in_frame v (Ok f) = Ok (block_in f.0 v.0)
in_frame v (Err e) = Err e

-- the page of a virtual block
abbrev pub page_with : VirtualBlock → Page
page_with v = record { 0 = page_of v.0 }

-- what the look-up of a virtual block answers
abbrev pub translated : Frames → Process → VirtualBlock → Result PhysicalBlock MapFault
translated m p v = in_frame v (looked m p (page_with v))

-- no page has a frame
abbrev pub unmapped : Frames
unmapped p g = None

-- one entry replaced
abbrev pub entry : Frames → ℕ → ℕ → Option ℕ → Frames
entry m p g o q h = if q == p && h == g then o else m q h

-- a call that changes one entry: what it answers, and the map's meaning after it
abbrev pub changing : Bool → Page → Result (Unit {0}) MapFault
changing ok page = if ok then Ok tt else Err (OutOfRange page)

abbrev pub changed : Bool → Frames → ℕ → ℕ → Option ℕ → Frames
changed ok m p g o = if ok then entry m p g o else m

-- enter is taken where process, page and frame are in their ranges
abbrev pub enters : Process → Page → Frame → Bool
enters p g f = named p.0 g.0 && nat_lt f.0 frames

-- the straight map: page g of process p at frame (g + 8 p) modulo 64
abbrev pub straight : Frames
straight p g = if named p g then Some ((g + page_blocks * p) % frames) else None

-- the flat table: process after process, page after page
abbrev pub number_of : Option Frame → Option ℕ
number_of (Some f) = Some f.0
number_of None = None

abbrev pub slot : ℕ → ℕ → ℕ
slot p g = p * pages + g

abbrev pub slot_of : ℕ → ℕ → Option ℕ
slot_of p g = if named p g then Some (slot p g) else None

-- the entries with one of them replaced, where there is a slot for it
abbrev pub entry_put : Option ℕ → List (Option Frame) → Option Frame → List (Option Frame)
entry_put (Some i) es o = slice_set es i o
entry_put None es o = es

abbrev pub flat : List (Option Frame) → Frames
flat es p g = if named p g then number_of (slice_index_or es (slot p g) None) else None

-- every frame in the table is in its range
abbrev pub Small : List (Option Frame) → Type 0
Small es = (i f : ℕ) → number_of (slice_index_or es i None) ≡ Some f → f < frames

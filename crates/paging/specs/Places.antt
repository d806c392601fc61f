-- The places of a translation buffer.
use Rattle.std.specs.Prelude.{◌≡◌, ℕ, ◌%◌, ◌&&◌, List, Some, None, Ok, Err, Option, Result, ◌==◌, if◌then◌else◌, slice_index_or, slice_set}
use Rattle.base.specs.declared.block.Frame.{Frame}
use Rattle.base.specs.declared.block.Page.{Page}
use Rattle.base.specs.declared.block.Process.{Process}
use Rattle.paging.specs.Frames.{Frames}
use Rattle.paging.specs.declared.fault.MapFault.{MapFault}
use Rattle.paging.specs.declared.mapped.MappedPage.{MappedPage}
use Rattle.paging.specs.declared.map.Map as maps
use Rattle.paging.specs.declared.buffer.TranslationBuffer.{TranslationBuffer}

-- how many places a buffer has
abbrev pub places : ℕ
places = 16

-- what the places hold: each is empty, or keeps the frame of a page
abbrev pub Places : Type 0
Places = List (Option MappedPage)

-- the place of a page
abbrev pub place_of : Page → ℕ
place_of g = g.0 % places

abbrev pub place_at : Places → ℕ → Option MappedPage
place_at ps i = slice_index_or ps i None

-- the frame that a place gives for a process and a page
abbrev pub given : Option MappedPage → Process → Page → Option Frame
given None p g = None
given (Some k) p g = if k.process.0 == p.0 && k.page.0 == g.0 then Some k.frame else None

abbrev pub kept : Places → Process → Page → Option Frame
kept ps p g = given (place_at ps (place_of g)) p g

-- the places after a look-up that was asked of the map below
abbrev pub noted : Places → Process → Page → Result Frame MapFault → Places
noted ps p g (Ok f) = slice_set ps (place_of g) (Some (record { process = p; page = g; frame = f }))
noted ps p g (Err e) = ps

-- the places after a look-up: as they were where one of them gave the frame
abbrev pub after_look : Option Frame → Places → Process → Page → Result Frame MapFault → Places
after_look (Some f) ps p g r = ps
after_look None ps p g r = noted ps p g r

-- the places after an entry was changed, or was not
abbrev pub after_change : Places → Page → Result (Unit {0}) MapFault → Places
after_change ps g (Ok u) = slice_set ps (place_of g) None
after_change ps g (Err e) = ps

-- what place i holds is of a page that belongs there, and is what the map says
abbrev pub Agrees : Frames → ℕ → Option MappedPage → Type 0
Agrees m i None = Unit {0}
Agrees m i (Some k) = (place_of k.page ≡ i) × (m k.process.0 k.page.0 ≡ Some k.frame.0)

abbrev pub Agree : Frames → Places → Type 0
Agree m ps = (i : ℕ) → Agrees m i (place_at ps i)

-- a buffer is sound: so is the map below, and the places agree with it
abbrev pub Sound : {M : Type 0} → maps.Ghosts M → TranslationBuffer M → Type 0
Sound m b = m.sound b.below × Agree (m.frame b.below) b.places

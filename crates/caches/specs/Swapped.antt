-- Lines swapped out.
use Rattle.std.specs.Prelude.{Bool, true, ◌/◌, ◌==◌, Some, None, Option}
use Rattle.base.specs.declared.block.Page.{Page}
use Rattle.tables.specs.declared.types.VLine.{VLine}
use Rattle.rules.specs.Basic.{pick}
use Rattle.rules.specs.Cache.{swap_line}
use Rattle.rules.specs.Sizes.{page_blocks}

-- whether a line is of the page, where one is given
abbrev pub of_page : Option Page → VLine → Bool
of_page None l = true
of_page (Some g) l = l.tag.0 / page_blocks == g.0

-- a line after all lines, or those of one page, were swapped out
abbrev pub swapped : Option Page → VLine → VLine
swapped o l = pick (of_page o l) (swap_line l) l

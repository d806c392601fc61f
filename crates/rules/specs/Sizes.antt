-- The sizes of the caches, not opened: what is said of them is said of any sizes with the laws of proofs/Sizes.antt.
use Rattle.std.specs.Prelude.{ℕ}

unfoldable pub v_sets : ℕ
v_sets = 16

unfoldable pub v_ways : ℕ
v_ways = 2

unfoldable pub r_sets : ℕ
r_sets = 32

unfoldable pub r_ways : ℕ
r_ways = 4

-- blocks to a page, the base's own size
unfoldable pub page_blocks : ℕ
page_blocks = 8

-- the most processors of a board
abbrev pub most_processors : ℕ
most_processors = 4

-- how many references, switches, enters, erases and transfers are accepted
abbrev pub most_accepted : ℕ
most_accepted = 1000000

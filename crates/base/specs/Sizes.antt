-- The sizes of addresses, maps and memories.
use Rattle.std.specs.Prelude.{ℕ}

-- words to a block
abbrev pub block_words : ℕ
block_words = 4

-- blocks to a page, and to a frame
abbrev pub page_blocks : ℕ
page_blocks = 8

-- virtual addresses, one for each word
abbrev pub addresses : ℕ
addresses = 2048

-- processes that a map knows
abbrev pub processes : ℕ
processes = 8

-- pages to a process
abbrev pub pages : ℕ
pages = 64

-- frames that a map can name
abbrev pub frames : ℕ
frames = 64

-- the most blocks that a memory has
abbrev pub most_blocks : ℕ
most_blocks = 512

-- How addresses, virtual blocks and pages hang together.
use Rattle.std.specs.Prelude.{ℕ, ◌+◌, ◌*◌, ◌/◌, ◌%◌, Ok, Err, Result, nat_lt, if◌then◌else◌}
use Rattle.base.specs.Sizes.{addresses, block_words, page_blocks}
use Rattle.base.specs.declared.block.Address.{Address}
use Rattle.base.specs.declared.block.NoAddress.{NoAddress}

-- an address is the number of a word below the number of addresses
abbrev pub addressed : ℕ → Result Address NoAddress
addressed n = if nat_lt n addresses then Ok (record { 0 = n }) else Err (record { 0 = n })

-- the virtual block of an address, and the word in it
abbrev pub block_of : ℕ → ℕ
block_of a = a / block_words

abbrev pub word_of : ℕ → ℕ
word_of a = a % block_words

-- the page of a virtual block, and the block in it
abbrev pub page_of : ℕ → ℕ
page_of v = v / page_blocks

abbrev pub in_page : ℕ → ℕ
in_page v = v % page_blocks

-- an address by page, block in page and word
abbrev pub composed : ℕ → ℕ → ℕ → ℕ
composed page block word = page * (page_blocks * block_words) + block * block_words + word

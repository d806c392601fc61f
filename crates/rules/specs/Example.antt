-- A worked example: a trace of seven records, and its listing to the byte.
use Rattle.std.specs.Prelude.{◌≡◌, ℕ, ◌/◌, ◌%◌, ◌^◌, true, false, List, [], ◌∷◌, ◌++◌, codes, nat_lt}
use Rattle.base.specs.Sizes.{addresses}
use Rattle.replacement.specs.Recent.{renewed}
use Rattle.rules.specs.Listing.{listing}

-- the bytes of words, the highest first
abbrev pub bytes_of : List ℕ → List ℕ
bytes_of [] = []
bytes_of (w ∷ ws) = (w / 2 ^ 24 % 256) ∷ (w / 2 ^ 16 % 256) ∷ (w / 2 ^ 8 % 256) ∷ (w % 256) ∷ bytes_of ws

-- two pages of process 0 entered at frame 5, a write through the first, a read through the second, a read and a write
-- by processor 1, and a read of a page without a frame
abbrev pub example_trace : List ℕ
example_trace = bytes_of (0x40000005 ∷ 0x40000905 ∷ 0x20000006 ∷ 0x00000011 ∷ 0x10000126 ∷ 0x11000006 ∷ 0x21000006 ∷ 0x00000022 ∷ 0x100000A0 ∷ [])

abbrev pub example_listing : List ℕ
example_listing =
    codes "00000000 00 4 00000000 00000000 00000000" ++ (10 ∷ [])
    ++ (codes "00000001 00 4 00000000 00000000 00000000" ++ (10 ∷ [])
    ++ (codes "00000002 00 3 00000000 30800029 00000000" ++ (10 ∷ [])
    ++ (codes "00000003 00 2 00000011 00000000 00000000" ++ (10 ∷ [])
    ++ (codes "00000004 00 3 00000011 11000029 00000000" ++ (10 ∷ [])
    ++ (codes "00000005 00 0 00000000 21F00029 00000000" ++ (10 ∷ [])
    ++ (codes "00000006 06 4 00000000 00000000 00000000" ++ (10 ∷ [])))))))

-- the listing of the trace, one step of least recently used, and the first address that is refused
pub record WorkedExample : Type 0 where
  pub listed : listing example_trace ≡ example_listing
  pub renews : renewed 27 0 ≡ 108
  pub last_address : nat_lt 2047 addresses ≡ true
  pub first_refused : nat_lt 2048 addresses ≡ false

-- The listing of a whole trace.
use Rattle.std.proofs.Common.{◌≡◌, ℕ, zero, suc, ◌+◌, ◌*◌, ◌<◌, ◌≤◌, Bool, true, false, if◌then◌else◌, ltb, List, [], ◌∷◌, ◌++◌, length, get_or, replicate, Option, sym, refl, ap, ◌∙◌}
use Rattle.std.proofs.lemmas.List.{append-nil}
use Rattle.std.proofs.lemmas.Bool.{le-ltb, lt-ltb}
use Rattle.base.specs.Sizes.{block_words, most_blocks}
use Rattle.memory.specs.Slices.{block_at, whole_blocks}
use Rattle.records.specs.declared.fault.FormatFault.TheVariants.{TooLong}
use Rattle.records.specs.Bytes.{words_of}
use Rattle.records.specs.Traces.{loose_after, stopped, told, trace_bytes, trace_from, trace_of}
use Rattle.lines.specs.Lines.{line_bytes}
use Rattle.rules.specs.Sizes.{most_processors}
use Rattle.rules.specs.Basic.{pick}
use Rattle.rules.specs.Bus.{Blocks}
use Rattle.rules.specs.Cache.{zeros}
use Rattle.rules.specs.Calls.{Board, Rules, made}
use Rattle.rules.specs.Listing.{fault_line, fresh, lines_of, listing, listing_bytes, lru_rules, no_frames, zero_blocks}
use Rattle.rules.proofs.Printed.{listings_print_latest_writes}
use Rattle.listing.specs.Listed.{Listed, items_listed}
use Rattle.listing.proofs.Running.{Items, trace_listed}

listed : (bs out : List ℕ) → out ≡ listing bs → Listed bs out
listed bs out e = record { bytes = e; latest = listings_print_latest_writes.latest (trace_of bs); zeros = listings_print_latest_writes.zeros }

-- a trace that is too long
pub too_long : (bs out line : List ℕ) → trace_bytes < length bs → line ≡ line_bytes (fault_line TooLong) → out ≡ [] ++ line → Listed bs out
too_long bs out line lt el eo =
    listed bs out (eo ∙ el ∙ sym (append-nil (line_bytes (fault_line TooLong)))
    ∙ sym (ap (λ (t : Bool). listing_bytes (lines_of (if t then stopped TooLong else trace_from (length (words_of bs)) 0 (loose_after bs) (words_of bs)))) (lt-ltb trace_bytes (length bs) lt)))

-- any other: the lines of its records and of its fault on a fresh machine
pub words_listed : (bs ws out₀ out : List ℕ) (items : Items) (loose : Bool) (rs : Rules) (st : Board) → length bs ≤ trace_bytes → ws ≡ words_of bs → loose ≡ loose_after bs → items ≡ told 0 (trace_from (length ws) 0 loose ws) → rs ≡ lru_rules → st ≡ fresh → out₀ ≡ []
    → out ≡ out₀ ++ items_listed rs st items → Listed bs out
words_listed bs ws out₀ out items loose rs st le ew el ei er es en eo =
    listed bs out (eo ∙ (λ j. en j ++ items_listed (er j) (es j) ((ei ∙ (λ k. told 0 (trace_from (length (ew k)) 0 (el k) (ew k)))) j))
    ∙ trace_listed lru_rules fresh (trace_from (length (words_of bs)) 0 (loose_after bs) (words_of bs))
    ∙ sym (ap (λ (t : Bool). listing_bytes (lines_of (if t then stopped TooLong else trace_from (length (words_of bs)) 0 (loose_after bs) (words_of bs)))) (le-ltb trace_bytes (length bs) le)))

-- a memory of zero words
zero_at : (n k : ℕ) → ◌≡◌ {A = ℕ} (get_or (replicate n 0) k 0) 0
zero_at zero k = refl
zero_at (suc n) zero = refl
zero_at (suc n) (suc k) = zero_at n k

either : (t : Bool) (ws : List ℕ) → ws ≡ zeros → pick t ws zeros ≡ zeros
either true ws e = e
either false ws e = refl

pub zero_count : (ws : List ℕ) → ws ≡ replicate 2048 0 → whole_blocks ws ≡ most_blocks
zero_count ws e = ap whole_blocks e

pub zero_memory : (n : ℕ) (ws : List ℕ) → ws ≡ replicate n 0 → ◌≡◌ {A = Blocks} (λ b. pick (ltb b (whole_blocks ws)) (block_at ws b) zeros) zero_blocks
zero_memory n ws e = λ j b. at b j
  where
    cell : (k : ℕ) → get_or ws k 0 ≡ 0
    cell k = ap (λ z. get_or z k 0) e ∙ zero_at n k

    at : (b : ℕ) → pick (ltb b (whole_blocks ws)) (block_at ws b) zeros ≡ zeros
    at b = either (ltb b (whole_blocks ws)) (block_at ws b) (λ j. cell (block_words * b) j ∷ cell (block_words * b + 1) j ∷ cell (block_words * b + 2) j ∷ cell (block_words * b + 3) j ∷ [])

-- the board of the program's machine
pub fresh_board : (st : Board) (rs : Rules) (m : Blocks) (c : ℕ) (t : ℕ → ℕ → Option ℕ) → rs ≡ lru_rules → st ≡ made rs most_processors 0 m c t → m ≡ zero_blocks → c ≡ most_blocks → t ≡ no_frames → st ≡ fresh
fresh_board st rs m c t er es em ec et = es ∙ (λ j. made (er j) most_processors 0 (em j) (ec j) (et j))

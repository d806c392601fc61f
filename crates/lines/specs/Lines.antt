-- One line of a listing.
use Rattle.std.specs.Prelude.{◌≡◌, ℕ, ◌<◌, ◌≤◌, List, ◌++◌, length, drop, Ok, Err, Result, slice_index}
use Rattle.lines.specs.Hex.{hex_field}
use Rattle.lines.specs.Levels.{level_number}
use Rattle.lines.specs.declared.line.Line.{Line}
use Rattle.records.specs.declared.fault.FormatFault.{FormatFault}
use Rattle.records.specs.declared.fault.FormatFault.TheVariants.{ShortBuffer}

-- bytes to a line
abbrev pub line_length : ℕ
line_length = 41

-- the byte after each field but the last
abbrev pub space : ℕ
space = 32

-- the byte after the last field
abbrev pub newline : ℕ
newline = 10

-- record, status, level, word and the two messages
abbrev pub line_bytes : Line → List ℕ
line_bytes l =
    hex_field 8 l.«record» space
    ++ (hex_field 2 l.status space
    ++ (hex_field 1 (level_number l.level) space
    ++ (hex_field 8 l.word space
    ++ (hex_field 8 (slice_index l.messages 0) space
    ++ hex_field 8 (slice_index l.messages 1) newline))))

-- what a buffer holds after a line was written to its front, or refused since the buffer is too short
abbrev pub Written : Line → List ℕ → List ℕ → Result (Unit {0}) FormatFault → Type 0
Written l before after (Ok _) = (line_length ≤ length before) × (after ≡ line_bytes l ++ drop line_length before)
Written l before after (Err e) = (length before < line_length) × (e ≡ ShortBuffer l.«record») × (after ≡ before)

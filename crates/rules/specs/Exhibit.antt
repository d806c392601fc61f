-- A run that has each thing that the laws speak of, so that none of them holds emptily.
use Rattle.std.specs.Prelude.{◌≡◌, ℕ, List, [], ◌∷◌, ◌++◌, map}
use Rattle.tables.specs.Messages.{message_word}
use Rattle.lines.specs.declared.line.Level.{Level}
use Rattle.lines.specs.declared.line.Level.TheVariants.{VHit, Synonym, Miss, NoReference}
use Rattle.rules.specs.Rule.{Lawful, lru}
use Rattle.rules.specs.Calls.{Answer, Board}
use Rattle.rules.specs.Run.{Call, reading, writing, switching, entering, taking, releasing, device_reading, device_writing, counts_reading, perform}
use Rattle.rules.specs.History.{History, Setup, event}
use Rattle.rules.specs.Laws.{Past}
use Rattle.rules.specs.Listing.{fresh, lru_rules, no_frames, zero_blocks}

-- what a caller sees of a call: the number, the level, the word, the four words of a device read, the message words
pub record Saw : Type 0 where
  pub number : ℕ
  pub level : Level
  pub word : ℕ
  pub block : List ℕ
  pub messages : List ℕ

abbrev pub saw_of : ℕ → Answer → Saw
saw_of n a = record { number = n; level = a.level; word = a.word; block = a.block; messages = map message_word a.sent }

abbrev pub saw_all : List Call → Board → List Saw
saw_all [] b = []
saw_all (c ∷ cs) b = let s = perform lru_rules c b in saw_of s.number s.answer ∷ saw_all cs s.after

abbrev pub board_after : List Call → Board → Board
board_after [] b = b
board_after (c ∷ cs) b = board_after cs (perform lru_rules c b).after

abbrev pub history_after : List Call → Board → History → History
history_after [] b h = h
history_after (c ∷ cs) b h = let s = perform lru_rules c b in history_after cs s.after (event c s ∷ h)

abbrev pub fresh_setup : Setup
fresh_setup = record { table = no_frames; blocks = zero_blocks }

-- pages 0, 2 and 9 of process 0 at frame 5; pages 4, 6, 8, 10 and 12 at frames 21, 25, 29, 33 and 37, whose blocks
-- share the R-sets of frame 5
abbrev pub enters : List Call
enters = entering 0 0 5 ∷ entering 0 2 5 ∷ entering 0 9 5 ∷ entering 0 4 21 ∷ entering 0 6 25 ∷ entering 0 8 29 ∷ entering 0 10 33 ∷ entering 0 12 37 ∷ []

abbrev pub references : List Call
references =
    writing 0 6 17  -- a miss of processor 0
    ∷ reading 0 6  -- a hit
    ∷ reading 0 70  -- page 2: a synonym in the same V-set
    ∷ reading 0 294  -- page 9: a synonym that moves, dirty, to another V-set
    ∷ reading 1 6  -- a miss of processor 1, which processor 0 supplies
    ∷ writing 1 6 34  -- a hit that invalidates the copy of processor 0
    ∷ switching 1 0
    ∷ reading 1 6  -- the tag fits, but the line is swapped: the V-cache is missed
    ∷ writing 2 134 51  -- page 4 on processor 2
    ∷ reading 2 198  -- pages 6, 8, 10 and 12: the fifth block of one R-set
    ∷ reading 2 262
    ∷ reading 2 326
    ∷ reading 2 390  -- replaces page 4's block, which is written back
    ∷ reading 0 2048  -- refused: no such address
    ∷ []

abbrev pub transfers : List Call
transfers = taking ∷ device_reading 0 41 4 ∷ device_writing 0 41 (1 ∷ 2 ∷ 3 ∷ 4 ∷ []) ∷ releasing 0 ∷ reading 1 6 ∷ counts_reading 2 ∷ []

abbrev pub exhibit : List Call
exhibit = enters ++ (references ++ transfers)

abbrev pub plain : Saw
plain = record { number = 0; level = NoReference; word = 0; block = []; messages = [] }

abbrev pub ref : Level → ℕ → List ℕ → Saw
ref l w ms = record { number = 0; level = l; word = w; block = []; messages = ms }

abbrev pub seen_then : List Saw
seen_then =
    plain ∷ plain ∷ plain ∷ plain ∷ plain ∷ plain ∷ plain ∷ plain
    ∷ ref Miss 0 (0x30800029 ∷ [])
    ∷ ref VHit 17 []
    ∷ ref Synonym 17 []
    ∷ ref Synonym 17 []
    ∷ ref Miss 17 (0x11000029 ∷ [])
    ∷ ref VHit 0 (0x21F00029 ∷ [])
    ∷ plain
    ∷ ref Synonym 34 []
    ∷ ref Miss 0 (0x328000A9 ∷ [])
    ∷ ref Miss 0 (0x128000C9 ∷ [])
    ∷ ref Miss 0 (0x128000E9 ∷ [])
    ∷ ref Miss 0 (0x12800109 ∷ [])
    ∷ ref Miss 0 (0x422000A9 ∷ 0x12800129 ∷ [])
    ∷ record { number = 5; level = NoReference; word = 0; block = []; messages = [] }
    ∷ plain
    ∷ record { number = 0; level = NoReference; word = 0; block = 0 ∷ 0 ∷ 34 ∷ 0 ∷ []; messages = 0x58100029 ∷ [] }
    ∷ record { number = 0; level = NoReference; word = 0; block = []; messages = 0x68F00029 ∷ [] }
    ∷ plain
    ∷ ref Miss 3 (0x11800029 ∷ [])
    ∷ plain
    ∷ []

-- the rules are lawful, the board is reached by a run, and this is what its callers saw
pub record Exhibited : Type 0 where
  pub lawful : Lawful lru
  pub past : Past lru_rules fresh_setup (history_after exhibit fresh []) (board_after exhibit fresh)
  pub saw : saw_all exhibit fresh ≡ seen_then

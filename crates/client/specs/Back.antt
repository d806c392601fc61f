-- A word written through one page of a process and read back through another.
use Rattle.std.specs.Prelude.{◌≡◌, ℕ, zero, suc, ◌*◌, ◌%◌, List, [], ◌∷◌, ◌++◌, Ok, Err, Result}
use Rattle.base.specs.Blocks.{block_of, page_of}
use Rattle.base.specs.Sizes.{block_words, page_blocks}
use Rattle.memory.specs.declared.memory.Memory as memories
use Rattle.paging.specs.declared.map.Map as maps
use Rattle.replacement.specs.declared.rule.Rule as replacements
use Rattle.faults.specs.declared.machine_fault.MachineFault.{MachineFault}
use Rattle.faults.specs.MachineFaults.{fault_number}
use Rattle.rules.specs.Calls.{Answer, Board, Rules, or_next}
use Rattle.rules.specs.Run.{Call, entering, perform, reading, switching, writing}
use Rattle.rules.specs.History.{Read, Wrote, Switched, Entered, History, Setup}
use Rattle.machine.specs.State.{HasPast, board, rules_of}
use Rattle.machine.specs.declared.machine.Machine.{Machine}
use Rattle.client.specs.declared.two_pages.TwoPages.{TwoPages}

-- What processor i does: the first page is entered, the processor goes over to the process and writes x, goes over to
-- the process o and back, the second page is entered at the same frame, and the processor reads.
abbrev pub calls : ℕ → TwoPages → ℕ → ℕ → List Call
calls i at o x =
    entering at.process.0 (page_of (block_of at.first)) at.frame.0
    ∷ switching i at.process.0
    ∷ writing i at.first x
    ∷ switching i o
    ∷ switching i at.process.0
    ∷ entering at.process.0 (page_of (block_of at.second)) at.frame.0
    ∷ reading i at.second
    ∷ []

-- the events of all of them, accepted, the latest first: those before the read, and then the read
abbrev pub before_read : ℕ → TwoPages → ℕ → ℕ → Answer → History
before_read i at o x wrote =
    Entered at.process.0 (page_of (block_of at.second)) at.frame.0
    ∷ Switched i at.process.0
    ∷ Switched i o
    ∷ Wrote i at.first x wrote
    ∷ Switched i at.process.0
    ∷ Entered at.process.0 (page_of (block_of at.first)) at.frame.0
    ∷ []

abbrev pub events : ℕ → TwoPages → ℕ → ℕ → Answer → Answer → History
events i at o x wrote read = Read i at.second read ∷ before_read i at o x wrote

-- the number that the first refused of some calls tells, 0 where all are accepted
unfoldable pub first_refusal : Rules → List Call → Board → ℕ
first_refusal rs [] st = 0
first_refusal rs (c ∷ cs) st = let d = perform rs c st in or_next d.number (first_refusal rs cs d.after)

-- the board after some calls, where the first refused is the last
abbrev pub board_by : ℕ → Board → Board → Board
board_by zero there further = further
board_by (suc n) there further = there

unfoldable pub board_after : Rules → List Call → Board → Board
board_after rs [] st = st
board_after rs (c ∷ cs) st = let d = perform rs c st in board_by d.number d.after (board_after rs cs d.after)

-- the two addresses are of the same word of their pages
abbrev pub SameWord : TwoPages → Type 0
SameWord at = at.first % (page_blocks * block_words) ≡ at.second % (page_blocks * block_words)

module _ {M S V R : Type 0} (m : maps.Ghosts M) (s : memories.Ghosts S) (v : replacements.Ghosts V) (r : replacements.Ghosts R) where
  -- all calls were accepted: their events made the past longer, and the word read is the word written
  pub record ReadBack (i : ℕ) (at : TwoPages) (o x : ℕ) (u : Setup) (h : History) (before after : Machine M S V R) (word : ℕ) : Type 0 where
    pub accepted : first_refusal (rules_of m s v r before) (calls i at o x) (board m s v r before) ≡ 0
    pub reached : board m s v r after ≡ board_after (rules_of m s v r before) (calls i at o x) (board m s v r before)
    pub wrote : Answer
    pub read : Answer
    pub past : HasPast m s v r u (events i at o x wrote read ++ h) after
    pub answered : word ≡ read.word
    pub same : SameWord at → word ≡ x

  -- a call was refused, the first with this fault: the past is longer all the same
  pub record CutShort (i : ℕ) (at : TwoPages) (o x : ℕ) (u : Setup) (h : History) (before after : Machine M S V R) (fault : MachineFault) : Type 0 where
    pub refused : fault_number fault ≡ first_refusal (rules_of m s v r before) (calls i at o x) (board m s v r before)
    pub reached : board m s v r after ≡ board_after (rules_of m s v r before) (calls i at o x) (board m s v r before)
    pub happened : History
    pub past : HasPast m s v r u (happened ++ h) after

  abbrev pub Outcome : ℕ → TwoPages → ℕ → ℕ → Setup → History → Machine M S V R → Machine M S V R → Result ℕ MachineFault → Type 0
  Outcome i at o x u h before after (Ok word) = ReadBack i at o x u h before after word
  Outcome i at o x u h before after (Err fault) = CutShort i at o x u h before after fault

  -- of every set-up u and history h that are the machine's past
  abbrev pub ReadsBack : ℕ → TwoPages → ℕ → ℕ → Machine M S V R → Machine M S V R → Result ℕ MachineFault → Type 0
  ReadsBack i at o x before after result = (u : Setup) (h : History) → HasPast m s v r u h before → Outcome i at o x u h before after result

-- The listing of a trace.
use Rattle.std.specs.Prelude.{◌≡◌, ℕ, List, [], ◌∷◌, ◌++◌, Ok, Err, Result}
use Rattle.memory.specs.declared.memory.Memory as memories
use Rattle.paging.specs.declared.map.Map as maps
use Rattle.replacement.specs.declared.rule.Rule as replacements
use Rattle.records.specs.Traces.{trace_of}
use Rattle.records.specs.declared.fault.FormatFault.{FormatFault}
use Rattle.records.specs.declared.record.Record.{Record}
use Rattle.lines.specs.Lines.{line_bytes}
use Rattle.rules.specs.Calls.{Board, Rules}
use Rattle.rules.specs.History.{History, Setup, first_word}
use Rattle.rules.specs.Exhibit.{fresh_setup}
use Rattle.rules.specs.Listing.{fault_line, line_of, lines_of, listing, played}
use Rattle.rules.specs.Printed.{PrintsLatest}
use Rattle.machine.specs.State.{HasPast, board, rules_of}
use Rattle.machine.specs.declared.machine.Machine.{Machine}

-- the bytes of the lines of what an iterator over records tells, from a board on: a record is played, a fault is told
abbrev pub items_listed : Rules → Board → List (Result (ℕ × Record) FormatFault) → List ℕ
items_listed rs st [] = []
items_listed rs st (Ok p ∷ items) = line_bytes (line_of p.0 (played rs p.1 st)) ++ items_listed rs (played rs p.1 st).after items
items_listed rs st (Err e ∷ items) = line_bytes (fault_line e) ++ items_listed rs st items

-- The bytes are the listing of the trace bs, to the byte. And by records and lines alone: the word printed for each
-- accepted read, a device read's first, is that of the latest accepted write record before it to its physical word;
-- where there is none, the word of a fresh machine, which is 0.
pub record Listed (bs out : List ℕ) : Type 0 where
  pub bytes : out ≡ listing bs
  pub latest : PrintsLatest fresh_setup [] (trace_of bs).records (lines_of (trace_of bs))
  pub zeros : (n : ℕ) → first_word fresh_setup n ≡ 0

module _ {M S V R : Type 0} (m : maps.Ghosts M) (s : memories.Ghosts S) (v : replacements.Ghosts V) (u : replacements.Ghosts R) where
  -- a run so far, from x₀ with nothing listed: x is reached, out is listed, and left is what is still to be told
  pub record Going (x₀ x : Machine M S V R) (c : Setup) (out₀ : List ℕ) (items : List (Result (ℕ × Record) FormatFault)) (out : List ℕ) (left : List (Result (ℕ × Record) FormatFault)) : Type 0 where
    pub history : History
    pub past : HasPast m s v u c history x
    pub rules : rules_of m s v u x ≡ rules_of m s v u x₀
    pub listed : out ++ items_listed (rules_of m s v u x₀) (board m s v u x) left ≡ out₀ ++ items_listed (rules_of m s v u x₀) (board m s v u x₀) items

-- The paths of a reference on a board, and what the code of a path promises.
use Rattle.std.specs.Prelude.{◌≡◌, ℕ, ◌<◌, Some, None, Option, Result}
use Rattle.base.specs.Blocks.{block_of, page_of}
use Rattle.base.specs.declared.block.Page.{Page}
use Rattle.memory.specs.declared.memory.Memory as memories
use Rattle.paging.specs.declared.map.Map as maps
use Rattle.replacement.specs.declared.rule.Rule as replacements
use Rattle.faults.specs.declared.machine_fault.MachineFault.{MachineFault}
use Rattle.rules.specs.Sizes.{most_accepted}
use Rattle.rules.specs.Bus.{Blocks}
use Rattle.rules.specs.Calls.{Board, Rules, Step, completed, frame_number, frame_of, physical, r_hit, r_miss, r_number, reference, v_hit, v_miss, v_number}
use Rattle.rules.specs.Ready.{Ready}
use Rattle.machine.specs.Answers.{access_answer}
use Rattle.machine.specs.References.{ref_of, unless}
use Rattle.machine.specs.Refusals.{Tells, reference_fault}
use Rattle.rules.specs.History.{History, Setup}
use Rattle.records.specs.declared.record.ProcessorNumber.{ProcessorNumber}
use Rattle.machine.specs.State.{Does, HasPast, Sound, board, rules_of}
use Rattle.machine.specs.declared.answer.Access.{Access}
use Rattle.machine.specs.declared.machine.Machine.{Machine}
use Rattle.machine.specs.declared.reference.Reference.{Reference}

-- the page of a reference
abbrev pub page_at : Reference → Page
page_at r = record { 0 = page_of (block_of r.address.0) }

-- the steps of the paths, each with the number that it can tell
module _ (rs : Rules) (st : Board) (r : Reference) where
  abbrev pub hit_step : ℕ → Step
  hit_step w = unless (v_number (Some w) st (ref_of r)) st (completed r.value (ref_of r) (v_hit rs st (ref_of r) w))

  abbrev pub miss_step : Step
  miss_step = unless (frame_number (frame_of st (ref_of r)) st (ref_of r)) st (completed r.value (ref_of r) (v_miss rs st (ref_of r)))

  abbrev pub r_hit_step : ℕ → ℕ → Step
  r_hit_step b k = unless (r_number (Some k) st (ref_of r) b) st (completed r.value (ref_of r) (r_hit rs st (ref_of r) b k))

  abbrev pub r_miss_step : ℕ → Step
  r_miss_step b = unless (r_number None st (ref_of r) b) st (completed r.value (ref_of r) (r_miss rs st (ref_of r) b))

-- the map gives b for the reference, and b is one of the memory's blocks
pub record Found (st : Board) (r : Reference) (b : ℕ) : Type 0 where
  pub frame : ℕ
  pub mapped : frame_of st (ref_of r) ≡ Some frame
  pub block : b ≡ physical frame (ref_of r).vb
  pub below : b < st.count

-- what the code of a path promises on a machine that is ready for it, where Q holds: the step, and what it tells
module _ {M S V R : Type 0} (m : maps.Ghosts M) (s : memories.Ghosts S) (v : replacements.Ghosts V) (u : replacements.Ghosts R) where
  pub record Admitted (r : Reference) (x : Machine M S V R) (f : Blocks) : Type 0 where
    pub sound : Sound m s v u x
    pub ready : Ready f (board m s v u x)
    pub cpu : r.processor.0 < x.count
    pub room : x.accepted < most_accepted

  abbrev pub Path : Reference → Machine M S V R → Machine M S V R → Result Access MachineFault → Type 0 → Step → Type 0
  Path r x y q Q d = (f : Blocks) → Admitted r x f → Q → Does m s v u x y (Tells access_answer (reference_fault r.processor (page_at r)) q) d

  -- a whole reference, on a machine with a past
  abbrev pub Refers : ProcessorNumber → ℕ → Option ℕ → Machine M S V R → Machine M S V R → Result Access MachineFault → Type 0
  Refers p a w x y q = (c : Setup) (h : History) → HasPast m s v u c h x
      → Does m s v u x y (Tells access_answer (reference_fault p (record { 0 = page_of (block_of a) })) q) (reference (rules_of m s v u x) (board m s v u x) p.0 a w)

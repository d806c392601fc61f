-- A machine as a board of the rules, its pasts, and what a call does to it.
use Rattle.std.specs.Prelude.{◌≡◌, ℕ, ◌∷◌, Some, None, Option}
use Rattle.memory.specs.declared.memory.Memory as memories
use Rattle.paging.specs.declared.map.Map as maps
use Rattle.replacement.specs.declared.rule.Rule as replacements
use Rattle.faults.specs.declared.machine_fault.SetupFault.{SetupFault}
use Rattle.faults.specs.MachineFaults.{setup_fault_number}
use Rattle.bus.specs.Passes.{blocks_of}
use Rattle.caches.specs.Choice.{rule_of}
use Rattle.rules.specs.Calls.{Board, Rules, Step}
use Rattle.rules.specs.Run.{Call, perform}
use Rattle.rules.specs.History.{History, Setup, event}
use Rattle.rules.specs.Laws.{Laws, Past}
use Rattle.machine.specs.declared.machine.Machine.{Machine}

-- the number that set-up told, 0 for none
abbrev pub setup_told : Option SetupFault → ℕ
setup_told None = 0
setup_told (Some f) = setup_fault_number f

module _ {M S V R : Type 0} (m : maps.Ghosts M) (s : memories.Ghosts S) (v : replacements.Ghosts V) (r : replacements.Ghosts R) where
  -- the board: the parts by their meanings, the rest as it stands
  abbrev pub board : Machine M S V R → Board
  board x = record { procs = x.processors; cpus = x.count; mem = blocks_of s x.memory; count = s.count x.memory; table = m.frame x.map; held = x.held; accepted = x.accepted; setup = setup_told x.setup; number = x.number }

  abbrev pub rules_of : Machine M S V R → Rules
  rules_of x = record { for_v = rule_of v x.rules.v; for_r = rule_of r x.rules.r }

  -- the map and the memory keep what they were made with
  pub record Sound (x : Machine M S V R) : Type 0 where
    pub map : m.sound x.map
    pub memory : s.sound x.memory

  -- from the set-up u the history h led here
  pub record HasPast (u : Setup) (h : History) (x : Machine M S V R) : Type 0 where
    pub sound : Sound x
    pub past : Past (rules_of x) u h (board x)

  -- what led from x to y, and told T, is the step d of the rules
  pub record Does (x y : Machine M S V R) (T : Step → Type 0) (d : Step) : Type 0 where
    pub sound : Sound y
    pub rules : rules_of y ≡ rules_of x
    pub after : board y ≡ d.after
    pub told : T d

  -- a call c on x with this past: it is the rules' step, its event makes the past longer, and the laws hold of that
  pub record Performed (c : Call) (u : Setup) (h : History) (x y : Machine M S V R) (T : Step → Type 0) : Type 0 where
    pub told : T (perform (rules_of x) c (board x))
    pub after : board y ≡ (perform (rules_of x) c (board x)).after
    pub rules : rules_of y ≡ rules_of x
    pub past : HasPast u (event c (perform (rules_of x) c (board x)) ∷ h) y
    pub laws : Laws u (event c (perform (rules_of x) c (board x)) ∷ h) (board y)

  abbrev pub Performs : Call → Machine M S V R → Machine M S V R → (Step → Type 0) → Type 0
  Performs c x y T = (u : Setup) (h : History) → HasPast u h x → Performed c u h x y T

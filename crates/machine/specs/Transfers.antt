-- The device's calls: what their checks find, what they tell, and the transfers that take and release the bus themselves.
use Rattle.std.specs.Prelude.{◌≡◌, ℕ, zero, suc, ◌<◌, Bool, true, List, [], ◌∷◌, ◌++◌, Some, None, Ok, Err, Option, Result, ◌==◌, slice_index}
use Rattle.base.specs.declared.block.PhysicalBlock.{PhysicalBlock}
use Rattle.memory.specs.declared.memory.Memory as memories
use Rattle.paging.specs.declared.map.Map as maps
use Rattle.replacement.specs.declared.rule.Rule as replacements
use Rattle.lines.specs.declared.line.Level.TheVariants.{NoReference}
use Rattle.tables.specs.declared.message.Message.{Message}
use Rattle.faults.specs.declared.machine_fault.SetupFault.{SetupFault}
use Rattle.faults.specs.declared.machine_fault.MachineFault.{MachineFault}
use Rattle.faults.specs.declared.machine_fault.MachineFault.TheVariants.{BusTaken, NoTenure}
use Rattle.faults.specs.MachineFaults.{fault_number}
use Rattle.rules.specs.Sizes.{most_accepted}
use Rattle.rules.specs.Basic.{both, pick}
use Rattle.rules.specs.Calls.{Answer, Board, Rules, Step, device_number, nothing, take}
use Rattle.rules.specs.Run.{Call, perform}
use Rattle.rules.specs.History.{Event, History, Nothing, Setup, event}
use Rattle.rules.specs.Laws.{Laws}
use Rattle.rules.specs.Listing.{transferred}
use Rattle.machine.specs.Admits.{passed, set_up}
use Rattle.machine.specs.Refusals.{Accepts, Refuses, release_fault, take_fault, transfer_fault}
use Rattle.machine.specs.State.{HasPast, Sound, board, rules_of, setup_told}
use Rattle.machine.specs.declared.machine.Machine.{Machine}
use Rattle.machine.specs.declared.tenure.Tenure.{Tenure}

-- whether the bus is held, and under the number t
abbrev pub tenure_told : Bool → ℕ → ℕ → Result (Unit {0}) MachineFault
tenure_told h n t = pick (both h (t == n)) passed (Err NoTenure)

-- the checks of a release
abbrev pub release_told : Option SetupFault → Bool → ℕ → ℕ → Result (Unit {0}) MachineFault
release_told (Some f) h n t = set_up (Some f)
release_told None h n t = tenure_told h n t

-- what a take tells
abbrev pub Takes : ℕ → Result Tenure MachineFault → Step → Type 0
Takes n (Ok t) d = Accepts d nothing × (t.machine ≡ n) × (t.live ≡ true)
Takes n (Err e) d = Refuses d take_fault e

-- what a release tells
abbrev pub Releases : Tenure → Result (Unit {0}) (MachineFault × Tenure) → Step → Type 0
Releases t (Ok _) d = Accepts d nothing
Releases t (Err p) d = Refuses d release_fault p.0 × (p.1 ≡ t)

-- a refused release hands back the tenure that it was given
abbrev pub Returns : Tenure → Result (Unit {0}) (MachineFault × Tenure) → Type 0
Returns t (Ok _) = Unit {0}
Returns t (Err p) = p.1 ≡ t

-- the answers of transfers
abbrev pub read_answer : List ℕ → Message → Answer
read_answer ws m = record { level = NoReference; word = slice_index ws 0; block = ws; sent = m ∷ [] }

abbrev pub write_answer : Message → Answer
write_answer m = record { level = NoReference; word = 0; block = []; sent = m ∷ [] }

-- what a device read tells of a slice before and after
abbrev pub DeviceReads : PhysicalBlock → List ℕ → List ℕ → Result Message MachineFault → Step → Type 0
DeviceReads b before after (Ok m) d = Accepts d (read_answer after m)
DeviceReads b before after (Err e) d = Refuses d (transfer_fault b) e × (after ≡ before)

-- what a device write tells
abbrev pub DeviceWrites : PhysicalBlock → Result Message MachineFault → Step → Type 0
DeviceWrites b (Ok m) d = Accepts d (write_answer m)
DeviceWrites b (Err e) d = Refuses d (transfer_fault b) e

-- what a refused call leaves is what it found
abbrev pub Unaltered : {X A E : Type 0} → X → X → Result A E → Type 0
Unaltered before after (Ok _) = Unit {0}
Unaltered before after (Err _) = after ≡ before

-- the faults of a transfer of block b that takes the bus itself
abbrev pub block_fault : PhysicalBlock → ℕ → MachineFault
block_fault b n = pick (n == 10) BusTaken (transfer_fault b n)

abbrev pub BlockReads : PhysicalBlock → List ℕ → List ℕ → Result Message MachineFault → Step → Type 0
BlockReads b before after (Ok m) d = Accepts d (read_answer after m)
BlockReads b before after (Err e) d = Refuses d (block_fault b) e × (after ≡ before)

abbrev pub BlockWrites : PhysicalBlock → Result Message MachineFault → Step → Type 0
BlockWrites b (Ok m) d = Accepts d (write_answer m)
BlockWrites b (Err e) d = Refuses d (block_fault b) e

-- a transfer that takes the bus itself and releases it, by the call that it makes under a tenure's number: the listing's
-- device records are such transfers
abbrev pub moving : Rules → (ℕ → Call) → Board → Step
moving rs asked st = transferred (λ s. perform rs (asked s.number) s) st

-- its events, the latest first: that of the take alone where the bus is refused
abbrev pub events_by : ℕ → Event → History
events_by zero e = Nothing ∷ e ∷ Nothing ∷ []
events_by (suc n) e = Nothing ∷ []

abbrev pub moving_events : Rules → (ℕ → Call) → Board → History
moving_events rs asked st = let s = (take st).after in events_by (take st).number (event (asked s.number) (perform rs (asked s.number) s))

module _ {M S V R : Type 0} (m : maps.Ghosts M) (s : memories.Ghosts S) (v : replacements.Ghosts V) (r : replacements.Ghosts R) where
  -- y is x to the rules
  pub record Alike (x y : Machine M S V R) : Type 0 where
    pub sound : Sound m s v r y
    pub rules : rules_of m s v r y ≡ rules_of m s v r x
    pub board : board m s v r y ≡ board m s v r x

  -- the checks of a transfer of block b with k words under the number t: it can be accepted
  pub record Acceptable (t : ℕ) (b : PhysicalBlock) (k : ℕ) (x y : Machine M S V R) : Type 0 where
    pub alike : Alike x y
    pub number : device_number (board m s v r x) t b.0 k ≡ 0
    pub setup : setup_told x.setup ≡ 0
    pub room : y.accepted < most_accepted
    pub below : b.0 < s.count y.memory

  -- or it is refused with the fault e
  pub record Rejected (t : ℕ) (b : PhysicalBlock) (k : ℕ) (x y : Machine M S V R) (e : MachineFault) : Type 0 where
    pub alike : Alike x y
    pub number : fault_number e ≡ device_number (board m s v r x) t b.0 k
    pub fault : e ≡ transfer_fault b (device_number (board m s v r x) t b.0 k)

  abbrev pub Checks : ℕ → PhysicalBlock → ℕ → Machine M S V R → Machine M S V R → Result (Unit {0}) MachineFault → Type 0
  Checks t b k x y (Ok _) = Acceptable t b k x y
  Checks t b k x y (Err e) = Rejected t b k x y e

  -- such a transfer on x with this past: it is the rules', its events make the past longer, and the laws hold of that
  pub record Moved (asked : ℕ → Call) (u : Setup) (h : History) (x y : Machine M S V R) (T : Step → Type 0) : Type 0 where
    pub told : T (moving (rules_of m s v r x) asked (board m s v r x))
    pub after : board m s v r y ≡ (moving (rules_of m s v r x) asked (board m s v r x)).after
    pub rules : rules_of m s v r y ≡ rules_of m s v r x
    pub past : HasPast m s v r u (moving_events (rules_of m s v r x) asked (board m s v r x) ++ h) y
    pub laws : Laws u (moving_events (rules_of m s v r x) asked (board m s v r x) ++ h) (board m s v r y)

  abbrev pub Moves : (ℕ → Call) → Machine M S V R → Machine M S V R → (Step → Type 0) → Type 0
  Moves asked x y T = (u : Setup) (h : History) → HasPast m s v r u h x → Moved asked u h x y T

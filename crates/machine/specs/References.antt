-- The parts of a reference over the processors' records and the memory, as the code has them.
use Rattle.std.specs.Prelude.{◌≡◌, ℕ, zero, suc, Bool, true, false, List, [], ◌∷◌, Ok, Err, Option, Result, slice_set}
use Rattle.memory.specs.declared.memory.Memory as memories
use Rattle.records.specs.declared.record.ProcessorNumber.{ProcessorNumber}
use Rattle.tables.specs.declared.message.Message.{Message}
use Rattle.tables.specs.declared.message.MessageKind.TheVariants.{Invalidation}
use Rattle.tables.specs.declared.types.EntryState.TheVariants.{Private}
use Rattle.tables.specs.declared.types.REntry.{REntry}
use Rattle.tables.specs.declared.types.Processor.{Processor}
use Rattle.faults.specs.declared.machine_fault.MachineFault.{MachineFault}
use Rattle.faults.specs.declared.machine_fault.MachineFault.TheVariants.{BusHeld}
use Rattle.bus.specs.Passes.{blocks_of}
use Rattle.rules.specs.Cache.{entry_at, put_entry, with_state}
use Rattle.rules.specs.Bus.{Blocks, message, no_data, proc_at, put_block, take_pass, from_cpu}
use Rattle.rules.specs.Calls.{Board, Ref, Step, bus_number, make_ref, needs_upgrade, nothing}
use Rattle.machine.specs.Answers.{sent_list}
use Rattle.machine.specs.declared.answer.Sent.{Sent}
use Rattle.machine.specs.declared.reference.Reference.{Reference}

-- a reference of the code as one of the rules
abbrev pub ref_of : Reference → Ref
ref_of r = make_ref r.processor.0 r.address.0 r.value

-- a call refused with a number, else the step
abbrev pub unless : ℕ → Board → Step → Step
unless zero st s = s
unless (suc n) st s = record { number = suc n; answer = nothing; after = st }

-- a write that finds a shared entry: the others drop the block, and the entry becomes private
abbrev pub upgraded : Bool → ℕ → List Processor → ℕ → ℕ → ℕ → List Processor
upgraded false n ps i h k = ps
upgraded true n ps i h k =
    let qs = take_pass n i (entry_at (proc_at ps i) h k).block.0 ps in
    slice_set qs i (put_entry (proc_at qs i) h k (with_state (entry_at (proc_at qs i) h k) Private))

abbrev pub upgrade_messages : Bool → List Processor → ℕ → ℕ → ℕ → List Message
upgrade_messages false ps i h k = []
upgrade_messages true ps i h k = message Invalidation (from_cpu i) no_data (entry_at (proc_at ps i) h k).block.0 ∷ []

-- whether the entry at (h, k) must be upgraded
abbrev pub must_upgrade : Option ℕ → List Processor → ℕ → ℕ → ℕ → Bool
must_upgrade v ps i h k = needs_upgrade v (entry_at (proc_at ps i) h k)

-- a claim of the entry at (h, k): the number 8, or the processors after it and the message
pub record Claimed (held : Bool) (v : Option ℕ) (n i h k : ℕ) (ps qs : List Processor) (sent : Sent) : Type 0 where
  pub number : bus_number held (must_upgrade v ps i h k) ≡ 0
  pub processors : qs ≡ upgraded (must_upgrade v ps i h k) n ps i h k
  pub messages : sent_list sent ≡ upgrade_messages (must_upgrade v ps i h k) ps i h k

pub record Kept (held : Bool) (v : Option ℕ) (p : ProcessorNumber) (i h k : ℕ) (ps qs : List Processor) (e : MachineFault) : Type 0 where
  pub number : bus_number held (must_upgrade v ps i h k) ≡ 8
  pub processors : qs ≡ ps
  pub fault : e ≡ BusHeld p

abbrev pub Claims : Bool → Reference → ℕ → ℕ → ℕ → List Processor → List Processor → Result Sent MachineFault → Type 0
Claims held r n h k ps qs (Ok sent) = Claimed held r.value n r.processor.0 h k ps qs sent
Claims held r n h k ps qs (Err e) = Kept held r.value r.processor r.processor.0 h k ps qs e

-- memory after an entry went that may be newer than memory
abbrev pub backed : Bool → Blocks → REntry → Blocks
backed false m e = m
backed true m e = put_block m e.block.0 e.words

module _ {S : Type 0} (s : memories.Ghosts S) where
  pub record Backs (e : REntry) (x y : S) : Type 0 where
    pub sound : s.sound y
    pub count : s.count y ≡ s.count x
    pub blocks : blocks_of s y ≡ backed e.rdirty (blocks_of s x) e

-- A transfer that takes the bus itself and releases it.
use Rattle.std.proofs.Common.{◌≡◌, ℕ, zero, suc, Bool, true, false, eqb, List, ◌∷◌, ◌++◌, Ok, Err, Result, sym, refl, ap, ◌∙◌, subst, arith}
use Rattle.std.proofs.lemmas.Bool.{eqb-false, eqb-true}
use Rattle.base.specs.Sizes.{block_words}
use Rattle.base.specs.declared.block.PhysicalBlock.{PhysicalBlock}
use Rattle.memory.specs.declared.fault.MemoryFault.TheVariants.{Outside}
use Rattle.memory.specs.declared.memory.Memory as memories
use Rattle.paging.specs.declared.map.Map as maps
use Rattle.replacement.specs.declared.rule.Rule as replacements
use Rattle.records.specs.declared.record.Record.TheVariants.{DeviceRead, DeviceWrite}
use Rattle.tables.specs.declared.message.Message.{Message}
use Rattle.faults.specs.declared.machine_fault.Caller.TheVariants.{Device}
use Rattle.faults.specs.declared.machine_fault.SetupFault.TheVariants.{Processors, MemorySize}
use Rattle.faults.specs.declared.machine_fault.MachineFault.{MachineFault}
use Rattle.faults.specs.declared.machine_fault.MachineFault.TheVariants.{Setup as Unset, Full, BusTaken, NoTenure, Memory, SliceLength}
use Rattle.faults.specs.MachineFaults.{fault_number}
use Rattle.rules.specs.Basic.{pick}
use Rattle.rules.specs.Calls.{Answer, Board, Rules, Step, release, take}
use Rattle.rules.specs.Run.{Call, device_reading, device_writing, perform, releasing, taking}
use Rattle.rules.specs.History.{Event, History, Nothing, Setup, event, event_by}
use Rattle.rules.specs.Laws.{Laws}
use Rattle.rules.specs.Listing.{played, transfer_by}
use Rattle.rules.proofs.Printed.{release_idle, take_idle}
use Rattle.machine.specs.Refusals.{Refuses, take_fault, transfer_fault}
use Rattle.machine.specs.State.{HasPast, Performed, board, rules_of}
use Rattle.machine.specs.Transfers.{BlockReads, BlockWrites, DeviceReads, DeviceWrites, Moved, block_fault, events_by, moving_events, moving}
use Rattle.machine.specs.declared.machine.Machine.{Machine}

-- the faults of a take and of a transfer are those of both together
pub take_block : (b : PhysicalBlock) (n : ℕ) (e : MachineFault) → fault_number e ≡ n → e ≡ take_fault n → e ≡ block_fault b n
take_block b n e en ee = go (eqb n 10) (eqb n 1) (eqb n 2) refl ee
  where
    go : (p q r : Bool) → eqb n 10 ≡ p → e ≡ pick q (Unset Processors) (pick r (Unset MemorySize) BusTaken)
        → e ≡ pick p BusTaken (pick q (Unset Processors) (pick r (Unset MemorySize) (pick (eqb n 3) (Full Device) (pick (eqb n 11) NoTenure (pick (eqb n 12) (Memory Device (Outside b)) SliceLength)))))
    go true q r ep h = ee ∙ ap take_fault (eqb-true n 10 ep)
    go false true r ep h = h
    go false false true ep h = h
    go false false false ep h = absurd (eqb-false n 10 ep (sym en ∙ ap fault_number h))

pub transfer_block : (b : PhysicalBlock) (n : ℕ) (e : MachineFault) → fault_number e ≡ n → e ≡ transfer_fault b n → e ≡ block_fault b n
transfer_block b n e en ee = go (eqb n 10) refl
  where
    go : (p : Bool) → eqb n 10 ≡ p → e ≡ pick p BusTaken (transfer_fault b n)
    go true ep =
        let k : n ≡ 10 = eqb-true n 10 ep in
        let z : ◌≡◌ {A = ℕ} 13 10 = sym (ap fault_number (ee ∙ ap (transfer_fault b) k)) ∙ en ∙ k in absurd (omega arith)
    go false ep = ee

-- what a transfer tells of its step, it tells of a step with the same number and answer
pub reads_told : (b : PhysicalBlock) (before after : List ℕ) (q : Result Message MachineFault) (d d' : Step) → d'.number ≡ d.number → d'.answer ≡ d.answer → DeviceReads b before after q d → BlockReads b before after q d'
reads_told b before after (Ok w) d d' en ea h = record { number = en ∙ h.number; answer = h.answer ∙ sym ea }
reads_told b before after (Err e) d d' en ea h =
    (record { number = h.0.number ∙ sym en; fault = transfer_block b d'.number e (h.0.number ∙ sym en) (h.0.fault ∙ ap (transfer_fault b) (sym en)) }, h.1)

pub writes_told : (b : PhysicalBlock) (q : Result Message MachineFault) (d d' : Step) → d'.number ≡ d.number → d'.answer ≡ d.answer → DeviceWrites b q d → BlockWrites b q d'
writes_told b (Ok w) d d' en ea h = record { number = en ∙ h.number; answer = h.answer ∙ sym ea }
writes_told b (Err e) d d' en ea h =
    record { number = h.number ∙ sym en; fault = transfer_block b d'.number e (h.number ∙ sym en) (h.fault ∙ ap (transfer_fault b) (sym en)) }

pub take_told : (b : PhysicalBlock) (e : MachineFault) (d : Step) → Refuses d take_fault e → Refuses d (block_fault b) e
take_told b e d h = record { number = h.number; fault = take_block b d.number e h.number h.fault }

-- they are the listing's device records
pub read_played : (rs : Rules) (b : PhysicalBlock) (st : Board) → moving rs (λ t. device_reading t b.0 block_words) st ≡ played rs (DeviceRead b) st
read_played rs b st = refl

pub write_played : (rs : Rules) (b : PhysicalBlock) (ws : List ℕ) (st : Board) → moving rs (λ t. device_writing t b.0 ws) st ≡ played rs (DeviceWrite b ws) st
write_played rs b ws st = refl

module _ {M S V R : Type 0} (m : maps.Ghosts M) (s : memories.Ghosts S) (v : replacements.Ghosts V) (r : replacements.Ghosts R) (asked : ℕ → Call) (u : Setup) (h : History) (x : Machine M S V R) where
  abbrev st : Board
  st = board m s v r x

  abbrev rs : Rules
  rs = rules_of m s v r x

  abbrev move : Board → Step
  move z = perform rs (asked z.number) z

  abbrev move_event : Event
  move_event = event (asked (take st).after.number) (move (take st).after)

  -- the take is refused
  pub stays : (y : Machine M S V R) (T₁ T : Step → Type 0) (e : MachineFault) → Performed m s v r taking u h x y T₁ → Refuses (take st) take_fault e → T (take st) → Moved m s v r asked u h x y T
  stays y T₁ T e P f t = go (take st).number refl
    where
      go : (n : ℕ) → (take st).number ≡ n → Moved m s v r asked u h x y T
      go zero en = let z : ◌≡◌ {A = ℕ} 0 10 = sym (f.number ∙ en) ∙ ap fault_number (f.fault ∙ ap take_fault en) in absurd (omega arith)
      go (suc k) en =
          let step : take st ≡ moving rs asked st = λ j. transfer_by (sym en j) move (take st) in
          let past : event taking (take st) ∷ h ≡ moving_events rs asked st ++ h =
          (λ j. take_idle (take st).number (take st).answer j ∷ h) ∙ ap (λ (z : ℕ). events_by z move_event ++ h) (sym en) in
          record {
            told = subst T step t;
            after = P.after ∙ ap (λ (z : Step). z.after) step;
            rules = P.rules;
            past = subst (λ (z : History). HasPast m s v r u z y) past P.past;
            laws = subst (λ (z : History). Laws u z (board m s v r y)) past P.laws;
          }

  -- the bus is taken, the transfer made or refused, and the bus released
  pub moves : ((rs' : Rules) (t : ℕ) (z : Board) → perform rs' (asked t) z ≡ perform rs (asked t) z)
      → (x₁ x₂ y : Machine M S V R) (t : ℕ) (T₀ T₁ T₂ T : Step → Type 0) → t ≡ x.number → x₁.number ≡ x.number → (take st).number ≡ 0
      → ((d d' : Step) → d'.number ≡ d.number → d'.answer ≡ d.answer → T₁ d → T d')
      → (P₀ : Performed m s v r taking u h x x₁ T₀)
      → (P₁ : Performed m s v r (asked t) u (event taking (take st) ∷ h) x₁ x₂ T₁)
      → (P₂ : Performed m s v r (releasing t) u (event (asked t) (perform (rules_of m s v r x₁) (asked t) (board m s v r x₁)) ∷ event taking (take st) ∷ h) x₂ y T₂)
      → Moved m s v r asked u h x y T
  moves same x₁ x₂ y t T₀ T₁ T₂ T et ex en tells P₀ P₁ P₂ =
      let st₁ = (take st).after in
      let d₁ = perform (rules_of m s v r x₁) (asked t) (board m s v r x₁) in
      let at : t ≡ st₁.number = et ∙ sym ex ∙ ap (λ (z : Board). z.number) P₀.after in
      let made : d₁ ≡ move st₁ = same (rules_of m s v r x₁) t (board m s v r x₁) ∙ (λ j. perform rs (asked (at j)) (P₀.after j)) in
      let whole : Step = record { number = (move st₁).number; answer = (move st₁).answer; after = (release (move st₁).after st₁.number).after } in
      let step : whole ≡ moving rs asked st = λ j. transfer_by (sym en j) move (take st) in
      let back : board m s v r x₂ ≡ (move st₁).after = P₁.after ∙ ap (λ (z : Step). z.after) made in
      let d₂ = release (board m s v r x₂) t in
      let past : event (releasing t) d₂ ∷ event (asked t) d₁ ∷ event taking (take st) ∷ h ≡ moving_events rs asked st ++ h =
      (λ j. release_idle d₂.number t d₂.answer j ∷ event (asked (at j)) (made j) ∷ take_idle (take st).number (take st).answer j ∷ h) ∙ ap (λ (z : ℕ). events_by z move_event ++ h) (sym en) in
      record {
        told = tells d₁ (moving rs asked st) (sym (ap (λ (z : Step). z.number) step) ∙ sym (ap (λ (z : Step). z.number) made)) (sym (ap (λ (z : Step). z.answer) step) ∙ sym (ap (λ (z : Step). z.answer) made)) P₁.told;
        after = P₂.after ∙ (λ j. (release (back j) (at j)).after) ∙ ap (λ (z : Step). z.after) step;
        rules = P₂.rules ∙ P₁.rules ∙ P₀.rules;
        past = subst (λ (z : History). HasPast m s v r u z y) past P₂.past;
        laws = subst (λ (z : History). Laws u z (board m s v r y)) past P₂.laws;
      }

-- What the first checks give: a refusal, or that the rules' first numbers are 0.
use Rattle.std.proofs.Common.{◌≡◌, ℕ, ◌<◌, Bool, true, false, leb, Some, None, Err, Option, refl, ap, ◌∙◌, arith, leb-false}
use Rattle.memory.specs.declared.memory.Memory as memories
use Rattle.paging.specs.declared.map.Map as maps
use Rattle.replacement.specs.declared.rule.Rule as replacements
use Rattle.faults.specs.declared.machine_fault.Caller.{Caller}
use Rattle.faults.specs.declared.machine_fault.SetupFault.{SetupFault}
use Rattle.faults.specs.declared.machine_fault.SetupFault.TheVariants.{Processors, MemorySize}
use Rattle.faults.specs.declared.machine_fault.MachineFault.{MachineFault}
use Rattle.faults.specs.declared.machine_fault.MachineFault.TheVariants.{Setup, Full}
use Rattle.faults.specs.MachineFaults.{fault_number}
use Rattle.rules.specs.Sizes.{most_accepted}
use Rattle.rules.specs.Basic.{pick}
use Rattle.rules.specs.Calls.{Answer, Step, full_number, or_next}
use Rattle.machine.specs.Admits.{admitted, passed, set_up}
use Rattle.machine.specs.References.{unless}
use Rattle.machine.specs.Refusals.{Tells, counted_fault, first_fault}
use Rattle.machine.specs.State.{Does, Sound, board, setup_told}
use Rattle.machine.specs.declared.machine.Machine.{Machine}
use Rattle.machine.proofs.Ends.{stops}

module _ {M S V R : Type 0} (m : maps.Ghosts M) (s : memories.Ghosts S) (v : replacements.Ghosts V) (u : replacements.Ghosts R) (x : Machine M S V R) (so : Sound m s v u x) where
  -- the set-up's number, in a call whose faults begin with it
  pub setup_stops : {A : Type 0} (answer : A → Answer) (other : ℕ → MachineFault) (rest : ℕ) (c : Step) (e : MachineFault) → set_up x.setup ≡ Err e
      → Does m s v u x x (Tells answer (λ n. first_fault n (other n)) (Err e)) (unless (or_next (setup_told x.setup) rest) (board m s v u x) c)
  setup_stops answer other rest c e h = go x.setup refl h
    where
      go : (o : Option SetupFault) → x.setup ≡ o → set_up o ≡ Err e → Does m s v u x x (Tells answer (λ n. first_fault n (other n)) (Err e)) (unless (or_next (setup_told x.setup) rest) (board m s v u x) c)
      go None eo q = let z : ◌≡◌ {A = ℕ} 0 1 = cc in absurd (omega arith)
      go (Some Processors) eo q =
          let ee : e ≡ Setup Processors = cc in
          stops m s v u (λ n. first_fault n (other n)) x answer x 0 _ c e so refl refl (ap (λ (z : Option SetupFault). or_next (setup_told z) rest) eo) ee (ap fault_number ee)
      go (Some MemorySize) eo q =
          let ee : e ≡ Setup MemorySize = cc in
          stops m s v u (λ n. first_fault n (other n)) x answer x 1 _ c e so refl refl (ap (λ (z : Option SetupFault). or_next (setup_told z) rest) eo) ee (ap fault_number ee)

  pub setup_passes : set_up x.setup ≡ passed → setup_told x.setup ≡ 0
  setup_passes h = go x.setup h
    where
      go : (o : Option SetupFault) → set_up o ≡ passed → setup_told o ≡ 0
      go None q = refl
      go (Some f) q = let z : ◌≡◌ {A = ℕ} 0 1 = cc in absurd (omega arith)

  -- the same with the million
  pub admit_stops : {A : Type 0} (answer : A → Answer) (who : Caller) (other : ℕ → MachineFault) (rest : ℕ) (c : Step) (e : MachineFault) → admitted x.setup x.accepted who ≡ Err e
      → Does m s v u x x (Tells answer (λ n. counted_fault n who (other n)) (Err e)) (unless (or_next (full_number (board m s v u x)) rest) (board m s v u x) c)
  admit_stops answer who other rest c e h = go x.setup refl h
    where
      full : (o : Option SetupFault) → x.setup ≡ o → o ≡ None → (t : Bool) → leb most_accepted x.accepted ≡ t → pick t (Err (Full who)) passed ≡ Err e → Does m s v u x x (Tells answer (λ n. counted_fault n who (other n)) (Err e)) (unless (or_next (full_number (board m s v u x)) rest) (board m s v u x) c)
      full o eo en false et q = let z : ◌≡◌ {A = ℕ} 0 1 = cc in absurd (omega arith)
      full o eo en true et q =
          let ee : e ≡ Full who = cc in
          stops m s v u (λ n. counted_fault n who (other n)) x answer x 2 _ c e so refl refl
          ((λ j. or_next (or_next (setup_told ((eo ∙ en) j)) (pick (et j) 3 0)) rest)) ee (ap fault_number ee)

      go : (o : Option SetupFault) → x.setup ≡ o → admitted o x.accepted who ≡ Err e → Does m s v u x x (Tells answer (λ n. counted_fault n who (other n)) (Err e)) (unless (or_next (full_number (board m s v u x)) rest) (board m s v u x) c)
      go None eo q = full None eo refl (leb most_accepted x.accepted) refl q
      go (Some Processors) eo q =
          let ee : e ≡ Setup Processors = cc in
          stops m s v u (λ n. counted_fault n who (other n)) x answer x 0 _ c e so refl refl (ap (λ (z : Option SetupFault). or_next (or_next (setup_told z) (pick (leb most_accepted x.accepted) 3 0)) rest) eo) ee (ap fault_number ee)
      go (Some MemorySize) eo q =
          let ee : e ≡ Setup MemorySize = cc in
          stops m s v u (λ n. counted_fault n who (other n)) x answer x 1 _ c e so refl refl (ap (λ (z : Option SetupFault). or_next (or_next (setup_told z) (pick (leb most_accepted x.accepted) 3 0)) rest) eo) ee (ap fault_number ee)

  pub record Open : Type 0 where
    pub setup : setup_told x.setup ≡ 0
    pub full : full_number (board m s v u x) ≡ 0
    pub room : x.accepted < most_accepted

  pub admit_passes : (who : Caller) → admitted x.setup x.accepted who ≡ passed → Open
  admit_passes who h = go x.setup refl h
    where
      room : x.setup ≡ None → (t : Bool) → leb most_accepted x.accepted ≡ t → pick t (Err (Full who)) passed ≡ passed → Open
      room eo true et q = let z : ◌≡◌ {A = ℕ} 0 1 = cc in absurd (omega arith)
      room eo false et q = record {
        setup = ap setup_told eo;
        full = λ j. or_next (setup_told (eo j)) (pick (et j) 3 0);
        room = leb-false most_accepted x.accepted et;
      }

      go : (o : Option SetupFault) → x.setup ≡ o → admitted o x.accepted who ≡ passed → Open
      go None eo q = room eo (leb most_accepted x.accepted) refl q
      go (Some f) eo q = let z : ◌≡◌ {A = ℕ} 0 1 = cc in absurd (omega arith)

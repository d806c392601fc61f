-- Taking the bus and releasing it.
use Rattle.std.proofs.Common.{◌≡◌, ℕ, zero, suc, Bool, true, false, eqb, Some, None, Ok, Err, Option, sym, refl, ap, ◌∙◌, subst, arith}
use Rattle.memory.specs.declared.memory.Memory as memories
use Rattle.paging.specs.declared.map.Map as maps
use Rattle.replacement.specs.declared.rule.Rule as replacements
use Rattle.faults.specs.declared.machine_fault.SetupFault.{SetupFault}
use Rattle.faults.specs.declared.machine_fault.MachineFault.{MachineFault}
use Rattle.faults.specs.declared.machine_fault.MachineFault.TheVariants.{BusTaken, NoTenure}
use Rattle.faults.specs.MachineFaults.{fault_number}
use Rattle.rules.specs.Basic.{both, pick}
use Rattle.rules.specs.Calls.{Answer, Board, Step, nothing, or_next, release, release_bus, take, take_bus}
use Rattle.rules.specs.Run.{Call, perform, releasing, taking}
use Rattle.machine.specs.Admits.{passed, set_up}
use Rattle.machine.specs.References.{unless}
use Rattle.machine.specs.Refusals.{Accepts, Tells, release_fault, take_fault}
use Rattle.machine.specs.State.{Does, Performs, Sound, board, rules_of, setup_told}
use Rattle.machine.specs.Transfers.{Releases, Takes, release_told, tenure_told}
use Rattle.machine.specs.declared.machine.Machine.{Machine}
use Rattle.machine.specs.declared.tenure.Tenure.{Tenure}
use Rattle.machine.proofs.Ends.{stops}
use Rattle.machine.proofs.Admitting.{setup_passes, setup_stops}
use Rattle.machine.proofs.Choosing.{Chooses, lawful}
use Rattle.machine.proofs.Lawful.{performs}

take_unless : (n : ℕ) (st : Board) → unless n st (take_bus 0 st) ≡ take_bus n st
take_unless zero st = refl
take_unless (suc n) st = refl

release_unless : (n : ℕ) (st : Board) → unless n st (release_bus 0 st) ≡ release_bus n st
release_unless zero st = refl
release_unless (suc n) st = refl

-- what the check of a tenure found
pub tenure_fails : (h : Bool) (n t : ℕ) (e : MachineFault) → tenure_told h n t ≡ Err e → (both h (eqb t n) ≡ false) × (e ≡ NoTenure)
tenure_fails h n t e q = go (both h (eqb t n)) refl q
  where
    go : (z : Bool) → both h (eqb t n) ≡ z → pick z passed (Err NoTenure) ≡ Err e → (both h (eqb t n) ≡ false) × (e ≡ NoTenure)
    go true ez p = let z : ◌≡◌ {A = ℕ} 0 1 = cc in absurd (omega arith)
    go false ez p = (ez, cc)

pub tenure_holds : (h : Bool) (n t : ℕ) → tenure_told h n t ≡ passed → both h (eqb t n) ≡ true
tenure_holds h n t q = go (both h (eqb t n)) refl q
  where
    go : (z : Bool) → both h (eqb t n) ≡ z → pick z passed (Err NoTenure) ≡ passed → both h (eqb t n) ≡ true
    go true ez p = ez
    go false ez p = let z : ◌≡◌ {A = ℕ} 0 1 = cc in absurd (omega arith)

module _ {M S V R : Type 0} (m : maps.Ghosts M) (s : memories.Ghosts S) (v : replacements.Ghosts V) (u : replacements.Ghosts R) (cv : Chooses v) (cu : Chooses u) (x : Machine M S V R) where
  abbrev st : Board
  st = board m s v u x

  -- the machine with the bus held or not
  abbrev pub holding : Bool → Machine M S V R
  holding h = record { map = x.map; memory = x.memory; rules = x.rules; processors = x.processors; count = x.count; held = h; accepted = x.accepted; setup = x.setup; number = x.number }

  does : (c : Call) (y : Machine M S V R) (T : Step → Type 0) → (Sound m s v u x → Does m s v u x y T (perform (rules_of m s v u x) c st)) → Performs m s v u c x y T
  does c y T k = performs m s v u c x y T (lawful v cv x.rules.v) (lawful u cu x.rules.r) (λ w h P. k P.sound)

  -- a take refused is a step with no answer
  take_refused : (e : MachineFault) → (Sound m s v u x → Does m s v u x x (Tells {A = Answer} (λ a. a) take_fault (Err e)) (unless (or_next st.setup (pick st.held 10 0)) st (take_bus 0 st)))
      → Performs m s v u taking x x (Takes x.number (Err e))
  take_refused e k =
      does taking x (Takes x.number (Err e)) (λ so.
      let d = subst (Does m s v u x x (Tells {A = Answer} (λ a. a) take_fault (Err e))) (take_unless (or_next st.setup (pick st.held 10 0)) st) (k so) in
      record { sound = d.sound; rules = d.rules; after = d.after; told = d.told })

  pub take_unset : (e : MachineFault) → Err e ≡ set_up x.setup → Performs m s v u taking x x (Takes x.number (Err e))
  take_unset e a = take_refused e (λ so. setup_stops m s v u x so {A = Answer} (λ a. a) (λ _. BusTaken) (pick st.held 10 0) (take_bus 0 st) e (sym a))

  pub take_held : passed ≡ set_up x.setup → x.held ≡ true → Performs m s v u taking x x (Takes x.number (Err BusTaken))
  take_held a eh =
      take_refused BusTaken (λ so. stops m s v u take_fault x {A = Answer} (λ a. a) x 9 _ (take_bus 0 st) BusTaken so refl refl (λ j. or_next (setup_passes m s v u x so (sym a) j) (pick (eh j) 10 0)) refl refl)

  pub take_ends : passed ≡ set_up x.setup → x.held ≡ false → Performs m s v u taking x (holding true) (Takes x.number (Ok (record { machine = x.number; live = true })))
  take_ends a eh =
      does taking (holding true) (Takes x.number (Ok (record { machine = x.number; live = true }))) (λ so.
      let step : take_bus 0 st ≡ take st = λ j. take_bus (sym (λ i. or_next (setup_passes m s v u x so (sym a) i) (pick (eh i) 10 0)) j) st in
      record {
        sound = record { map = so.map; memory = so.memory };
        rules = refl;
        after = ap (λ (z : Step). z.after) step;
        told = (subst (λ (z : Step). Accepts z nothing) step (record { number = refl; answer = refl }), refl, refl);
      })

  module _ (t : Tenure) where
    abbrev rest : ℕ
    rest = pick (both st.held (eqb t.machine st.number)) 0 11

    pub release_stops : (e : MachineFault) → Err e ≡ release_told x.setup x.held x.number t.machine → Performs m s v u (releasing t.machine) x x (Releases t (Err (e, t)))
    release_stops e a =
        does (releasing t.machine) x (Releases t (Err (e, t))) (λ so.
        let d = subst (Does m s v u x x (Tells {A = Answer} (λ a. a) release_fault (Err e))) (release_unless (or_next st.setup rest) st) (go so x.setup refl (sym a)) in
        record { sound = d.sound; rules = d.rules; after = d.after; told = (d.told, refl) })
      where
        go : Sound m s v u x → (o : Option SetupFault) → x.setup ≡ o → release_told o x.held x.number t.machine ≡ Err e → Does m s v u x x (Tells {A = Answer} (λ a. a) release_fault (Err e)) (unless (or_next st.setup rest) st (release_bus 0 st))
        go so (Some f) eo q = setup_stops m s v u x so {A = Answer} (λ a. a) (λ _. NoTenure) rest (release_bus 0 st) e (ap set_up eo ∙ q)
        go so None eo q =
            let f = tenure_fails x.held x.number t.machine e q in
            stops m s v u release_fault x {A = Answer} (λ a. a) x 10 _ (release_bus 0 st) e so refl refl (λ j. or_next (setup_told (eo j)) (pick (f.0 j) 0 11)) f.1 (ap fault_number f.1)

    pub release_ends : passed ≡ release_told x.setup x.held x.number t.machine → Performs m s v u (releasing t.machine) x (holding false) (Releases t (Ok tt))
    release_ends a =
        does (releasing t.machine) (holding false) (Releases t (Ok tt)) (λ so.
        let step : release_bus 0 st ≡ release st t.machine = λ j. release_bus (sym (go x.setup refl (sym a)) j) st in
        record {
          sound = record { map = so.map; memory = so.memory };
          rules = refl;
          after = ap (λ (z : Step). z.after) step;
          told = subst (λ (z : Step). Accepts z nothing) step (record { number = refl; answer = refl });
        })
      where
        go : (o : Option SetupFault) → x.setup ≡ o → release_told o x.held x.number t.machine ≡ passed → or_next st.setup rest ≡ 0
        go (Some f) eo q = let z : ◌≡◌ {A = ℕ} 0 1 = cc in absurd (omega arith)
        go None eo q = λ j. or_next (setup_told (eo j)) (pick (tenure_holds x.held x.number t.machine q j) 0 11)

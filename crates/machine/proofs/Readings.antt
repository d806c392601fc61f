-- Readings: a call that changes nothing.
use Rattle.std.proofs.Common.{◌≡◌, ℕ, zero, suc, ◌<◌, ◌≤◌, Bool, eqb, leb, Err, sym, refl, ap, ◌∙◌, subst}
use Rattle.std.proofs.lemmas.Bool.{le-leb, lt-leb}
use Rattle.memory.specs.declared.memory.Memory as memories
use Rattle.paging.specs.declared.map.Map as maps
use Rattle.replacement.specs.declared.rule.Rule as replacements
use Rattle.records.specs.declared.record.ProcessorNumber.{ProcessorNumber}
use Rattle.faults.specs.declared.machine_fault.MachineFault.{MachineFault}
use Rattle.faults.specs.declared.machine_fault.MachineFault.TheVariants.{NoPlace, NoProcessor}
use Rattle.faults.specs.MachineFaults.{fault_number}
use Rattle.rules.specs.Basic.{pick}
use Rattle.rules.specs.Sizes.{most_processors}
use Rattle.rules.specs.Rule.{Lawful}
use Rattle.rules.specs.Calls.{Board, Step, nothing, or_next, told}
use Rattle.rules.specs.History.{History, Setup}
use Rattle.rules.specs.Run.{Call, perform}
use Rattle.machine.specs.Admits.{Missing, passed, set_up}
use Rattle.machine.specs.References.{unless}
use Rattle.machine.specs.Refusals.{Refuses, reading_fault}
use Rattle.machine.specs.State.{Does, HasPast, Performs, board, rules_of, setup_told}
use Rattle.machine.specs.declared.machine.Machine.{Machine}
use Rattle.machine.proofs.Accepting.{few}
use Rattle.machine.proofs.Admitting.{setup_passes, setup_stops}
use Rattle.machine.proofs.Choosing.{Chooses, lawful}
use Rattle.machine.proofs.Lawful.{performs}

parts : (n : ℕ) (st : Board) → unless n st (told 0 st) ≡ told n st
parts zero st = refl
parts (suc n) st = refl

-- the numbers past set-up's: n processors, a processor i
pub counts_none : (n i : ℕ) → n ≤ i → ◌≡◌ {A = ℕ} (pick (leb n i) 4 0) 4
counts_none n i l = ap {B = ℕ} (λ (t : Bool). pick t 4 0) (le-leb n i l)

pub counts_one : (n i : ℕ) → i < n → ◌≡◌ {A = ℕ} (pick (leb n i) 4 0) 0
counts_one n i l = ap {B = ℕ} (λ (t : Bool). pick t 4 0) (lt-leb n i l)

module _ {M S V R : Type 0} (m : maps.Ghosts M) (s : memories.Ghosts S) (v : replacements.Ghosts V) (u : replacements.Ghosts R) (cv : Chooses v) (cu : Chooses u)
    (x : Machine M S V R) (p : ProcessorNumber) (call : Call) (rest : ℕ) (is : perform (rules_of m s v u x) call (board m s v u x) ≡ told (or_next (setup_told x.setup) rest) (board m s v u x)) where
  abbrev st : Board
  st = board m s v u x

  abbrev n : ℕ
  n = or_next (setup_told x.setup) rest

  lv : Lawful (rules_of m s v u x).for_v
  lv = lawful v cv x.rules.v

  lr : Lawful (rules_of m s v u x).for_r
  lr = lawful u cu x.rules.r

  does : (T : Step → Type 0) → ((w : Setup) (h : History) → HasPast m s v u w h x → T (told n st)) → Performs m s v u call x x T
  does T k = performs m s v u call x x T lv lr (λ w h P. subst (Does m s v u x x T) (sym is) (record { sound = P.sound; rules = refl; after = refl; told = k w h P }))

  -- a call whose fault and number are known
  pub reading_refused : (e : MachineFault) → ((setup_told x.setup ≡ 0 → x.count ≤ most_processors) → (fault_number e ≡ n) × (e ≡ reading_fault p n)) → Performs m s v u call x x (λ d. Refuses d (reading_fault p) e)
  reading_refused e k = does (λ d. Refuses d (reading_fault p) e) (λ w h P. let q = k (few m s v u x lv lr w h P) in record { number = q.0; fault = q.1 })

  pub reading_told : n ≡ 0 → {B : Type 0} (a b : B) → a ≡ b → Performs m s v u call x x (λ d. (d.number ≡ 0) × (a ≡ b))
  reading_told en a b e = does (λ d. (d.number ≡ 0) × (a ≡ b)) (λ w h P. (en, e))

  pub reading_not_set_up : (e : MachineFault) → Err e ≡ set_up x.setup → Performs m s v u call x x (λ d. Refuses d (reading_fault p) e)
  reading_not_set_up e a =
      does (λ d. Refuses d (reading_fault p) e) (λ w h P.
      subst (λ (z : Step). Refuses z (reading_fault p) e) (parts n st) (setup_stops m s v u x P.sound {A = Unit {0}} (λ _. nothing) (λ k. pick (eqb k 4) (NoProcessor p) (NoPlace p)) rest (told 0 st) e (sym a)).told)

  module _ (a : passed ≡ set_up x.setup) where
    ready : (w : Setup) (h : History) → HasPast m s v u w h x → setup_told x.setup ≡ 0
    ready w h P = setup_passes m s v u x P.sound (sym a)

    pub reading_no_processor : (e : MachineFault) → Missing x.count p e → (x.count ≤ p.0 → rest ≡ 4) → Performs m s v u call x x (λ d. Refuses d (reading_fault p) e)
    reading_no_processor e k er =
        does (λ d. Refuses d (reading_fault p) e) (λ w h P.
        let o = ready w h P in
        let four : n ≡ 4 = (λ j. or_next (o j) rest) ∙ er (k.above (few m s v u x lv lr w h P o)) in
        record { number = ap fault_number k.fault ∙ sym four; fault = k.fault ∙ ap (reading_fault p) (sym four) })

    pub reading_tells : rest ≡ 0 → {B : Type 0} (a b : B) → a ≡ b → Performs m s v u call x x (λ d. (d.number ≡ 0) × (a ≡ b))
    reading_tells er a b e = does (λ d. (d.number ≡ 0) × (a ≡ b)) (λ w h P. ((λ j. or_next (ready w h P j) rest) ∙ er, e))

-- A switch of a processor's process.
use Rattle.std.proofs.Common.{◌≡◌, ℕ, zero, suc, ◌+◌, ◌-◌, ◌^◌, ◌<◌, ◌≤◌, eqb, leb, set, Ok, Err, Result, sym, refl, ap, ◌∙◌, subst}
use Rattle.std.proofs.lemmas.Bool.{le-leb, lt-leb}
use Rattle.base.specs.Sizes.{processes}
use Rattle.memory.specs.declared.memory.Memory as memories
use Rattle.paging.specs.declared.map.Map as maps
use Rattle.replacement.specs.declared.rule.Rule as replacements
use Rattle.records.specs.declared.record.ProcessorNumber.{ProcessorNumber}
use Rattle.faults.specs.declared.machine_fault.Caller.TheVariants.{Processor as At}
use Rattle.faults.specs.declared.machine_fault.MachineFault.{MachineFault}
use Rattle.faults.specs.declared.machine_fault.MachineFault.TheVariants.{NoProcess, NoProcessor}
use Rattle.faults.specs.MachineFaults.{fault_number}
use Rattle.tables.specs.declared.types.Processor.{Processor}
use Rattle.rules.specs.Basic.{pick}
use Rattle.rules.specs.Rule.{Lawful}
use Rattle.rules.specs.Bus.{proc_at}
use Rattle.rules.specs.Cache.{swap_all}
use Rattle.rules.specs.Calls.{Board, Step, nothing, or_else, or_next, switch_by, switch_number}
use Rattle.rules.specs.History.{History, Setup}
use Rattle.rules.specs.Run.{switching}
use Rattle.machine.specs.Admits.{Located, Missing, admitted, passed}
use Rattle.machine.specs.References.{unless}
use Rattle.machine.specs.Refusals.{Tells, switch_fault}
use Rattle.machine.specs.State.{Does, HasPast, Performs, board, rules_of}
use Rattle.machine.specs.declared.machine.Machine.{Machine}
use Rattle.machine.proofs.Accepting.{accepts, few}
use Rattle.machine.proofs.Admitting.{admit_passes, admit_stops}
use Rattle.machine.proofs.Choosing.{Chooses, lawful}
use Rattle.machine.proofs.Ends.{one_more, stops, with}
use Rattle.machine.proofs.Lawful.{performs}

module _ {M S V R : Type 0} (m : maps.Ghosts M) (s : memories.Ghosts S) (v : replacements.Ghosts V) (u : replacements.Ghosts R) (cv : Chooses v) (cu : Chooses u)
    (x : Machine M S V R) (p : ProcessorNumber) (q : ℕ) where
  lv : Lawful (rules_of m s v u x).for_v
  lv = lawful v cv x.rules.v

  lr : Lawful (rules_of m s v u x).for_r
  lr = lawful u cu x.rules.r

  abbrev st : Board
  st = board m s v u x

  abbrev done : Step
  done = switch_by 0 st p.0 q

  abbrev T : Result (Unit {0}) MachineFault → Step → Type 0
  T = Tells (λ _. nothing) (switch_fault p)

  parts : (n : ℕ) → switch_by n st p.0 q ≡ unless n st done
  parts zero = refl
  parts (suc n) = refl

  does : (y : Machine M S V R) (r : Result (Unit {0}) MachineFault) → ((w : Setup) (h : History) → HasPast m s v u w h x → Does m s v u x y (T r) (unless (switch_number st p.0 q) st done))
      → Performs m s v u (switching p.0 q) x y (T r)
  does y r k = performs m s v u (switching p.0 q) x y (T r) lv lr (λ w h P. subst (Does m s v u x y (T r)) (sym (parts (switch_number st p.0 q))) (k w h P))

  pub switch_not_admitted : (e : MachineFault) → Err e ≡ admitted x.setup x.accepted (At p) → Performs m s v u (switching p.0 q) x x (T (Err e))
  switch_not_admitted e a =
      does x (Err e) (λ w h P. admit_stops m s v u x P.sound {A = Unit {0}} (λ _. nothing) (At p) (λ n. pick (eqb n 4) (NoProcessor p) (NoProcess p)) _ done e (sym a))

  module _ (a : passed ≡ admitted x.setup x.accepted (At p)) where
    pub switch_no_processor : (e : MachineFault) → Missing x.count p e → Performs m s v u (switching p.0 q) x x (T (Err e))
    switch_no_processor e k =
        does x (Err e) (λ w h P.
        let O = admit_passes m s v u x P.sound (At p) (sym a) in
        let past = le-leb x.count p.0 (k.above (few m s v u x lv lr w h P O.setup)) in
        stops m s v u (switch_fault p) x {A = Unit {0}} (λ _. nothing) x 3 _ done e P.sound refl refl (λ j. or_next (O.full j) (or_else (past j) 4 (pick (leb processes q) 9 0))) k.fault (ap fault_number k.fault))

    module _ (i : ℕ) (l : Located x.count p i) where
      pub switch_no_process : processes ≤ q → Performs m s v u (switching p.0 q) x x (T (Err (NoProcess p)))
      switch_no_process k =
          does x (Err (NoProcess p)) (λ w h P.
          let O = admit_passes m s v u x P.sound (At p) (sym a) in
          stops m s v u (switch_fault p) x {A = Unit {0}} (λ _. nothing) x 8 _ done (NoProcess p) P.sound refl refl
          (λ j. or_next (O.full j) (or_else (lt-leb x.count p.0 l.below j) 4 (pick (le-leb processes q k j) 9 0))) refl refl)

      pub switch_ends : q < processes → (c : Processor) (n : ℕ) → c ≡ swap_all (proc_at x.processors i) q → (x.accepted < 2 ^ 32 - 1 → n ≡ x.accepted + 1)
          → Performs m s v u (switching p.0 q) x (with m s v u x x.memory (set x.processors i c) n) (T (Ok tt))
      switch_ends k c n ec en =
          does (with m s v u x x.memory (set x.processors i c) n) (Ok tt) (λ w h P.
          let O = admit_passes m s v u x P.sound (At p) (sym a) in
          let more = one_more x.accepted n O.room en in
          accepts m s v u x {A = Unit {0}} (λ _. nothing) (switch_fault p) tt (with m s v u x x.memory (set x.processors i c) n) _ done (record { map = P.sound.map; memory = P.sound.memory }) refl
          (λ j. record {
            procs = set x.processors (l.place j) ((ec ∙ ap (λ z. swap_all (proc_at x.processors z) q) l.place) j);
            cpus = st.cpus;
            mem = st.mem;
            count = st.count;
            table = st.table;
            held = st.held;
            accepted = more j;
            setup = st.setup;
            number = st.number;
          })
          (λ j. or_next (O.full j) (or_else (lt-leb x.count p.0 l.below j) 4 (pick (lt-leb processes q k j) 9 0))) refl refl)

-- A change of the map.
use Rattle.std.proofs.Common.{◌≡◌, ℕ, zero, suc, ◌+◌, ◌-◌, ◌^◌, ◌<◌, Bool, true, false, cond, not, ◌&&◌, ◌||◌, eqb, ltb, leb, List, map, Some, None, Ok, Err, Option, Result, sym, refl, ap, ◌∙◌, subst, arith}
use Rattle.std.proofs.Math.Bool.{and-true}
use Rattle.std.proofs.lemmas.Bool.{le-leb, lt-leb, ltb-false, ltb-true}
use Rattle.base.specs.Sizes.{frames, pages, processes}
use Rattle.base.specs.declared.block.Page.{Page}
use Rattle.memory.specs.declared.memory.Memory as memories
use Rattle.paging.specs.declared.fault.MapFault.{MapFault}
use Rattle.paging.specs.declared.fault.MapFault.TheVariants.{OutOfRange}
use Rattle.paging.specs.declared.map.Map as maps
use Rattle.paging.specs.Frames.{Frames, changed, changing, entry, named}
use Rattle.replacement.specs.declared.rule.Rule as replacements
use Rattle.faults.specs.declared.machine_fault.Caller.{Caller}
use Rattle.faults.specs.declared.machine_fault.Caller.TheVariants.{Nobody}
use Rattle.faults.specs.declared.machine_fault.MachineFault.{MachineFault}
use Rattle.faults.specs.declared.machine_fault.MachineFault.TheVariants.{Map}
use Rattle.faults.specs.MachineFaults.{fault_number}
use Rattle.tables.specs.declared.types.Processor.{Processor}
use Rattle.rules.specs.Basic.{both, pick}
use Rattle.rules.specs.Calls.{Board, Step, nothing, or_next, put_frame, remap_by, remap_number, swap_pages}
use Rattle.rules.specs.History.{History, Setup}
use Rattle.rules.specs.Run.{Call, entering, erasing, perform}
use Rattle.machine.specs.Admits.{admitted, passed}
use Rattle.machine.specs.References.{unless}
use Rattle.machine.specs.Refusals.{Tells, remap_fault}
use Rattle.machine.specs.State.{Does, HasPast, Performs, board, rules_of}
use Rattle.machine.specs.declared.machine.Machine.{Machine}
use Rattle.machine.proofs.Accepting.{accepts}
use Rattle.machine.proofs.Besides.{besides}
use Rattle.machine.proofs.Admitting.{admit_passes, admit_stops}
use Rattle.machine.proofs.Choosing.{Chooses, lawful}
use Rattle.machine.proofs.Ends.{one_more, stops}
use Rattle.machine.proofs.Lawful.{performs}

-- a number is at least n where it is not below n
at_least : (n a : ℕ) → leb n a ≡ not (ltb a n)
at_least n a = go (ltb a n) refl
  where
    go : (t : Bool) → ltb a n ≡ t → leb n a ≡ not t
    go true e = lt-leb n a (ltb-true a n e)
    go false e = le-leb n a (ltb-false a n e)

some_not : (a b c : Bool) → (not a || not b || not c) ≡ not (a && b && c)
some_not true true c = refl
some_not true false c = refl
some_not false b c = refl

-- A change of the entry of process q and page g: an enter gives it a frame, an erase none.
module _ (q : ℕ) (g : Page) where
  abbrev pub call_of : Option ℕ → Call
  call_of (Some f) = entering q g.0 f
  call_of None = erasing q g.0

  -- whether the map makes it
  abbrev pub made : Option ℕ → Bool
  made (Some f) = named q g.0 && ltb f frames
  made None = named q g.0

  -- the frame that the rules test
  abbrev tested : Option ℕ → ℕ
  tested (Some f) = f
  tested None = 0

  -- the ranges as the map and as the rules test them
  range : (o : Option ℕ) → (leb processes q || leb pages g.0 || leb frames (tested o)) ≡ not (made o)
  range (Some f) = (λ j. at_least processes q j || at_least pages g.0 j || at_least frames f j) ∙ some_not (ltb q processes) (ltb g.0 pages) (ltb f frames)
  range None = (λ j. at_least processes q j || at_least pages g.0 j || at_least frames 0 j) ∙ some_not (ltb q processes) (ltb g.0 pages) true ∙ ap not (and-true (named q g.0))

-- one entry replaced, as the map and as the rules have it
one_entry : (t : Frames) (q g : ℕ) (o : Option ℕ) → entry t q g o ≡ put_frame t q g o
one_entry t q g o = λ j a b. same (eqb a q) (eqb b g) (t a b) j
  where
    same : (a b : Bool) (z : Option ℕ) → cond (a && b) o z ≡ pick (both a b) o z
    same true true z = refl
    same true false z = refl
    same false true z = refl
    same false false z = refl

module _ {M S V R : Type 0} (m : maps.Ghosts M) (s : memories.Ghosts S) (v : replacements.Ghosts V) (u : replacements.Ghosts R) (cv : Chooses v) (cu : Chooses u) where
  -- a machine with another map, other processors and accepted calls
  abbrev pub with_map : Machine M S V R → M → List Processor → ℕ → Machine M S V R
  with_map x y ps n = record { map = y; memory = x.memory; rules = x.rules; processors = ps; count = x.count; held = x.held; accepted = n; setup = x.setup; number = x.number }

  module _ (x : Machine M S V R) (q : ℕ) (g : Page) (o : Option ℕ) where
    abbrev st : Board
    st = board m s v u x

    abbrev done : Step
    done = remap_by 0 st q g.0 o

    abbrev T : Result (Unit {0}) MachineFault → Step → Type 0
    T = Tells (λ _. nothing) (remap_fault g)

    abbrev number : ℕ
    number = remap_number st q g.0 (tested q g o)

    step : perform (rules_of m s v u x) (call_of q g o) st ≡ unless number st done
    step = is o ∙ parts number
      where
        is : (o : Option ℕ) → perform (rules_of m s v u x) (call_of q g o) st ≡ remap_by (remap_number st q g.0 (tested q g o)) st q g.0 o
        is (Some f) = refl
        is None = refl

        parts : (n : ℕ) → remap_by n st q g.0 o ≡ unless n st done
        parts zero = refl
        parts (suc n) = refl

    does : (y : Machine M S V R) (r : Result (Unit {0}) MachineFault) → ((w : Setup) (h : History) → HasPast m s v u w h x → Does m s v u x y (T r) (unless number st done)) → Performs m s v u (call_of q g o) x y (T r)
    does y r k = performs m s v u (call_of q g o) x y (T r) (lawful v cv x.rules.v) (lawful u cu x.rules.r) (λ w h P. subst (Does m s v u x y (T r)) (sym step) (k w h P))

    pub remap_not_admitted : (e : MachineFault) → Err e ≡ admitted x.setup x.accepted Nobody → Performs m s v u (call_of q g o) x x (T (Err e))
    remap_not_admitted e a = does x (Err e) (λ w h P. admit_stops m s v u x P.sound {A = Unit {0}} (λ _. nothing) Nobody (λ n. Map Nobody (OutOfRange g)) _ done e (sym a))

    -- what a call of the map promises that makes the change
    pub record Changes (y : M) (r : Result (Unit {0}) MapFault) : Type 0 where
      pub kept : m.sound x.map → m.sound y
      pub answer : m.sound x.map → r ≡ changing (made q g o) g
      pub frames : m.sound x.map → m.frame y ≡ changed (made q g o) (m.frame x.map) q g.0 o

    module _ (a : passed ≡ admitted x.setup x.accepted Nobody) (y : M) (r : Result (Unit {0}) MapFault) (c : Changes y r) where
      pub remap_out_of_range : (e : MapFault × Caller) (k : MachineFault) → Err e ≡ besides r Nobody → k ≡ Map e.1 e.0
          → Performs m s v u (call_of q g o) x (with_map x y x.processors x.accepted) (T (Err k))
      remap_out_of_range e k b ek = does (with_map x y x.processors x.accepted) (Err k) (λ w h P. go w h P (made q g o) refl)
        where
          go : (w : Setup) (h : History) → HasPast m s v u w h x → (t : Bool) → made q g o ≡ t → Does m s v u x (with_map x y x.processors x.accepted) (T (Err k)) (unless number st done)
          go w h P true et =
              let er : r ≡ Ok tt = c.answer P.sound.map ∙ ap (λ (t : Bool). changing t g) et in
              let eb : Err e ≡ Ok tt = b ∙ ap (λ (t : Result (Unit {0}) MapFault). besides t Nobody) er in
              let n : ◌≡◌ {A = ℕ} 0 1 = cc in
              absurd (omega arith)
          go w h P false et =
              let O = admit_passes m s v u x P.sound Nobody (sym a) in
              let er : r ≡ Err (OutOfRange g) = c.answer P.sound.map ∙ ap (λ (t : Bool). changing t g) et in
              let eb : ◌≡◌ {A = Result (Unit {0}) (MapFault × Caller)} (Err e) (Err (OutOfRange g, Nobody)) = b ∙ ap (λ (t : Result (Unit {0}) MapFault). besides t Nobody) er in
              let ee : e ≡ (OutOfRange g, Nobody) = cc in
              let fault : k ≡ Map Nobody (OutOfRange g) = ek ∙ ap (λ (t : MapFault × Caller). Map t.1 t.0) ee in
              let table : m.frame y ≡ m.frame x.map = c.frames P.sound.map ∙ ap (λ (t : Bool). changed t (m.frame x.map) q g.0 o) et in
              stops m s v u (remap_fault g) x {A = Unit {0}} (λ _. nothing) (with_map x y x.processors x.accepted) 8 _ done k (record { map = c.kept P.sound.map; memory = P.sound.memory }) refl
              (λ j. record { procs = st.procs; cpus = st.cpus; mem = st.mem; count = st.count; table = table j; held = st.held; accepted = st.accepted; setup = st.setup; number = st.number })
              (λ j. or_next (O.full j) (pick ((range q g o ∙ ap not et) j) 9 0)) fault (ap fault_number fault)

      pub remap_ends : (ps : List Processor) (n : ℕ) → Ok tt ≡ besides r Nobody → ps ≡ map (swap_pages q g.0) x.processors → (x.accepted < 2 ^ 32 - 1 → n ≡ x.accepted + 1)
          → Performs m s v u (call_of q g o) x (with_map x y ps n) (T (Ok tt))
      remap_ends ps n b ep en = does (with_map x y ps n) (Ok tt) (λ w h P. go w h P (made q g o) refl)
        where
          go : (w : Setup) (h : History) → HasPast m s v u w h x → (t : Bool) → made q g o ≡ t → Does m s v u x (with_map x y ps n) (T (Ok tt)) (unless number st done)
          go w h P false et =
              let er : r ≡ Err (OutOfRange g) = c.answer P.sound.map ∙ ap (λ (t : Bool). changing t g) et in
              let eb : ◌≡◌ {A = Result (Unit {0}) (MapFault × Caller)} (Ok tt) (Err (OutOfRange g, Nobody)) = b ∙ ap (λ (t : Result (Unit {0}) MapFault). besides t Nobody) er in
              let k : ◌≡◌ {A = ℕ} 0 1 = cc in
              absurd (omega arith)
          go w h P true et =
              let O = admit_passes m s v u x P.sound Nobody (sym a) in
              let more = one_more x.accepted n O.room en in
              let table : m.frame y ≡ put_frame (m.frame x.map) q g.0 o = c.frames P.sound.map ∙ ap (λ (t : Bool). changed t (m.frame x.map) q g.0 o) et ∙ one_entry (m.frame x.map) q g.0 o in
              accepts m s v u x {A = Unit {0}} (λ _. nothing) (remap_fault g) tt (with_map x y ps n) _ done (record { map = c.kept P.sound.map; memory = P.sound.memory }) refl
              (λ j. record { procs = ep j; cpus = st.cpus; mem = st.mem; count = st.count; table = table j; held = st.held; accepted = more j; setup = st.setup; number = st.number })
              (λ j. or_next (O.full j) (pick ((range q g o ∙ ap not et) j) 9 0)) refl refl

-- A whole reference: the first checks, then a hit or a miss.
use Rattle.std.proofs.Common.{◌≡◌, ℕ, zero, suc, ◌<◌, ◌≤◌, Bool, true, false, ltb, leb, List, Ok, Err, Option, Result, if◌then◌else◌, sym, refl, ap, ◌∙◌, subst, arith}
use Rattle.std.proofs.lemmas.Bool.{le-leb, lt-leb, ltb-false, ltb-true}
use Rattle.base.specs.Sizes.{addresses}
use Rattle.base.specs.Blocks.{addressed, block_of, page_of}
use Rattle.base.specs.declared.block.Address.{Address}
use Rattle.base.specs.declared.block.NoAddress.{NoAddress as NoAddressError}
use Rattle.memory.specs.declared.memory.Memory as memories
use Rattle.paging.specs.declared.map.Map as maps
use Rattle.replacement.specs.declared.rule.Rule as replacements
use Rattle.records.specs.declared.record.ProcessorNumber.{ProcessorNumber}
use Rattle.faults.specs.declared.machine_fault.MachineFault.{MachineFault}
use Rattle.faults.specs.declared.machine_fault.MachineFault.TheVariants.{NoAddress}
use Rattle.tables.specs.declared.types.Processor.{Processor as Records}
use Rattle.rules.specs.Bus.{Blocks}
use Rattle.rules.specs.Cache.{v_find}
use Rattle.rules.specs.Calls.{Board, Ref, Rules, Step, completed, cpu_at, full_number, make_ref, or_else, or_next, reach, reach_by, ref_number, refer, reference, v_number}
use Rattle.rules.specs.Ready.{Ready}
use Rattle.machine.specs.Admits.{Missing}
use Rattle.machine.specs.Answers.{access_answer}
use Rattle.machine.specs.References.{ref_of, unless}
use Rattle.machine.specs.Refusals.{Tells, reference_fault}
use Rattle.machine.specs.Paths.{Admitted, page_at}
use Rattle.machine.specs.State.{Does, Sound, board, rules_of}
use Rattle.machine.specs.declared.answer.Access.{Access}
use Rattle.machine.specs.declared.machine.Machine.{Machine}
use Rattle.machine.specs.declared.reference.Reference.{Reference}
use Rattle.machine.proofs.Admitting.{Open}
use Rattle.machine.proofs.Ends.{stops, with}

-- a reference is refused by its number, or completed
pub refer_is : (n : ℕ) (rs : Rules) (st : Board) (r : Ref) → unless n st (completed r.value r (reach rs st r)) ≡ refer n rs st r
refer_is zero rs st r = refl
refer_is (suc n) rs st r = refl

-- an address, or none
pub no_address : (a : ℕ) (e : NoAddressError) → addressed a ≡ Err e → addresses ≤ a
no_address a e q = go (ltb a addresses) refl q
  where
    go : (t : Bool) → ltb a addresses ≡ t → ◌≡◌ {A = Result Address NoAddressError} (if t then Ok (record { 0 = a }) else Err (record { 0 = a })) (Err e) → addresses ≤ a
    go true et k = let z : ◌≡◌ {A = ℕ} 0 1 = cc in absurd (omega arith)
    go false et k = ltb-false a addresses et

pub an_address : (a : ℕ) (b : Address) → addressed a ≡ Ok b → (b.0 ≡ a) × (a < addresses)
an_address a b q = go (ltb a addresses) refl q
  where
    go : (t : Bool) → ltb a addresses ≡ t → ◌≡◌ {A = Result Address NoAddressError} (if t then Ok (record { 0 = a }) else Err (record { 0 = a })) (Ok b) → (b.0 ≡ a) × (a < addresses)
    go true et k = let kb : ◌≡◌ {A = Address} (record { 0 = a }) b = cc in (sym (ap (λ (z : Address). z.0) kb), ltb-true a addresses et)
    go false et k = let z : ◌≡◌ {A = ℕ} 0 1 = cc in absurd (omega arith)

module _ {M S V R : Type 0} (m : maps.Ghosts M) (s : memories.Ghosts S) (v : replacements.Ghosts V) (u : replacements.Ghosts R)
    (x : Machine M S V R) (p : ProcessorNumber) (a : ℕ) (w : Option ℕ) where
  abbrev st : Board
  st = board m s v u x

  abbrev ref : Ref
  ref = make_ref p.0 a w

  abbrev which : ℕ → MachineFault
  which = reference_fault p (record { 0 = page_of (block_of a) })

  abbrev rest : ℕ
  rest = or_else (leb st.cpus p.0) 4 (or_else (leb addresses a) 5 (v_number (v_find (cpu_at st p.0) ref.vb) st ref))

  -- a refusal of the reference is one of the rules' step
  pub refer_refused : (y : Machine M S V R) (q : Result Access MachineFault) → Does m s v u x y (Tells access_answer which q) (unless (or_next (full_number st) rest) st (completed w ref (reach (rules_of m s v u x) st ref)))
      → Does m s v u x y (Tells access_answer which q) (reference (rules_of m s v u x) st p.0 a w)
  refer_refused y q d = subst (Does m s v u x y (Tells access_answer which q)) (refer_is (ref_number st p.0 a ref) (rules_of m s v u x) st ref) d

  module _ (so : Sound m s v u x) (O : Open m s v u x so) where
    -- no such processor
    pub refer_missing : (e : MachineFault) → Missing x.count p e → x.count ≤ Rattle.rules.specs.Sizes.most_processors → Does m s v u x x (Tells access_answer which (Err e)) (reference (rules_of m s v u x) st p.0 a w)
    refer_missing e k few =
        refer_refused x (Err e) (stops m s v u which x access_answer x 3 _ _ e so refl refl
        (λ j. or_next (O.full j) (or_else (le-leb st.cpus p.0 (k.above few) j) 4 (or_else (leb addresses a) 5 (v_number (v_find (cpu_at st p.0) ref.vb) st ref)))) k.fault (rw k.fault))

    module _ (lt : p.0 < x.count) where
      -- no such address
      pub refer_outside : addresses ≤ a → Does m s v u x x (Tells access_answer which (Err (NoAddress p))) (reference (rules_of m s v u x) st p.0 a w)
      refer_outside le =
          refer_refused x (Err (NoAddress p)) (stops m s v u which x access_answer x 4 _ _ (NoAddress p) so refl refl
          (λ j. or_next (O.full j) (or_else (lt-leb st.cpus p.0 lt j) 4 (or_else (le-leb addresses a le j) 5 (v_number (v_find (cpu_at st p.0) ref.vb) st ref)))) refl refl)

      -- a hit or a miss: the machine has its processors handed back
      module _ (f : Blocks) (ready : Ready f st) (b : Address) (eb : b.0 ≡ a) (la : a < addresses) (ps : List Records) (ep : ps ≡ x.processors) where
        abbrev back : Machine M S V R
        back = with m s v u x x.memory ps x.accepted

        abbrev r : Reference
        r = record { processor = p; address = b; value = w }

        same_board : board m s v u back ≡ st
        same_board = λ j. record { procs = ep j; cpus = st.cpus; mem = st.mem; count = st.count; table = st.table; held = st.held; accepted = st.accepted; setup = st.setup; number = st.number }

        pub refer_admitted : Admitted m s v u r back f
        refer_admitted = record { sound = record { map = so.map; memory = so.memory }; ready = subst (Ready f) (sym same_board) ready; cpu = lt; room = O.room }

        pub refer_goes : (z : Machine M S V R) (q : Result Access MachineFault) (o : Option ℕ) → v_find (cpu_at st p.0) (block_of b.0) ≡ o
            → Does m s v u back z (Tells access_answer (reference_fault p (page_at r)) q) (unless (v_number o (board m s v u back) (ref_of r)) (board m s v u back) (completed w (ref_of r) (reach_by o (rules_of m s v u x) (board m s v u back) (ref_of r))))
            → Does m s v u x z (Tells access_answer which q) (reference (rules_of m s v u x) st p.0 a w)
        refer_goes z q o eo d =
            let eo' : v_find (cpu_at st p.0) ref.vb ≡ o = ap (λ n. v_find (cpu_at st p.0) (block_of n)) (sym eb) ∙ eo in
            let step : unless (v_number o (board m s v u back) (ref_of r)) (board m s v u back) (completed w (ref_of r) (reach_by o (rules_of m s v u x) (board m s v u back) (ref_of r))) ≡ unless (or_next (full_number st) rest) st (completed w ref (reach (rules_of m s v u x) st ref)) =
            (λ j. unless (v_number o (same_board j) (make_ref p.0 (eb j) w)) (same_board j) (completed w (make_ref p.0 (eb j) w) (reach_by o (rules_of m s v u x) (same_board j) (make_ref p.0 (eb j) w))))
            ∙ (λ j. unless (or_next (sym O.full j) (or_else (sym (lt-leb st.cpus p.0 lt) j) 4 (or_else (sym (lt-leb addresses a la) j) 5 (v_number (sym eo' j) st ref)))) st (completed w ref (reach_by (sym eo' j) (rules_of m s v u x) st ref))) in
            let page : reference_fault p (page_at r) ≡ which = ap (λ n. reference_fault p (record { 0 = page_of (block_of n) })) eb in
            refer_refused z q (record {
              sound = d.sound;
              rules = d.rules;
              after = d.after ∙ ap (λ (c : Step). c.after) step;
              told = subst (λ (c : ℕ → MachineFault). Tells access_answer c q (unless (or_next (full_number st) rest) st (completed w ref (reach (rules_of m s v u x) st ref)))) page (subst (Tells access_answer (reference_fault p (page_at r)) q) step d.told);
            })

-- A V-miss: what the map gives, and which path goes on.
use Rattle.std.proofs.Common.{◌≡◌, ℕ, ◌/◌, ◌<◌, ◌≤◌, true, false, cond, ◌&&◌, leb, List, Some, None, Ok, Err, Option, Result, sym, refl, ap, ◌∙◌, subst, arith}
use Rattle.std.proofs.lemmas.Bool.{le-leb, lt-leb, lt-ltb}
use Rattle.base.specs.Sizes.{addresses, pages, processes}
use Rattle.base.specs.Blocks.{block_of, page_of}
use Rattle.base.specs.declared.block.Page.{Page}
use Rattle.base.specs.declared.block.Process.{Process}
use Rattle.base.specs.declared.block.PhysicalBlock.{PhysicalBlock}
use Rattle.base.specs.declared.block.VirtualBlock.{VirtualBlock}
use Rattle.memory.specs.declared.memory.Memory as memories
use Rattle.paging.specs.declared.map.Map as maps
use Rattle.paging.specs.declared.fault.MapFault.{MapFault}
use Rattle.paging.specs.declared.fault.MapFault.TheVariants.{NoFrame}
use Rattle.paging.specs.Frames.{found, in_frame, looked, named, page_with, translated}
use Rattle.replacement.specs.declared.rule.Rule as replacements
use Rattle.machine.proofs.Besides.{besides}
use Rattle.faults.specs.declared.machine_fault.Caller.{Caller}
use Rattle.faults.specs.declared.machine_fault.Caller.TheVariants.{Processor}
use Rattle.faults.specs.declared.machine_fault.MachineFault.{MachineFault}
use Rattle.faults.specs.declared.machine_fault.MachineFault.TheVariants.{Map, BeyondMemory}
use Rattle.tables.specs.declared.types.Processor.{Processor as Records}
use Rattle.rules.specs.Sizes.{most_processors, page_blocks}
use Rattle.rules.specs.Bus.{Blocks, proc_at}
use Rattle.rules.specs.Cache.{r_find}
use Rattle.rules.specs.Calls.{Board, Rules, Step, block_of as block_by, completed, cpu_at, frame_number, frame_of, miss_by, or_else, physical, r_number}
use Rattle.rules.specs.Ready.{Ready}
use Rattle.machine.specs.Answers.{access_answer}
use Rattle.machine.specs.References.{ref_of, unless}
use Rattle.machine.specs.Refusals.{Tells, reference_fault}
use Rattle.machine.specs.Paths.{Admitted, Found, miss_step, page_at}
use Rattle.machine.specs.State.{Does, Sound, board, rules_of}
use Rattle.machine.specs.declared.answer.Access.{Access}
use Rattle.machine.specs.declared.machine.Machine.{Machine}
use Rattle.machine.specs.declared.reference.Reference.{Reference}
use Rattle.machine.proofs.Ends.{stops}

-- process and page of a reference are in their ranges
in_ranges : (q a : ℕ) → q < processes → a < addresses → named q (page_of (block_of a)) ≡ true
in_ranges q a lq la =
    let lg : page_of (block_of a) < pages = omega arith in
    (λ j. lt-ltb q processes lq j && lt-ltb (page_of (block_of a)) pages lg j)

-- the map's answer is the rules' frame
same_page : (vb : ℕ) → page_of vb ≡ vb / page_blocks
unfolding page_blocks
same_page vb = refl

same_block : (fr vb : ℕ) → physical fr vb ≡ (Rattle.paging.specs.Frames.block_in fr vb).0
unfolding page_blocks
same_block fr vb = refl

module _ (t : ℕ → ℕ → Option ℕ) (q : Process) (w : VirtualBlock) (a : ℕ) (ew : w.0 ≡ block_of a) (lq : q.0 < processes) (la : a < addresses) (res : Result PhysicalBlock MapFault) (er : res ≡ translated t q w)
    (who : Caller) (o : Result PhysicalBlock (MapFault × Caller)) (eo : o ≡ besides res who) where
  abbrev page : Page
  page = record { 0 = page_of (block_of a) }

  -- the result, by what the map has
  given : o ≡ besides (in_frame w (found (t q.0 (page_of w.0)) (page_with w))) who
  given = eo ∙ ap (λ (z : Result PhysicalBlock MapFault). besides z who) (er ∙ ap (λ b. in_frame w (cond b (found (t q.0 (page_of w.0)) (page_with w)) (Err (Rattle.paging.specs.declared.fault.MapFault.TheVariants.OutOfRange (page_with w))))) (ap (λ z. named q.0 (page_of z)) ew ∙ in_ranges q.0 a lq la))

  cell : t q.0 (page_of w.0) ≡ t q.0 (block_of a / page_blocks)
  cell = ap (λ z. t q.0 (page_of z)) ew ∙ ap (t q.0) (same_page (block_of a))

  -- a refusal: there is no frame
  pub look_none : (fault : MapFault) (c : Caller) → o ≡ Err (fault, c) → (t q.0 (block_of a / page_blocks) ≡ None) × (fault ≡ NoFrame page) × (c ≡ who)
  look_none fault c q' = go (t q.0 (page_of w.0)) refl
    where
      go : (f : Option ℕ) → t q.0 (page_of w.0) ≡ f → (t q.0 (block_of a / page_blocks) ≡ None) × (fault ≡ NoFrame page) × (c ≡ who)
      go None e =
          let k : ◌≡◌ {A = Result PhysicalBlock (MapFault × Caller)} (Err (fault, c)) (Err (NoFrame (page_with w), who)) = sym q' ∙ given ∙ ap (λ (f : Option ℕ). besides (in_frame w (found f (page_with w))) who) e in
          let pg : NoFrame (page_with w) ≡ NoFrame page = ap (λ z. NoFrame (record { 0 = page_of z })) ew in
          let both : ◌≡◌ {A = MapFault × Caller} (fault, c) (NoFrame (page_with w), who) = cc in
          (sym cell ∙ e, ap (λ (z : MapFault × Caller). z.0) both ∙ pg, ap (λ (z : MapFault × Caller). z.1) both)
      go (Some f) e =
          let k : ◌≡◌ {A = Result PhysicalBlock (MapFault × Caller)} (Err (fault, c)) (Ok (Rattle.paging.specs.Frames.block_in f w.0)) = sym q' ∙ given ∙ ap (λ (f : Option ℕ). besides (in_frame w (found f (page_with w))) who) e in
          let z : ◌≡◌ {A = ℕ} 0 1 = cc in
          absurd (omega arith)

  -- a block: the frame's
  pub look_some : (b : PhysicalBlock) → o ≡ Ok b → (f : ℕ) × (t q.0 (block_of a / page_blocks) ≡ Some f) × (b.0 ≡ physical f (block_of a))
  look_some b q' = go (t q.0 (page_of w.0)) refl
    where
      go : (f : Option ℕ) → t q.0 (page_of w.0) ≡ f → (f : ℕ) × (t q.0 (block_of a / page_blocks) ≡ Some f) × (b.0 ≡ physical f (block_of a))
      go None e =
          let k : ◌≡◌ {A = Result PhysicalBlock (MapFault × Caller)} (Ok b) (Err (NoFrame (page_with w), who)) = sym q' ∙ given ∙ ap (λ (f : Option ℕ). besides (in_frame w (found f (page_with w))) who) e in
          let z : ◌≡◌ {A = ℕ} 0 1 = cc in
          absurd (omega arith)
      go (Some f) e =
          let k : ◌≡◌ {A = Result PhysicalBlock (MapFault × Caller)} (Ok b) (Ok (Rattle.paging.specs.Frames.block_in f w.0)) = sym q' ∙ given ∙ ap (λ (f : Option ℕ). besides (in_frame w (found f (page_with w))) who) e in
          let kb : b ≡ Rattle.paging.specs.Frames.block_in f w.0 = cc in
          (f, sym cell ∙ e, ap (λ (z : PhysicalBlock). z.0) kb ∙ sym (same_block f w.0) ∙ ap (physical f) ew)

-- the step of a miss, by what the map and the R-set have
miss_step_lem : (rs : Rules) (st : Board) (r : Reference) (fr : ℕ) (o : Option ℕ) → frame_of st (ref_of r) ≡ Some fr → leb st.count (physical fr (ref_of r).vb) ≡ false → r_find (cpu_at st r.processor.0) (physical fr (ref_of r).vb) ≡ o
    → miss_step rs st r ≡ unless (r_number o st (ref_of r) (physical fr (ref_of r).vb)) st (completed r.value (ref_of r) (miss_by o rs st (ref_of r) (physical fr (ref_of r).vb)))
miss_step_lem rs st r fr o ef el eo =
    ap (λ (z : Option ℕ). unless (frame_number z st (ref_of r)) st (completed r.value (ref_of r) (miss_by (r_find (cpu_at st r.processor.0) (block_by st (ref_of r) z)) rs st (ref_of r) (block_by st (ref_of r) z)))) ef
    ∙ (λ j. unless (or_else (el j) 7 (r_number (eo j) st (ref_of r) (physical fr (ref_of r).vb))) st (completed r.value (ref_of r) (miss_by (eo j) rs st (ref_of r) (physical fr (ref_of r).vb))))

module _ {M S V R : Type 0} (m : maps.Ghosts M) (s : memories.Ghosts S) (v : replacements.Ghosts V) (u : replacements.Ghosts R)
    (x : Machine M S V R) (r : Reference) (f : Blocks) (A : Admitted m s v u r x f) (la : r.address.0 < addresses) where
  abbrev st : Board
  st = board m s v u x

  abbrev i : ℕ
  i = r.processor.0

  -- a machine with another map and its processors handed back
  abbrev pub mapped : M → List Records → Machine M S V R
  mapped y ps = record { map = y; memory = x.memory; rules = x.rules; processors = ps; count = x.count; held = x.held; accepted = x.accepted; setup = x.setup; number = x.number }

  pub look_few : i < most_processors
  look_few = let a = A.cpu in let b = A.ready.few in omega arith

  -- the frame and the search, with the processor as the code has it
  pub look_frame : (o : Option ℕ) (cpu : ℕ) → cpu ≡ i → m.frame x.map (proc_at x.processors cpu).process.0 ((ref_of r).vb / page_blocks) ≡ o → frame_of st (ref_of r) ≡ o
  look_frame o cpu ec e = ap {B = Option ℕ} (λ z. m.frame x.map (proc_at x.processors z).process.0 ((ref_of r).vb / page_blocks)) (sym ec) ∙ e

  pub look_search : (b cpu : ℕ) (o : Option ℕ) → cpu ≡ i → o ≡ r_find (proc_at x.processors cpu) b → r_find (cpu_at st i) b ≡ o
  look_search b cpu o ec e = sym (e ∙ ap (λ z. r_find (proc_at x.processors z) b) ec)

  module _ (y : M) (ps : List Records) (ks : m.sound y) (ef : m.frame y ≡ m.frame x.map) (ep : ps ≡ x.processors) where
    same_board : board m s v u (mapped y ps) ≡ st
    same_board = λ j. record { procs = ep j; cpus = st.cpus; mem = st.mem; count = st.count; table = ef j; held = st.held; accepted = st.accepted; setup = st.setup; number = st.number }

    sound : Sound m s v u (mapped y ps)
    sound = record { map = ks; memory = A.sound.memory }

    pub look_admitted : Admitted m s v u r (mapped y ps) f
    look_admitted = record { sound = sound; ready = subst (Ready f) (sym same_board) A.ready; cpu = A.cpu; room = A.room }

    -- refused by the map
    pub look_stops : (e : MachineFault) (fault : MapFault) (c : Caller) → e ≡ Map c fault → frame_of st (ref_of r) ≡ None → fault ≡ NoFrame (page_at r) → c ≡ Processor r.processor
        → Does m s v u x (mapped y ps) (Tells access_answer (reference_fault r.processor (page_at r)) (Err e)) (miss_step (rules_of m s v u x) st r)
    look_stops e fault c ee ef' eg ec =
        let is : e ≡ Map (Processor r.processor) (NoFrame (page_at r)) = ee ∙ (λ j. Map (ec j) (eg j)) in
        stops m s v u (reference_fault r.processor (page_at r)) x access_answer (mapped y ps) 5 _ _ e sound refl same_board (ap (λ (z : Option ℕ). frame_number z st (ref_of r)) ef') is (rw is)

    -- beyond the memory
    pub beyond_stops : (b fr n : ℕ) → frame_of st (ref_of r) ≡ Some fr → b ≡ physical fr (ref_of r).vb → n ≡ s.count x.memory → n ≤ b
        → Does m s v u x (mapped y ps) (Tells access_answer (reference_fault r.processor (page_at r)) (Err (BeyondMemory r.processor))) (miss_step (rules_of m s v u x) st r)
    beyond_stops b fr n ef' eb en le =
        let lb : leb st.count (physical fr (ref_of r).vb) ≡ true = le-leb st.count (physical fr (ref_of r).vb) (omega arith) in
        stops m s v u (reference_fault r.processor (page_at r)) x access_answer (mapped y ps) 6 _ _ (BeyondMemory r.processor) sound refl same_board
        (ap (λ (z : Option ℕ). frame_number z st (ref_of r)) ef' ∙ ap (λ z. or_else z 7 (r_number (r_find (cpu_at st i) (physical fr (ref_of r).vb)) st (ref_of r) (physical fr (ref_of r).vb))) lb) refl refl

    module _ (b fr n : ℕ) (ef' : frame_of st (ref_of r) ≡ Some fr) (eb : b ≡ physical fr (ref_of r).vb) (en : n ≡ s.count x.memory) (lt : b < n) where
      pub look_found : Found (board m s v u (mapped y ps)) r b
      look_found = subst (λ (z : Board). Found z r b) (sym same_board) (record { frame = fr; mapped = ef'; block = eb; below = subst (λ (z : ℕ). b < z) en lt })

      -- the path that went on
      pub look_goes : (z : Machine M S V R) (q : Result Access MachineFault) (o : Option ℕ) → r_find (cpu_at st i) b ≡ o
          → Does m s v u (mapped y ps) z (Tells access_answer (reference_fault r.processor (page_at r)) q) (unless (r_number o (board m s v u (mapped y ps)) (ref_of r) b) (board m s v u (mapped y ps)) (completed r.value (ref_of r) (miss_by o (rules_of m s v u x) (board m s v u (mapped y ps)) (ref_of r) b)))
          → Does m s v u x z (Tells access_answer (reference_fault r.processor (page_at r)) q) (miss_step (rules_of m s v u x) st r)
      look_goes z q o eo d =
          let lb : leb st.count (physical fr (ref_of r).vb) ≡ false = lt-leb st.count (physical fr (ref_of r).vb) (omega arith) in
          let step : unless (r_number o (board m s v u (mapped y ps)) (ref_of r) b) (board m s v u (mapped y ps)) (completed r.value (ref_of r) (miss_by o (rules_of m s v u x) (board m s v u (mapped y ps)) (ref_of r) b)) ≡ miss_step (rules_of m s v u x) st r =
          (λ j. unless (r_number o (same_board j) (ref_of r) (eb j)) (same_board j) (completed r.value (ref_of r) (miss_by o (rules_of m s v u x) (same_board j) (ref_of r) (eb j))))
          ∙ sym (miss_step_lem (rules_of m s v u x) st r fr o ef' lb (ap (r_find (cpu_at st i)) (sym eb) ∙ eo)) in
          record {
            sound = d.sound;
            rules = d.rules;
            after = d.after ∙ ap (λ (w : Step). w.after) step;
            told = subst (Tells access_answer (reference_fault r.processor (page_at r)) q) step d.told;
          }

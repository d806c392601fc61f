-- An R-miss.
use Rattle.std.proofs.Common.{◌≡◌, ℕ, ◌+◌, ◌-◌, ◌%◌, ◌^◌, ◌<◌, Bool, true, false, cond, List, [], ◌∷◌, ◌++◌, set, is_some, Some, None, Ok, Err, Option, Result, sym, refl, ap, ◌∙◌, subst, arith}
use borrow.Author.Tests.{clash}
use Rattle.std.proofs.lemmas.Bool.{lt-ltb}
use Rattle.base.specs.Blocks.{word_of}
use Rattle.base.specs.declared.block.PhysicalBlock.{PhysicalBlock}
use Rattle.memory.specs.declared.fault.MemoryFault.{MemoryFault}
use Rattle.memory.specs.declared.fault.MemoryFault.TheVariants.{Outside}
use Rattle.memory.specs.Words.{reading}
use Rattle.memory.specs.declared.memory.Memory as memories
use Rattle.paging.specs.declared.map.Map as maps
use Rattle.replacement.specs.declared.rule.Rule as replacements
use Rattle.lines.specs.declared.line.Level.TheVariants.{Miss}
use Rattle.machine.proofs.Besides.{besides}
use Rattle.faults.specs.declared.machine_fault.Caller.{Caller}
use Rattle.tables.specs.declared.types.Child.TheVariants.{NoChild}
use Rattle.tables.specs.declared.types.Counts.{Counts}
use Rattle.tables.specs.declared.types.EntryState.{EntryState}
use Rattle.tables.specs.declared.types.EntryState.TheVariants.{Absent, Private, Shared}
use Rattle.tables.specs.declared.types.VLine.{VLine}
use Rattle.tables.specs.declared.types.REntry.{REntry}
use Rattle.tables.specs.declared.types.Processor.{Processor}
use Rattle.bus.specs.declared.pass.Shared.{Shared as Seen}
use Rattle.bus.specs.Passes.{Fetches, Snoopable, blocks_of, fetch_pass, passed_of}
use Rattle.bus.proofs.Loops.{fetch_snooped}
use Rattle.machine.proofs.Ending.{answered_at, finished_at}
use Rattle.steps.specs.declared.found.Room.{Room}
use Rattle.steps.specs.Steps.{Rooms, child_freed, installed, line_freed, next_entry}
use Rattle.rules.proofs.Fetched.{free_child_counts, free_counts}
use Rattle.rules.specs.Sizes.{most_processors, r_sets, v_sets}
use Rattle.rules.specs.Bus.{Blocks, Passed, memory, message, proc_at, from_cpu}
use Rattle.rules.specs.Cache.{entry_at, evict, evict_by, is_absent, line_at, r_find, v_way}
use Rattle.rules.specs.Calls.{Board, Reached, cpu_at, fetch_kind, fetch_state, is_write, put_cpu, r_miss, snooped_by, with_mem, with_procs, write_back_by, write_back_sent}
use Rattle.rules.specs.Invariant.{Filled}
use Rattle.rules.specs.Rule.{Lawful}
use Rattle.rules.specs.Sound.{ProcOk, translate}
use Rattle.rules.proofs.Sizes.{r_set_in, v_set_in}
use Rattle.rules.proofs.Fetched.{set_keeps}
use Rattle.rules.proofs.Hits.{ReachOk, valid_filled}
use Rattle.rules.proofs.Room.{Freed}
use Rattle.rules.proofs.Whole.{Same}
use Rattle.rules.proofs.Miss as miss
use Rattle.rules.proofs.Miss.{r_miss_ok}
use Rattle.caches.specs.Ranged.{Ranged}
use Rattle.caches.proofs.InRange.{ok_ranged}
use Rattle.machine.specs.Answers.{access_answer, sent_list}
use Rattle.machine.specs.References.{Backs, backed, ref_of}
use Rattle.machine.specs.Refusals.{Tells, reference_fault}
use Rattle.machine.specs.Paths.{Admitted, Found, page_at, r_miss_step}
use Rattle.machine.specs.State.{Does, board, rules_of}
use Rattle.machine.specs.declared.answer.Sent.{Sent}
use Rattle.machine.specs.declared.machine.Machine.{Machine}
use Rattle.machine.specs.declared.reference.Reference.{Reference}
use Rattle.machine.proofs.Ends.{ends, with}
use Rattle.machine.proofs.Holding.{found_fits, found_translates}

-- a read of a block that is there is never refused
module _ (n : ℕ) (hs : ℕ → List ℕ) (b : PhysicalBlock) (lt : b.0 < n) (res : Result (List ℕ) MemoryFault) (e : res ≡ reading n hs b) (who : Caller) (o : Result (List ℕ) (MemoryFault × Caller)) (eo : o ≡ besides res who) where
  read_is : o ≡ Ok (hs b.0)
  read_is = eo ∙ ap (λ (z : Result (List ℕ) MemoryFault). besides z who) (e ∙ ap (λ t. cond t (Ok (hs b.0)) (Err (Outside b))) (lt-ltb b.0 n lt))

  pub read_words : (ws : List ℕ) → o ≡ Ok ws → ws ≡ hs b.0
  read_words ws q = let i = read_is in cc

  pub read_never : (f : MemoryFault × Caller) → o ≡ Err f → ⊥
  read_never f q = let i = read_is in let z : ◌≡◌ {A = ℕ} 0 1 = cc in omega arith

pub write_is : (v : Option ℕ) → is_some v ≡ is_write v
write_is None = refl
write_is (Some w) = refl

-- a board whose memory was written back to
backed_board : (d : Bool) (st : Board) (i : ℕ) (p : Processor) (e : REntry) → write_back_by d (put_cpu st i p) e ≡ with_mem (with_procs st (set st.procs i p)) (backed d st.mem e)
backed_board true st i p e = refl
backed_board false st i p e = refl

evict_fetched : (p : Processor) (h k : ℕ) → ((evict p h k).counts.fetched ≡ p.counts.fetched) × ((evict p h k).counts.invalidated ≡ p.counts.invalidated)
evict_fetched p h k = go (entry_at p h k).state
  where
    go : (c : EntryState) → ((evict_by c p h k).counts.fetched ≡ p.counts.fetched) × ((evict_by c p h k).counts.invalidated ≡ p.counts.invalidated)
    go Absent = (refl, refl)
    go Private = (refl, refl)
    go Shared = (refl, refl)

module _ {M S V R : Type 0} (m : maps.Ghosts M) (s : memories.Ghosts S) (v : replacements.Ghosts V) (u : replacements.Ghosts R)
    (x : Machine M S V R) (r : Reference) (b : ℕ) (f : Blocks) (A : Admitted m s v u r x f) (F : Found (board m s v u x) r b) (lacks : r_find (proc_at x.processors r.processor.0) b ≡ None)
    (lawV : Lawful (rules_of m s v u x).for_v) (lawR : Lawful (rules_of m s v u x).for_r) where
  abbrev st : Board
  st = board m s v u x

  abbrev i : ℕ
  i = r.processor.0

  abbrev vb : ℕ
  vb = (ref_of r).vb

  abbrev t : ℕ
  t = vb % v_sets

  abbrev h : ℕ
  h = b % r_sets

  abbrev p : Processor
  p = cpu_at st i

  abbrev way : ℕ
  way = v_way (rules_of m s v u x).for_v p t

  abbrev k : ℕ
  k = next_entry (rules_of m s v u x).for_v (rules_of m s v u x).for_r p t h

  abbrev p₂ : Processor
  p₂ = child_freed (rules_of m s v u x).for_v (rules_of m s v u x).for_r p t h

  abbrev e : REntry
  e = entry_at p₂ h k

  abbrev p_e : Processor
  p_e = evict p₂ h k

  abbrev T : ℕ → Option ℕ
  T = translate st.table p.process.0

  pub miss_few : i < most_processors
  miss_few = let a = A.cpu in let b = A.ready.few in omega arith

  pub miss_ok : ProcOk T f p
  miss_ok = A.ready.inv.each i A.cpu

  pub miss_replaced : p.counts.replaced < 2 ^ 32 - 1
  miss_replaced = let a = (A.ready.small i A.cpu).replaced in omega arith

  fr : Freed T f (line_freed (rules_of m s v u x).for_v (rules_of m s v u x).for_r p t h) p₂ h k
  fr = miss.fr f (rules_of m s v u x) lawV lawR st (ref_of r) b A.ready.inv A.cpu lacks (found_translates st r b F) (found_fits st r b F)

  -- the entry that goes is one of the memory's, where it is newer
  back_below : e.rdirty ≡ true → e.block.0 < s.count x.memory
  back_below d = go (is_absent e.state) refl
    where
      like : Same p p₂
      like = miss.same₂ f (rules_of m s v u x) lawV lawR st (ref_of r) b A.ready.inv A.cpu lacks (found_translates st r b F) (found_fits st r b F)

      go : (a : Bool) → is_absent e.state ≡ a → e.block.0 < s.count x.memory
      go true q = absurd (clash (sym (fr.ok.sound.void h k q) ∙ d))
      go false q = subst (λ (z : ℕ). z < s.count x.memory) (sym (like h k).block) (A.ready.below i h k (ap is_absent (sym (like h k).state) ∙ q))

  sb : miss.Back f (rules_of m s v u x) lawV lawR st (ref_of r) b A.ready.inv A.cpu lacks (found_translates st r b F) (found_fits st r b F) (write_back_by e.rdirty (put_cpu st i p_e) e)
  sb = miss.back f (rules_of m s v u x) lawV lawR st (ref_of r) b A.ready.inv A.cpu lacks (found_translates st r b F) (found_fits st r b F)

  counts_kept : (p_e.counts.fetched ≡ p.counts.fetched) × (p_e.counts.invalidated ≡ p.counts.invalidated)
  counts_kept =
      let cs : p₂.counts ≡ p.counts = free_child_counts (line_freed (rules_of m s v u x).for_v (rules_of m s v u x).for_r p t h) (entry_at (line_freed (rules_of m s v u x).for_v (rules_of m s v u x).for_r p t h) h k).child ∙ free_counts p t way in
      let ev = evict_fetched p₂ h k in
      (ev.0 ∙ ap (λ (z : Counts). z.fetched) cs, ev.1 ∙ ap (λ (z : Counts). z.invalidated) cs)

  seen : Snoopable st.cpus (set st.procs i p_e)
  seen =
      let bb = backed_board e.rdirty st i p_e e in
      record {
        few = A.ready.few;
        ranged = λ j l. subst (λ (z : Board). Ranged (cpu_at z j)) bb
            (ok_ranged (translate (write_back_by e.rdirty (put_cpu st i p_e) e).table (cpu_at (write_back_by e.rdirty (put_cpu st i p_e) e) j).process.0) f (cpu_at (write_back_by e.rdirty (put_cpu st i p_e) e) j)
            (sb.inv.each j (subst (λ (z : ℕ). j < z) (sym sb.cpus) l)));
        room = λ j l. set_keeps (λ q (z : Processor). z.counts.invalidated < 2 ^ 32 - 1) st.procs i j p_e _
            (let a = (A.ready.small i A.cpu).invalidated in let c = counts_kept.1 in omega arith) (let a = (A.ready.small j l).invalidated in omega arith);
      }

  abbrev X : Bool
  X = is_write r.value

  abbrev start : Passed
  start = record { procs = set st.procs i p_e; mem = backed e.rdirty st.mem e; supplier = memory; acked = false }

  abbrev reached : Reached
  reached = r_miss (rules_of m s v u x) st (ref_of r) b

  ok : ReachOk f st (ref_of r) reached
  ok = r_miss_ok f (rules_of m s v u x) lawV lawR st (ref_of r) b A.ready.inv A.cpu lacks (found_translates st r b F) (found_fits st r b F)

  -- the fetched entry, its processor and the board, by what the fetch came to
  abbrev come : Passed → REntry
  come q = record { state = fetch_state X q.acked; block = record { 0 = b }; words = q.mem b; rdirty = false; child = NoChild }

  abbrev home : Passed → Processor
  home q = installed (rules_of m s v u x).for_v (rules_of m s v u x).for_r (proc_at q.procs i) t way h k vb (come q)

  abbrev landed : Board → Passed → Board
  landed st₁ q = with_mem (with_procs st₁ (set q.procs i (home q))) q.mem

  snooped : snooped_by X i b (write_back_by e.rdirty (put_cpu st i p_e) e) ≡ fetch_pass X st.cpus i b start
  snooped =
      fetch_snooped X i b (write_back_by e.rdirty (put_cpu st i p_e) e)
      ∙ ap (λ (z : Board). fetch_pass X z.cpus i b (record { procs = z.procs; mem = z.mem; supplier = memory; acked = false })) (backed_board e.rdirty st i p_e e)

  at_is : reached.at ≡ landed st (fetch_pass X st.cpus i b start)
  at_is = λ j. landed (backed_board e.rdirty st i p_e e j) (snooped j)

  -- the processor of the reference is as it was when the fetch began
  mine : proc_at (fetch_pass X st.cpus i b start).procs i ≡ p_e
  mine = ap (λ (z : Passed). proc_at z.procs i) (sym snooped) ∙ miss.is₃ f (rules_of m s v u x) lawV lawR st (ref_of r) b A.ready.inv A.cpu lacks (found_translates st r b F) (found_fits st r b F)

  -- the room that was made, as the code has it: cpu and g are the processor and the virtual block
  pub miss_room : (cpu g : ℕ) (p' : Processor) (room : Room) → cpu ≡ i → g ≡ vb
      → ((T : ℕ → Option ℕ) (f : Blocks) → ProcOk T f (proc_at x.processors cpu) → (proc_at x.processors cpu).counts.replaced < 2 ^ 32 - 1 → Rooms (rules_of m s v u x).for_v (rules_of m s v u x).for_r (proc_at x.processors cpu) (g % v_sets) (b % r_sets) p' room)
      → Rooms (rules_of m s v u x).for_v (rules_of m s v u x).for_r p t h p' room
  miss_room cpu g p' room ec eg k =
      subst (λ (z : Processor). Rooms (rules_of m s v u x).for_v (rules_of m s v u x).for_r z t h p' room) (ap (proc_at x.processors) ec)
      (subst (λ (z : ℕ). Rooms (rules_of m s v u x).for_v (rules_of m s v u x).for_r (proc_at x.processors cpu) (z % v_sets) h p' room) eg
      (k T f (subst (λ (z : ℕ). ProcOk T f (proc_at x.processors z)) (sym ec) miss_ok) (subst (λ (z : ℕ). (proc_at x.processors z).counts.replaced < 2 ^ 32 - 1) (sym ec) miss_replaced)))

  module _ (cpu g : ℕ) (p' : Processor) (room : Room) (ec : cpu ≡ i) (rm : Rooms (rules_of m s v u x).for_v (rules_of m s v u x).for_r p t h p' room) where
    pub miss_back : (y : S) → (s.sound x.memory → (room.replaced.rdirty ≡ true → room.replaced.block.0 < s.count x.memory) → Backs s room.replaced x.memory y) → Backs s room.replaced x.memory y
    miss_back y k = k A.sound.memory (subst (λ (z : REntry). z.rdirty ≡ true → z.block.0 < s.count x.memory) (sym rm.replaced) back_below)

    procs_is : set st.procs cpu p' ≡ set st.procs i p_e
    procs_is = λ j. set st.procs (ec j) (rm.processor j)

    module _ (y₁ : S) (bk : Backs s room.replaced x.memory y₁) (z : Bool) (ez : z ≡ X) where
      below₁ : b < s.count y₁
      below₁ = subst (λ (n : ℕ). b < n) (sym bk.count) F.below

      pub miss_fetch : (qs : List Processor) (y₂ : S) (sh : Seen) (o : ℕ) → o ≡ i → (Snoopable st.cpus (set st.procs cpu p') → s.sound y₁ → b < s.count y₁ → Fetches s z st.cpus o b (set st.procs cpu p') qs y₁ y₂ sh)
          → Fetches s z st.cpus i b (set st.procs cpu p') qs y₁ y₂ sh
      miss_fetch qs y₂ sh o eo k = subst (λ (w : ℕ). Fetches s z st.cpus w b (set st.procs cpu p') qs y₁ y₂ sh) eo (k (subst (Snoopable st.cpus) (sym procs_is) seen) bk.sound below₁)

      module _ (qs : List Processor) (y₂ : S) (sh : Seen) (fe : Fetches s z st.cpus i b (set st.procs cpu p') qs y₁ y₂ sh) where
        pub miss_below : b < s.count y₂
        miss_below = subst (λ (n : ℕ). b < n) (sym fe.count) below₁

        came : passed_of s qs y₂ sh ≡ fetch_pass X st.cpus i b start
        came = fe.pass ∙ (λ j. fetch_pass (ez j) st.cpus i b (record { procs = procs_is j; mem = (bk.blocks ∙ ap (λ (w : REntry). backed w.rdirty st.mem w) rm.replaced) j; supplier = memory; acked = false }))

        at_here : reached.at ≡ landed st (passed_of s qs y₂ sh)
        at_here = at_is ∙ sym (ap (landed st) came)

        pub miss_fetched : (proc_at qs cpu).counts.fetched < 2 ^ 32 - 1
        miss_fetched =
            let me : proc_at qs cpu ≡ p_e = (λ j. proc_at (came j).procs (ec j)) ∙ mine in
            let fc : (proc_at qs cpu).counts.fetched ≡ p.counts.fetched = ap (λ (w : Processor). w.counts.fetched) me ∙ counts_kept.0 in
            let a = (A.ready.small i A.cpu).fetched in
            omega arith

        -- the end; y₃ is the memory after its read
        pub miss_ends : (y₃ : S) (ps : List Processor) (p₅ : Processor) (q : Sent) (n : REntry) (t' h' g w word acc : ℕ) → t' ≡ t → h' ≡ h → g ≡ vb → w ≡ word_of r.address.0 → s.sound y₃ → s.count y₃ ≡ s.count y₂ → blocks_of s y₃ ≡ blocks_of s y₂
            → st.held ≡ false → n ≡ record { state = fetch_state z sh.acked; block = record { 0 = b }; words = blocks_of s y₂ b; rdirty = false; child = NoChild }
            → (t' < v_sets → h' < r_sets → p₅ ≡ installed (rules_of m s v u x).for_v (rules_of m s v u x).for_r (proc_at qs cpu) t' room.line_way h' room.entry_way g n)
            → (t' < v_sets → Ranged (proc_at (set qs cpu p₅) cpu) → Filled (line_at (proc_at (set qs cpu p₅) cpu) t' room.line_way) → ps ≡ finished_at r.value (set qs cpu p₅) cpu t' room.line_way w)
            → (t' < v_sets → word ≡ answered_at r.value (set qs cpu p₅) cpu t' room.line_way w)
            → sent_list q ≡ write_back_sent room.replaced.rdirty i room.replaced ++ (message (fetch_kind z) (from_cpu i) sh.supplier b ∷ []) → acc ≡ x.accepted + 1
            → Does m s v u x (with m s v u x y₃ ps acc) (Tells access_answer (reference_fault r.processor (page_at r)) (Ok (record { level = Miss; word = word; sent = q }))) (r_miss_step (rules_of m s v u x) st r b)
        miss_ends y₃ ps p₅ q n t' h' g w word acc et eh eg ew so₃ ec₃ eb₃ free en e₅ ef eo es ea =
            let lt : t' < v_sets = subst (λ (c : ℕ). c < v_sets) (sym et) (v_set_in vb) in
            let lh : h' < r_sets = subst (λ (c : ℕ). c < r_sets) (sym eh) (r_set_in b) in
            let Z = passed_of s qs y₂ sh in
            let is₅ : p₅ ≡ home Z = e₅ lt lh ∙ (λ j. installed (rules_of m s v u x).for_v (rules_of m s v u x).for_r (proc_at qs (ec j)) (et j) (rm.line_way j) (eh j) (rm.entry_way j) (eg j)
            ((en ∙ (λ l. record { state = fetch_state (ez l) sh.acked; block = record { 0 = b }; words = blocks_of s y₂ b; rdirty = false; child = NoChild })) j)) in
            let ix : set qs cpu p₅ ≡ reached.at.procs = (λ j. set qs (ec j) (is₅ j)) ∙ sym (ap (λ (c : Board). c.procs) at_here) in
            let same : proc_at (set qs cpu p₅) cpu ≡ cpu_at reached.at i = λ j. proc_at (ix j) (ec j) in
            let rg : Ranged (proc_at (set qs cpu p₅) cpu) = subst Ranged (sym same) (ok_ranged (translate reached.at.table (cpu_at reached.at i).process.0) f (cpu_at reached.at i) (ok.inv.each i (subst (λ (c : ℕ). i < c) (sym ok.cpus) A.cpu))) in
            let fl : Filled (line_at (proc_at (set qs cpu p₅) cpu) t' room.line_way) = subst (λ (c : VLine). Filled c) (λ j. line_at (sym same j) (sym et j) (sym rm.line_way j)) (valid_filled (line_at (cpu_at reached.at i) t way).state ok.valid) in
            let memory_is : with_procs (board m s v u (with m s v u x y₃ x.processors x.accepted)) (landed st Z).procs ≡ landed st Z =
            λ j. record { procs = (landed st Z).procs; cpus = st.cpus; mem = eb₃ j; count = (ec₃ ∙ fe.count ∙ bk.count) j; table = st.table; held = st.held; accepted = st.accepted; setup = st.setup; number = st.number } in
            ends m s v u (reference_fault r.processor (page_at r)) x y₃ r reached ps acc word Miss q _ (record { map = A.sound.map; memory = so₃ }) (ap (λ (c : Bool). Rattle.rules.specs.Calls.bus_number c true) free)
            (ap (λ (c : Board). with_procs (board m s v u (with m s v u x y₃ x.processors x.accepted)) c.procs) at_here ∙ memory_is ∙ sym at_here)
            (ef lt rg fl ∙ (λ j. finished_at r.value (ix j) (ec j) (et j) (rm.line_way j) (ew j)))
            (eo lt ∙ (λ j. answered_at r.value (ix j) (ec j) (et j) (rm.line_way j) (ew j)))
            ea refl
            (es ∙ (λ j. write_back_sent (rm.replaced j).rdirty i (rm.replaced j) ++ (message (fetch_kind (ez j)) (from_cpu i) ((ap (λ (c : Passed). c.supplier) (came ∙ sym snooped)) j) b ∷ [])))

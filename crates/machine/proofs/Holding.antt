-- An R-hit.
use Rattle.std.proofs.Common.{◌≡◌, ℕ, ◌+◌, ◌%◌, ◌<◌, List, set, Some, Ok, Err, Option, Result, sym, refl, ap, ◌∙◌, subst, arith}
use Rattle.base.specs.Blocks.{word_of}
use Rattle.memory.specs.declared.memory.Memory as memories
use Rattle.paging.specs.declared.map.Map as maps
use Rattle.replacement.specs.declared.rule.Rule as replacements
use Rattle.faults.specs.declared.machine_fault.MachineFault.{MachineFault}
use Rattle.tables.specs.declared.types.VLine.{VLine}
use Rattle.tables.specs.declared.types.REntry.{REntry}
use Rattle.tables.specs.declared.types.Processor.{Processor}
use Rattle.bus.specs.Passes.{Snoopable}
use Rattle.machine.proofs.Ending.{answered_at, finished_at}
use Rattle.steps.specs.declared.found.Found.{Found as FoundLine}
use Rattle.steps.specs.Steps.{Attaches}
use Rattle.rules.specs.Sizes.{most_processors, page_blocks, r_sets, r_ways, v_sets, v_ways}
use Rattle.rules.specs.Bus.{Blocks, proc_at}
use Rattle.rules.specs.Cache.{entry_at, holds, line_at, r_find}
use Rattle.rules.specs.Calls.{Attached, Board, Reached, attach, cpu_at, needs_upgrade, put_cpu, r_hit, upgrade_by, with_procs}
use Rattle.rules.specs.Invariant.{Filled}
use Rattle.rules.specs.Rule.{Lawful}
use Rattle.rules.specs.Sound.{physical_by, translate}
use Rattle.rules.proofs.Seek.{first_some, r_found}
use Rattle.rules.proofs.Sizes.{page_fits, r_set_in}
use Rattle.rules.proofs.Upgrade.{UpgradeOk, upgrade_ok}
use Rattle.rules.proofs.Hits.{ReachOk, r_hit_ok, valid_filled}
use Rattle.caches.specs.Ranged.{ChildIn, Ranged}
use Rattle.caches.proofs.InRange.{ok_ranged}
use Rattle.caches.proofs.Snoops.{child_in}
use Rattle.machine.specs.Answers.{access_answer}
use Rattle.machine.specs.References.{Claimed, Claims, Kept, must_upgrade, ref_of, upgraded}
use Rattle.machine.specs.Refusals.{Tells, reference_fault}
use Rattle.machine.specs.Paths.{Admitted, Found, page_at, r_hit_step}
use Rattle.machine.specs.State.{Does, board, rules_of}
use Rattle.machine.specs.declared.answer.Sent.{Sent}
use Rattle.machine.specs.declared.machine.Machine.{Machine}
use Rattle.machine.specs.declared.reference.Reference.{Reference}
use Rattle.machine.proofs.Ends.{ends, stops, snoopable, upgrade_board, upgrade_messages_lem, with}

-- what the map gave
module _ (st : Board) (r : Reference) (b : ℕ) (F : Found st r b) where
  pub found_translates : translate st.table (cpu_at st r.processor.0).process.0 (ref_of r).vb ≡ Some b
  found_translates = ap {B = Option ℕ} (λ o. physical_by o (ref_of r).vb) F.mapped ∙ ap {B = Option ℕ} Some (sym F.block)

  pub found_fits : (ref_of r).vb % v_sets % page_blocks ≡ b % r_sets % page_blocks
  found_fits = page_fits F.frame (ref_of r).vb ∙ ap (λ z. z % r_sets % page_blocks) (sym F.block)

module _ {M S V R : Type 0} (m : maps.Ghosts M) (s : memories.Ghosts S) (v : replacements.Ghosts V) (u : replacements.Ghosts R)
    (x : Machine M S V R) (r : Reference) (b w : ℕ) (f : Blocks) (A : Admitted m s v u r x f) (F : Found (board m s v u x) r b) (found : r_find (proc_at x.processors r.processor.0) b ≡ Some w) where
  abbrev st : Board
  st = board m s v u x

  abbrev i : ℕ
  i = r.processor.0

  abbrev t : ℕ
  t = (ref_of r).vb % v_sets

  abbrev h : ℕ
  h = b % r_sets

  abbrev e : REntry
  e = entry_at (cpu_at st i) h w

  pub here_few : i < most_processors
  here_few = let a = A.cpu in let b = A.ready.few in omega arith

  pub here_way : w < r_ways
  here_way = (first_some r_ways (λ k. holds b (entry_at (cpu_at st i) h k)) w found).0

  abbrev Q : List Processor
  Q = upgraded (must_upgrade r.value st.procs i h w) st.cpus st.procs i h w

  up : UpgradeOk f st (upgrade_by (needs_upgrade r.value e) st i h w) i h w r.value
  up = upgrade_ok f st i h w r.value A.ready.inv A.cpu (r_found (cpu_at st i) b w found).0

  up_is : upgrade_by (needs_upgrade r.value e) st i h w ≡ with_procs st Q
  up_is = upgrade_board (needs_upgrade r.value e) st i h w

  -- the processor after the claim names no place outside its tables
  here_ranged : Ranged (proc_at Q i)
  here_ranged =
      subst (λ (z : Board). Ranged (cpu_at z i)) up_is
      (ok_ranged (translate (upgrade_by (needs_upgrade r.value e) st i h w).table (cpu_at (upgrade_by (needs_upgrade r.value e) st i h w) i).process.0) f (cpu_at (upgrade_by (needs_upgrade r.value e) st i h w) i)
      (up.inv.each i (subst (λ (z : ℕ). i < z) (sym up.cpus) A.cpu)))

  here_child : ChildIn e.child
  here_child = child_in (cpu_at st i) h w (ok_ranged (translate st.table (cpu_at st i).process.0) f (cpu_at st i) (A.ready.inv.each i A.cpu))

  -- the entry and the claim, as the code has them
  pub here_entry : (e' : REntry) (cpu h' w' : ℕ) → cpu ≡ i → h' ≡ h → w' ≡ w → (h' < r_sets → w' < r_ways → e' ≡ entry_at (proc_at x.processors cpu) h' w') → e' ≡ e
  here_entry e' cpu h' w' ec eh ew el =
      el (subst (λ (z : ℕ). z < r_sets) (sym eh) (r_set_in b)) (subst (λ (z : ℕ). z < r_ways) (sym ew) here_way) ∙ (λ j. entry_at (proc_at x.processors (ec j)) (eh j) (ew j))

  pub here_claim : (h' w' : ℕ) → h' ≡ h → w' ≡ w → (zs qs : List Processor) (o : Result Sent MachineFault) → zs ≡ st.procs
      → (i < most_processors → Snoopable st.cpus zs → h' < r_sets → w' < r_ways → Claims st.held r st.cpus h' w' zs qs o)
      → Claims st.held r st.cpus h w st.procs qs o
  here_claim h' w' eh ew zs qs o ez k =
      subst (λ (z : List Processor). Claims st.held r st.cpus h w z qs o) ez
      (subst (λ (z : ℕ). Claims st.held r st.cpus z w zs qs o) eh
      (subst (λ (z : ℕ). Claims st.held r st.cpus h' z zs qs o) ew
      (k here_few (subst (Snoopable st.cpus) (sym ez) (snoopable f st A.ready)) (subst (λ (z : ℕ). z < r_sets) (sym eh) (r_set_in b)) (subst (λ (z : ℕ). z < r_ways) (sym ew) here_way))))

  pub here_stops : (qs : List Processor) (e : MachineFault) → Kept st.held r.value r.processor i h w st.procs qs e
      → Does m s v u x (with m s v u x x.memory qs x.accepted) (Tells access_answer (reference_fault r.processor (page_at r)) (Err e)) (r_hit_step (rules_of m s v u x) st r b w)
  here_stops qs e k =
      stops m s v u (reference_fault r.processor (page_at r)) x access_answer (with m s v u x x.memory qs x.accepted) 7 _ _ e (record { map = A.sound.map; memory = A.sound.memory }) refl
      (ap (λ (z : List Processor). with_procs st z) k.processors) k.number k.fault (rw k.fault)

  module _ (law : Lawful (rules_of m s v u x).for_v) where
    abbrev reached : Reached
    reached = r_hit (rules_of m s v u x) st (ref_of r) b w

    abbrev tied : Processor → Attached
    tied p = attach e.child (rules_of m s v u x).for_v (rules_of m s v u x).for_r p (ref_of r).vb b w

    ok : ReachOk f st (ref_of r) reached
    ok = r_hit_ok f (rules_of m s v u x) law st (ref_of r) b w A.ready.inv A.cpu found (found_translates st r b F) (found_fits st r b F)

    at_is : reached.at ≡ with_procs st (set Q i (tied (proc_at Q i)).cpu)
    at_is = ap (λ (z : Board). put_cpu z i (tied (cpu_at z i)).cpu) up_is

    way_is : (tied (proc_at Q i)).way ≡ reached.way
    way_is = sym (ap (λ (z : Board). (tied (cpu_at z i)).way) up_is)

    level_is : (tied (proc_at Q i)).level ≡ reached.level
    level_is = sym (ap (λ (z : Board). (tied (cpu_at z i)).level) up_is)

    pub here_ends : (qs ps : List Processor) (p : Processor) (q : Sent) (fd : FoundLine) (e' : REntry) (cpu t' k g word n : ℕ) → cpu ≡ i → t' ≡ t → k ≡ word_of r.address.0 → g ≡ (ref_of r).vb → e' ≡ e
        → Claimed st.held r.value st.cpus i h w st.procs qs q
        → (Ranged (proc_at qs cpu) → ChildIn e'.child → w < r_ways → Attaches p fd (attach e'.child (rules_of m s v u x).for_v (rules_of m s v u x).for_r (proc_at qs cpu) g b w))
        → (fd.way < v_ways → Ranged (proc_at (set qs cpu p) cpu) → Filled (line_at (proc_at (set qs cpu p) cpu) t' fd.way) → ps ≡ finished_at r.value (set qs cpu p) cpu t' fd.way k)
        → (fd.way < v_ways → word ≡ answered_at r.value (set qs cpu p) cpu t' fd.way k) → n ≡ x.accepted + 1
        → Does m s v u x (with m s v u x x.memory ps n) (Tells access_answer (reference_fault r.processor (page_at r)) (Ok (record { level = fd.level; word = word; sent = q }))) (r_hit_step (rules_of m s v u x) st r b w)
    here_ends qs ps p q fd e' cpu t' k g word n ec et ek eg ee cl ea ef ew en =
        let mine : proc_at qs cpu ≡ proc_at Q i = λ j. proc_at (cl.processors j) (ec j) in
        let at₀ = ea (subst Ranged (sym mine) here_ranged) (subst (λ (z : REntry). ChildIn z.child) (sym ee) here_child) here_way in
        let same_tied : attach e'.child (rules_of m s v u x).for_v (rules_of m s v u x).for_r (proc_at qs cpu) g b w ≡ tied (proc_at Q i) =
        λ j. attach (ee j).child (rules_of m s v u x).for_v (rules_of m s v u x).for_r (mine j) (eg j) b w in
        let at₁ : Attaches p fd (tied (proc_at Q i)) = subst (Attaches p fd) same_tied at₀ in
        let ix : set qs cpu p ≡ reached.at.procs = (λ j. set (cl.processors j) (ec j) (at₁.processor j)) ∙ sym (ap (λ (z : Board). z.procs) at_is) in
        let ew' : fd.way ≡ reached.way = at₁.way ∙ way_is in
        let same : proc_at (set qs cpu p) cpu ≡ cpu_at reached.at i = λ j. proc_at (ix j) (ec j) in
        let rg : Ranged (proc_at (set qs cpu p) cpu) = subst Ranged (sym same) (ok_ranged (translate reached.at.table (cpu_at reached.at i).process.0) f (cpu_at reached.at i) (ok.inv.each i (subst (λ (z : ℕ). i < z) (sym ok.cpus) A.cpu))) in
        let fl : Filled (line_at (proc_at (set qs cpu p) cpu) t' fd.way) = subst (λ (z : VLine). Filled z) (λ j. line_at (sym same j) (sym et j) (sym ew' j)) (valid_filled (line_at (cpu_at reached.at i) t reached.way).state ok.valid) in
        ends m s v u (reference_fault r.processor (page_at r)) x x.memory r reached ps n word fd.level q _ (record { map = A.sound.map; memory = A.sound.memory }) cl.number
        (ap (λ (z : Board). with_procs st z.procs) at_is ∙ sym at_is)
        (ef at₁.within rg fl ∙ (λ j. finished_at r.value (ix j) (ec j) (et j) (ew' j) (ek j)))
        (ew at₁.within ∙ (λ j. answered_at r.value (ix j) (ec j) (et j) (ew' j) (ek j)))
        en (at₁.level ∙ level_is) (cl.messages ∙ upgrade_messages_lem (needs_upgrade r.value e) st i h w)

-- A V-hit.
use Rattle.std.proofs.Common.{◌≡◌, ℕ, ◌+◌, ◌%◌, ◌<◌, List, set, Some, Ok, Err, Result, sym, refl, ap, ◌∙◌, subst, arith}
use Rattle.base.specs.Blocks.{block_of, word_of}
use Rattle.memory.specs.declared.memory.Memory as memories
use Rattle.paging.specs.declared.map.Map as maps
use Rattle.replacement.specs.declared.rule.Rule as replacements
use Rattle.lines.specs.declared.line.Level.TheVariants.{VHit}
use Rattle.faults.specs.declared.machine_fault.MachineFault.{MachineFault}
use Rattle.tables.specs.declared.types.VLine.{VLine}
use Rattle.tables.specs.declared.types.Processor.{Processor}
use Rattle.bus.specs.Passes.{Snoopable}
use Rattle.machine.proofs.Ending.{answered_at, finished_at}
use Rattle.rules.specs.Sizes.{most_processors, r_sets, r_ways, v_sets, v_ways}
use Rattle.rules.specs.Bus.{Blocks, proc_at}
use Rattle.rules.specs.Cache.{hits, line_at, v_find, v_used}
use Rattle.rules.specs.Calls.{Board, Reached, cpu_at, put_cpu, v_hit, with_procs}
use Rattle.rules.specs.Invariant.{Filled}
use Rattle.rules.specs.Sound.{translate}
use Rattle.rules.proofs.Seek.{first_some, v_found}
use Rattle.rules.proofs.Sizes.{v_set_in}
use Rattle.rules.proofs.Hits.{ReachOk, v_hit_ok, valid_filled}
use Rattle.caches.specs.Ranged.{Ranged}
use Rattle.caches.proofs.InRange.{ok_ranged}
use Rattle.machine.specs.Answers.{access_answer}
use Rattle.machine.specs.References.{Claimed, Claims, Kept, must_upgrade, ref_of, upgraded}
use Rattle.machine.specs.Refusals.{Tells, reference_fault}
use Rattle.machine.specs.Paths.{Admitted, hit_step, page_at}
use Rattle.machine.specs.State.{Does, board, rules_of}
use Rattle.machine.specs.declared.answer.Sent.{Sent}
use Rattle.machine.specs.declared.machine.Machine.{Machine}
use Rattle.machine.specs.declared.reference.Reference.{Reference}
use Rattle.machine.proofs.Ends.{ends, stops, snoopable, upgrade_board, upgrade_messages_lem, with}

module _ {M S V R : Type 0} (m : maps.Ghosts M) (s : memories.Ghosts S) (v : replacements.Ghosts V) (u : replacements.Ghosts R)
    (x : Machine M S V R) (r : Reference) (w : ℕ) (f : Blocks) (A : Admitted m s v u r x f) (found : v_find (proc_at x.processors r.processor.0) (block_of r.address.0) ≡ Some w) where
  abbrev st : Board
  st = board m s v u x

  abbrev i : ℕ
  i = r.processor.0

  abbrev t : ℕ
  t = (ref_of r).vb % v_sets

  abbrev l : VLine
  l = line_at (cpu_at st i) t w

  pub few : i < most_processors
  few = let a = A.cpu in let b = A.ready.few in omega arith

  pub way : w < v_ways
  way = (first_some v_ways (λ k. hits (ref_of r).vb (line_at (cpu_at st i) t k)) w found).0

  ranged : Ranged (cpu_at st i)
  ranged = ok_ranged (translate st.table (cpu_at st i).process.0) f (cpu_at st i) (A.ready.inv.each i A.cpu)

  pub home : (l.rplace.set < r_sets) × (l.rplace.way < r_ways)
  home = ranged.lines t w (valid_filled l.state (v_found (cpu_at st i) (ref_of r).vb w found).0)

  abbrev reached : Reached
  reached = v_hit (rules_of m s v u x) st (ref_of r) w

  ok : ReachOk f st (ref_of r) reached
  ok = v_hit_ok f (rules_of m s v u x) st (ref_of r) w A.ready.inv A.cpu found

  abbrev Q : List Processor
  Q = upgraded (must_upgrade r.value st.procs i l.rplace.set l.rplace.way) st.cpus st.procs i l.rplace.set l.rplace.way

  at_is : reached.at ≡ with_procs st (set Q i (v_used (rules_of m s v u x).for_v (proc_at Q i) t w))
  at_is = ap (λ (z : Board). put_cpu z i (v_used (rules_of m s v u x).for_v (cpu_at z i) t w)) (upgrade_board (must_upgrade r.value st.procs i l.rplace.set l.rplace.way) st i l.rplace.set l.rplace.way)

  -- the end, from what the code did: cpu, t' and k are the processor, the V-set and the word as the code has them
  pub hit_ends : (qs ps : List Processor) (p : Processor) (q : Sent) (cpu t' k word n : ℕ) → cpu ≡ i → t' ≡ t → k ≡ word_of r.address.0
      → Claimed st.held r.value st.cpus i l.rplace.set l.rplace.way st.procs qs q
      → p ≡ v_used (rules_of m s v u x).for_v (proc_at qs cpu) t' w
      → (Ranged (proc_at (set qs cpu p) cpu) → Filled (line_at (proc_at (set qs cpu p) cpu) t' w) → ps ≡ finished_at r.value (set qs cpu p) cpu t' w k)
      → word ≡ answered_at r.value (set qs cpu p) cpu t' w k → n ≡ x.accepted + 1
      → Does m s v u x (with m s v u x x.memory ps n) (Tells access_answer (reference_fault r.processor (page_at r)) (Ok (record { level = VHit; word = word; sent = q }))) (hit_step (rules_of m s v u x) st r w)
  hit_ends qs ps p q cpu t' k word n ec et ek cl ep ef ew en =
      let ix : set qs cpu p ≡ reached.at.procs =
      (λ j. set (cl.processors j) (ec j) ((ep ∙ (λ h. v_used (rules_of m s v u x).for_v (proc_at (cl.processors h) (ec h)) (et h) w)) j)) ∙ sym (ap (λ (z : Board). z.procs) at_is) in
      let same : proc_at (set qs cpu p) cpu ≡ cpu_at reached.at i = λ j. proc_at (ix j) (ec j) in
      let rg : Ranged (proc_at (set qs cpu p) cpu) = subst Ranged (sym same) (ok_ranged (translate reached.at.table (cpu_at reached.at i).process.0) f (cpu_at reached.at i) (ok.inv.each i (subst (λ (z : ℕ). i < z) (sym ok.cpus) A.cpu))) in
      let fl : Filled (line_at (proc_at (set qs cpu p) cpu) t' w) = subst (λ (z : VLine). Filled z) (λ j. line_at (sym same j) (sym et j) w) (valid_filled (line_at (cpu_at reached.at i) t w).state ok.valid) in
      ends m s v u (reference_fault r.processor (page_at r)) x x.memory r reached ps n word VHit q _ (record { map = A.sound.map; memory = A.sound.memory }) cl.number
      (ap (λ (z : Board). with_procs st z.procs) at_is ∙ sym at_is)
      (ef rg fl ∙ (λ j. finished_at r.value (ix j) (ec j) (et j) w (ek j)))
      (ew ∙ (λ j. answered_at r.value (ix j) (ec j) (et j) w (ek j)))
      en refl (cl.messages ∙ upgrade_messages_lem (must_upgrade r.value st.procs i l.rplace.set l.rplace.way) st i l.rplace.set l.rplace.way)

  -- the refusal
  pub hit_stops : (qs : List Processor) (e : MachineFault) → Kept st.held r.value r.processor i l.rplace.set l.rplace.way st.procs qs e
      → Does m s v u x (with m s v u x x.memory qs x.accepted) (Tells access_answer (reference_fault r.processor (page_at r)) (Err e)) (hit_step (rules_of m s v u x) st r w)
  hit_stops qs e k =
      stops m s v u (reference_fault r.processor (page_at r)) x access_answer (with m s v u x x.memory qs x.accepted) 7 _ _ e (record { map = A.sound.map; memory = A.sound.memory }) refl
      (ap (λ (z : List Processor). with_procs st z) k.processors) k.number k.fault (rw k.fault)

  -- the line and the claim, as the code has them
  pub hit_line : (l' : VLine) (cpu t' : ℕ) → cpu ≡ i → t' ≡ t → (t' < v_sets → w < v_ways → l' ≡ line_at (proc_at x.processors cpu) t' w) → l' ≡ l
  hit_line l' cpu t' ec et el = el (subst (λ (z : ℕ). z < v_sets) (sym et) (v_set_in (ref_of r).vb)) way ∙ (λ j. line_at (proc_at x.processors (ec j)) (et j) w)

  pub hit_claim : (l' : VLine) → l' ≡ l → (zs qs : List Processor) (o : Result Sent MachineFault) → zs ≡ st.procs
      → (i < most_processors → Snoopable st.cpus zs → l'.rplace.set < r_sets → l'.rplace.way < r_ways → Claims st.held r st.cpus l'.rplace.set l'.rplace.way zs qs o)
      → Claims st.held r st.cpus l.rplace.set l.rplace.way st.procs qs o
  hit_claim l' el zs qs o ez k =
      subst (λ (z : List Processor). Claims st.held r st.cpus l.rplace.set l.rplace.way z qs o) ez
      (subst (λ (z : VLine). Claims st.held r st.cpus z.rplace.set z.rplace.way zs qs o) el
      (k few (subst (Snoopable st.cpus) (sym ez) (snoopable f st A.ready)) (subst (λ (z : VLine). z.rplace.set < r_sets) (sym el) home.0) (subst (λ (z : VLine). z.rplace.way < r_ways) (sym el) home.1)))

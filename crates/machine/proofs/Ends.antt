-- The ends of a path: accepted, or refused with nothing changed.
use Rattle.std.proofs.Common.{◌≡◌, ℕ, suc, ◌+◌, ◌-◌, ◌^◌, ◌<◌, Bool, true, false, List, [], Some, None, Ok, Err, Option, sym, refl, ap, ◌∙◌, subst, arith}
use Rattle.memory.specs.declared.memory.Memory as memories
use Rattle.paging.specs.declared.map.Map as maps
use Rattle.replacement.specs.declared.rule.Rule as replacements
use Rattle.lines.specs.declared.line.Level.{Level}
use Rattle.faults.specs.declared.machine_fault.MachineFault.{MachineFault}
use Rattle.faults.specs.MachineFaults.{fault_number}
use Rattle.tables.specs.declared.types.Processor.{Processor}
use Rattle.bus.specs.Passes.{Snoopable}
use Rattle.machine.proofs.Ending.{answered_at, finished_at}
use Rattle.rules.specs.Sizes.{most_accepted}
use Rattle.rules.specs.Bus.{Blocks, proc_at}
use Rattle.rules.specs.Calls.{Answer, Board, Reached, Ref, Step, completed, counted, upgrade_by, upgrade_sent, with_procs}
use Rattle.rules.specs.Ready.{Ready}
use Rattle.caches.proofs.InRange.{ok_ranged}
use Rattle.rules.specs.Sound.{translate}
use Rattle.machine.specs.Answers.{access_answer, sent_list}
use Rattle.machine.specs.References.{ref_of, unless, upgraded, upgrade_messages}
use Rattle.machine.specs.Refusals.{Accepts, Tells}
use Rattle.machine.specs.State.{Does, Sound, board, rules_of}
use Rattle.machine.specs.declared.answer.Sent.{Sent}
use Rattle.machine.specs.declared.machine.Machine.{Machine}
use Rattle.machine.specs.declared.reference.Reference.{Reference}

-- one call more
pub one_more : (n k : ℕ) → n < most_accepted → (n < 2 ^ 32 - 1 → k ≡ n + 1) → k ≡ n + 1
one_more n k l e = e (omega arith)

-- an upgrade, over the processors alone
pub upgrade_board : (t : Bool) (st : Board) (i h k : ℕ) → upgrade_by t st i h k ≡ with_procs st (upgraded t st.cpus st.procs i h k)
upgrade_board true st i h k = refl
upgrade_board false st i h k = refl

pub upgrade_messages_lem : (t : Bool) (st : Board) (i h k : ℕ) → upgrade_messages t st.procs i h k ≡ upgrade_sent t st i h k
upgrade_messages_lem true st i h k = refl
upgrade_messages_lem false st i h k = refl

-- the end of a reference, over the processors alone
completed_after : (v : Option ℕ) (r : Ref) (a : Reached) → counted (with_procs a.at (finished_at v a.at.procs r.cpu a.set a.way r.word)) ≡ (completed v r a).after
completed_after None r a = refl
completed_after (Some x) r a = refl

completed_answer : (v : Option ℕ) (r : Ref) (a : Reached) → record { level = a.level; word = answered_at v a.at.procs r.cpu a.set a.way r.word; block = []; sent = a.sent } ≡ (completed v r a).answer
completed_answer None r a = refl
completed_answer (Some x) r a = refl

completed_number : (v : Option ℕ) (r : Ref) (a : Reached) → (completed v r a).number ≡ 0
completed_number None r a = refl
completed_number (Some x) r a = refl

-- processors that can be snooped
pub snoopable : (f : Blocks) (st : Board) → Ready f st → Snoopable st.cpus st.procs
snoopable f st R = record {
  few = R.few;
  ranged = λ i l. ok_ranged (translate st.table (proc_at st.procs i).process.0) f (proc_at st.procs i) (R.inv.each i l);
  room = λ i l. let k = (R.small i l).invalidated in omega arith;
}

module _ {M S V R : Type 0} (m : maps.Ghosts M) (s : memories.Ghosts S) (v : replacements.Ghosts V) (u : replacements.Ghosts R) where
  -- a machine with another memory, other processors and accepted calls
  abbrev pub with : Machine M S V R → S → List Processor → ℕ → Machine M S V R
  with x y ps n = record { map = x.map; memory = y; rules = x.rules; processors = ps; count = x.count; held = x.held; accepted = n; setup = x.setup; number = x.number }

  module _ (which : ℕ → MachineFault) (x : Machine M S V R) where
    -- accepted: the number is 0, the path reached a, and the reference ended there
    pub ends : (y : S) (r : Reference) (a : Reached) (ps : List Processor) (n w : ℕ) (l : Level) (q : Sent) (d : ℕ) → Sound m s v u (with x y ps n) → d ≡ 0
        → with_procs (board m s v u (with x y x.processors x.accepted)) a.at.procs ≡ a.at
        → ps ≡ finished_at r.value a.at.procs r.processor.0 a.set a.way (ref_of r).word
        → w ≡ answered_at r.value a.at.procs r.processor.0 a.set a.way (ref_of r).word
        → n ≡ x.accepted + 1 → l ≡ a.level → sent_list q ≡ a.sent
        → Does m s v u x (with x y ps n) (Tells access_answer which (Ok (record { level = l; word = w; sent = q }))) (unless d (board m s v u x) (completed r.value (ref_of r) a))
    ends y r a ps n w l q d so ed eb ep ew en el eq =
        let c = completed r.value (ref_of r) a in
        let b₀ = board m s v u (with x y x.processors x.accepted) in
        let step : c ≡ unless d (board m s v u x) c = sym (ap (λ z. unless z (board m s v u x) c) ed) in
        let after : board m s v u (with x y ps n) ≡ c.after =
        (λ j. record { procs = ep j; cpus = b₀.cpus; mem = b₀.mem; count = b₀.count; table = b₀.table; held = b₀.held; accepted = en j; setup = b₀.setup; number = b₀.number })
        ∙ ap (λ (z : Board). counted (with_procs z (finished_at r.value a.at.procs r.processor.0 a.set a.way (ref_of r).word))) eb
        ∙ completed_after r.value (ref_of r) a in
        let answer : access_answer (record { level = l; word = w; sent = q }) ≡ c.answer =
        (λ j. record { level = el j; word = ew j; block = []; sent = eq j }) ∙ completed_answer r.value (ref_of r) a in
        record {
          sound = so;
          rules = refl;
          after = after ∙ ap (λ (z : Step). z.after) step;
          told = subst (λ (z : Step). Accepts z (access_answer (record { level = l; word = w; sent = q }))) step (record { number = completed_number r.value (ref_of r) a; answer = answer });
        }

    -- refused with the number k, which is not 0: nothing changed
    pub stops : {A : Type 0} (answer : A → Answer) (y : Machine M S V R) (k d : ℕ) (c : Step) (e : MachineFault) → Sound m s v u y → rules_of m s v u y ≡ rules_of m s v u x
        → board m s v u y ≡ board m s v u x → d ≡ suc k → e ≡ which (suc k) → fault_number e ≡ suc k
        → Does m s v u x y (Tells answer which (Err e)) (unless d (board m s v u x) c)
    stops answer y k d c e so er eb ed ee en =
        subst (λ (z : ℕ). Does m s v u x y (Tells answer which (Err e)) (unless z (board m s v u x) c)) (sym ed)
        (record { sound = so; rules = er; after = eb; told = record { number = en; fault = ee } })

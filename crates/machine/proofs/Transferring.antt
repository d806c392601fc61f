-- The transfers of the device.
use Rattle.std.proofs.Common.{◌≡◌, ℕ, zero, suc, ◌+◌, ◌-◌, ◌^◌, ◌<◌, ◌≤◌, Bool, true, false, cond, ltb, List, length, Ok, Err, Result, sym, refl, ap, ◌∙◌, subst, arith}
use Rattle.std.proofs.lemmas.Bool.{ltb-false}
use Rattle.base.specs.declared.block.PhysicalBlock.{PhysicalBlock}
use Rattle.memory.specs.Words.{writing, written}
use Rattle.memory.specs.declared.fault.MemoryFault.{MemoryFault}
use Rattle.memory.specs.declared.fault.MemoryFault.TheVariants.{Outside}
use Rattle.memory.specs.declared.memory.Memory as memories
use Rattle.paging.specs.declared.map.Map as maps
use Rattle.replacement.specs.declared.rule.Rule as replacements
use Rattle.faults.specs.declared.machine_fault.Caller.{Caller}
use Rattle.faults.specs.declared.machine_fault.Caller.TheVariants.{Device}
use Rattle.faults.specs.declared.machine_fault.MachineFault.{MachineFault}
use Rattle.faults.specs.MachineFaults.{fault_number}
use Rattle.tables.specs.declared.message.MessageKind.TheVariants.{DeviceRead, DeviceWrite}
use Rattle.tables.specs.declared.types.Processor.{Processor}
use Rattle.bus.specs.Passes.{Shares, Snoopable, blocks_of, passed_of, start_of}
use Rattle.bus.specs.declared.pass.Shared.{Shared}
use Rattle.bus.proofs.Blocks.{block_held, same_blocks, written_blocks}
use Rattle.rules.specs.Bus.{Passed, device, from_device, message, no_data, put_block, read_pass, take_pass}
use Rattle.rules.specs.Calls.{Board, Step, counted, device_read, device_read_by, device_write, device_write_by, with_mem, with_procs}
use Rattle.rules.specs.Run.{Call, device_reading, device_writing, perform}
use Rattle.rules.specs.History.{History, Setup}
use Rattle.rules.specs.Ready.{Ready}
use Rattle.rules.proofs.Bounds.{past_ready}
use Rattle.machine.specs.Refusals.{Accepts, Refuses, transfer_fault}
use Rattle.machine.specs.State.{Does, HasPast, Performs, Sound, board, rules_of}
use Rattle.machine.specs.Transfers.{Rejected, DeviceReads, DeviceWrites, Acceptable, read_answer, write_answer}
use Rattle.machine.specs.declared.machine.Machine.{Machine}
use Rattle.machine.proofs.Besides.{beside_err, beside_ok, besides}
use Rattle.machine.proofs.Ends.{one_more, snoopable, with}
use Rattle.machine.proofs.Checking.{Read, reading_err, reading_ok}
use Rattle.machine.proofs.Choosing.{Chooses, lawful}
use Rattle.machine.proofs.Lawful.{performs}

-- a fault of a transfer is never told with the number 0
read_refused : (n : ℕ) (st : Board) (b : PhysicalBlock) (e : MachineFault) → fault_number e ≡ n → e ≡ transfer_fault b n
    → Refuses (device_read_by n st b.0) (transfer_fault b) e × ((device_read_by n st b.0).after ≡ st)
read_refused zero st b e en ee = let z : ◌≡◌ {A = ℕ} 0 13 = sym en ∙ ap fault_number ee in absurd (omega arith)
read_refused (suc n) st b e en ee = (record { number = en; fault = ee }, refl)

write_refused : (n : ℕ) (st : Board) (b : PhysicalBlock) (ws : List ℕ) (e : MachineFault) → fault_number e ≡ n → e ≡ transfer_fault b n
    → Refuses (device_write_by n st b.0 ws) (transfer_fault b) e × ((device_write_by n st b.0 ws).after ≡ st)
write_refused zero st b ws e en ee = let z : ◌≡◌ {A = ℕ} 0 13 = sym en ∙ ap fault_number ee in absurd (omega arith)
write_refused (suc n) st b ws e en ee = (record { number = en; fault = ee }, refl)

-- what a write of a block found
pub writing_err : (n : ℕ) (b : PhysicalBlock) (e : MemoryFault) → writing n b ≡ Err e → n ≤ b.0
writing_err n b e q = go (ltb b.0 n) refl q
  where
    go : (t : Bool) → ltb b.0 n ≡ t → ◌≡◌ {A = Result (Unit {0}) MemoryFault} (cond t (Ok tt) (Err (Outside b))) (Err e) → n ≤ b.0
    go true et p = let z : ◌≡◌ {A = ℕ} 0 1 = cc in absurd (omega arith)
    go false et p = ltb-false b.0 n et

module _ {M S V R : Type 0} (m : maps.Ghosts M) (s : memories.Ghosts S) (v : replacements.Ghosts V) (u : replacements.Ghosts R) (cv : Chooses v) (cu : Chooses u)
    (x y : Machine M S V R) (t : ℕ) (b : PhysicalBlock) (ws : List ℕ) where
  does : (c : Call) (y' : Machine M S V R) (T : Step → Type 0) → ((w : Setup) (h : History) → HasPast m s v u w h x → Does m s v u x y' T (perform (rules_of m s v u x) c (board m s v u x))) → Performs m s v u c x y' T
  does c y' T k = performs m s v u c x y' T (lawful v cv x.rules.v) (lawful u cu x.rules.r) k

  pub read_stops : (e : MachineFault) → (Sound m s v u x → Rejected m s v u t b (length ws) x y e) → Performs m s v u (device_reading t b.0 (length ws)) x y (DeviceReads b ws ws (Err e))
  read_stops e f =
      does (device_reading t b.0 (length ws)) y (DeviceReads b ws ws (Err e)) (λ w h P.
      let r = f P.sound in
      let k = read_refused _ (board m s v u x) b e r.number r.fault in
      record { sound = r.alike.sound; rules = r.alike.rules; after = r.alike.board ∙ sym k.1; told = (k.0, refl) })

  pub write_stops : (e : MachineFault) → (Sound m s v u x → Rejected m s v u t b (length ws) x y e) → Performs m s v u (device_writing t b.0 ws) x y (DeviceWrites b (Err e))
  write_stops e f =
      does (device_writing t b.0 ws) y (DeviceWrites b (Err e)) (λ w h P.
      let r = f P.sound in
      let k = write_refused _ (board m s v u x) b ws e r.number r.fault in
      record { sound = r.alike.sound; rules = r.alike.rules; after = r.alike.board ∙ sym k.1; told = k.0 })

  module _ (found : Sound m s v u x → Acceptable m s v u t b (length ws) x y) where
    -- the processors can see the message
    seen : (w : Setup) (h : History) → HasPast m s v u w h x → Snoopable y.count y.processors
    seen w h P =
        let F = found P.sound in
        let r = past_ready (rules_of m s v u x) (lawful v cv x.rules.v) (lawful u cu x.rules.r) w h (board m s v u x) P.past F.setup in
        snoopable r.0 (board m s v u y) (subst (Ready r.0) (sym F.alike.board) r.1)

    -- the block is shared by the processors qs and the memory z, and read of it
    module _ (qs : List Processor) (z : S) (r : Shared) (sharing : Snoopable y.count y.processors → s.sound y.memory → b.0 < s.count y.memory → Shares s y.count device b.0 y.processors qs y.memory z r)
        (z' : S) (a : Result (List ℕ) MemoryFault) (K : Read s b z z' a) where
      shared : (w : Setup) (h : History) → HasPast m s v u w h x → Shares s y.count device b.0 y.processors qs y.memory z r
      shared w h P = let F = found P.sound in sharing (seen w h P) F.alike.sound.memory F.below

      -- a read of a block that is there is not refused
      pub read_fits : (c : Call) (y' : Machine M S V R) (T : Step → Type 0) (e : MemoryFault × Caller) → Err e ≡ besides a Device → Performs m s v u c x y' T
      read_fits c y' T e q w h P =
          let sh = shared w h P in
          let out = (reading_err (s.count z) (s.holds z) b e.0 (sym (K.answer sh.sound) ∙ (beside_err a Device e (sym q)).0)).0 in
          let F = found P.sound in
          let l = F.below in
          let ec = sh.count in
          absurd (omega arith)

      pub read_ends : (read after : List ℕ) (n : ℕ) → Ok read ≡ besides a Device → after ≡ read → (y.accepted < 2 ^ 32 - 1 → n ≡ y.accepted + 1)
          → Performs m s v u (device_reading t b.0 (length ws)) x (with m s v u y z' qs n) (DeviceReads b ws after (Ok (message DeviceRead from_device r.supplier b.0)))
      read_ends read after n eq ea en =
          does (device_reading t b.0 (length ws)) (with m s v u y z' qs n) (DeviceReads b ws after (Ok (message DeviceRead from_device r.supplier b.0))) (λ w h P.
          let F = found P.sound in
          let sh = shared w h P in
          let st = board m s v u y in
          let q = read_pass st.cpus device b.0 (start_of s y.processors y.memory) in
          let pass : passed_of s qs z r ≡ q = sh.pass in
          let f = reading_ok (s.count z) (s.holds z) b read (sym (K.answer sh.sound) ∙ beside_ok a Device read (sym eq)) in
          let words : after ≡ q.mem b.0 = ea ∙ f.1 ∙ sym (block_held s z b.0 f.0) ∙ (λ j. (pass j).mem b.0) in
          let mem : blocks_of s z' ≡ q.mem = same_blocks s z z' (K.same sh.sound) (K.blocks sh.sound) ∙ ap (λ (w : Passed). w.mem) pass in
          let size : s.count z' ≡ st.count = K.same sh.sound ∙ sh.count in
          let more = one_more y.accepted n F.room en in
          let step : device_read_by 0 st b.0 ≡ device_read (board m s v u x) t b.0 (length ws) = λ j. device_read_by (sym F.number j) (F.alike.board j) b.0 in
          let now : board m s v u (with m s v u y z' qs n) ≡ counted (with_mem (with_procs st q.procs) q.mem) =
          λ j. record { procs = (pass j).procs; cpus = st.cpus; mem = mem j; count = size j; table = st.table; held = st.held; accepted = more j; setup = st.setup; number = st.number } in
          let answer : read_answer after (message DeviceRead from_device r.supplier b.0) ≡ read_answer (q.mem b.0) (message DeviceRead from_device q.supplier b.0) =
          λ j. read_answer (words j) (message DeviceRead from_device (pass j).supplier b.0) in
          record {
            sound = record { map = F.alike.sound.map; memory = K.kept sh.sound };
            rules = F.alike.rules;
            after = now ∙ ap (λ (w : Step). w.after) step;
            told = subst (λ (w : Step). Accepts w (read_answer after (message DeviceRead from_device r.supplier b.0))) step (record { number = refl; answer = answer });
          })

    -- a write of a block that is there is not refused
    pub write_fits : (c : Call) (y' : Machine M S V R) (T : Step → Type 0) (a : Result (Unit {0}) MemoryFault) → (s.sound y.memory → a ≡ writing (s.count y.memory) b) → (e : MemoryFault × Caller) → Err e ≡ besides a Device → Performs m s v u c x y' T
    write_fits c y' T a ea e q w h P =
        let F = found P.sound in
        let out = writing_err (s.count y.memory) b e.0 (sym (ea F.alike.sound.memory) ∙ (beside_err a Device e (sym q)).0) in
        let l = F.below in
        absurd (omega arith)

    pub write_ends : (qs : List Processor) (z : S) (four : List ℕ) (n : ℕ) → (Snoopable y.count y.processors → qs ≡ take_pass y.count device b.0 y.processors)
        → (s.sound y.memory → s.sound z) → (s.sound y.memory → s.count z ≡ s.count y.memory) → (s.sound y.memory → s.holds z ≡ written (s.count y.memory) (s.holds y.memory) b four) → four ≡ ws
        → (y.accepted < 2 ^ 32 - 1 → n ≡ y.accepted + 1)
        → Performs m s v u (device_writing t b.0 ws) x (with m s v u y z qs n) (DeviceWrites b (Ok (message DeviceWrite from_device no_data b.0)))
    write_ends qs z four n taken kept ec eh ew en =
        does (device_writing t b.0 ws) (with m s v u y z qs n) (DeviceWrites b (Ok (message DeviceWrite from_device no_data b.0))) (λ w h P.
        let F = found P.sound in
        let sy = F.alike.sound.memory in
        let st = board m s v u y in
        let eq = taken (seen w h P) in
        let more = one_more y.accepted n F.room en in
        let mem : blocks_of s z ≡ put_block st.mem b.0 ws = written_blocks s y.memory z b four F.below (ec sy) (eh sy) ∙ ap (put_block st.mem b.0) ew in
        let step : device_write_by 0 st b.0 ws ≡ device_write (board m s v u x) t b.0 ws = λ j. device_write_by (sym F.number j) (F.alike.board j) b.0 ws in
        let now : board m s v u (with m s v u y z qs n) ≡ (device_write_by 0 st b.0 ws).after =
        λ j. record { procs = eq j; cpus = st.cpus; mem = mem j; count = ec sy j; table = st.table; held = st.held; accepted = more j; setup = st.setup; number = st.number } in
        record {
          sound = record { map = F.alike.sound.map; memory = kept sy };
          rules = F.alike.rules;
          after = now ∙ ap (λ (w : Step). w.after) step;
          told = subst (λ (w : Step). Accepts w (write_answer (message DeviceWrite from_device no_data b.0))) step (record { number = refl; answer = refl });
        })

-- The checks of a transfer.
use Rattle.std.proofs.Common.{◌≡◌, ℕ, zero, suc, ◌<◌, ◌≤◌, Bool, true, false, cond, eqb, ltb, leb, List, Ok, Err, Result, sym, refl, ap, ◌∙◌, subst, arith}
use Rattle.std.proofs.lemmas.Bool.{eq-eqb, le-leb, lt-leb, ltb-false, ltb-true, ne_eqb}
use Rattle.base.specs.Sizes.{block_words}
use Rattle.base.specs.declared.block.PhysicalBlock.{PhysicalBlock}
use Rattle.memory.specs.Words.{reading}
use Rattle.memory.specs.declared.memory.Memory as memories
use Rattle.memory.specs.declared.fault.MemoryFault.{MemoryFault}
use Rattle.memory.specs.declared.fault.MemoryFault.TheVariants.{Outside}
use Rattle.paging.specs.declared.map.Map as maps
use Rattle.replacement.specs.declared.rule.Rule as replacements
use Rattle.faults.specs.declared.machine_fault.Caller.{Caller}
use Rattle.faults.specs.declared.machine_fault.Caller.TheVariants.{Device}
use Rattle.faults.specs.declared.machine_fault.MachineFault.{MachineFault}
use Rattle.faults.specs.declared.machine_fault.MachineFault.TheVariants.{Memory, NoTenure, SliceLength}
use Rattle.faults.specs.MachineFaults.{fault_number}
use Rattle.bus.proofs.Blocks.{same_blocks}
use Rattle.rules.specs.Basic.{both, pick}
use Rattle.rules.specs.Calls.{Answer, Board, device_number, or_else, or_next, told}
use Rattle.machine.specs.Admits.{admitted, passed}
use Rattle.machine.specs.References.{unless}
use Rattle.machine.specs.Refusals.{transfer_fault}
use Rattle.machine.specs.State.{Sound, board}
use Rattle.machine.specs.Transfers.{Alike, Rejected, Acceptable, tenure_told}
use Rattle.machine.specs.declared.machine.Machine.{Machine}
use Rattle.machine.proofs.Besides.{beside_err, beside_ok, besides}
use Rattle.machine.proofs.Ends.{with}
use Rattle.machine.proofs.Admitting.{Open, admit_passes, admit_stops}
use Rattle.machine.proofs.Tenures.{tenure_fails, tenure_holds}

-- what a read of a block found
pub reading_err : (n : ℕ) (f : ℕ → List ℕ) (b : PhysicalBlock) (e : MemoryFault) → reading n f b ≡ Err e → (n ≤ b.0) × (e ≡ Outside b)
reading_err n f b e q = go (ltb b.0 n) refl q
  where
    go : (t : Bool) → ltb b.0 n ≡ t → cond t (Ok (f b.0)) (Err (Outside b)) ≡ Err e → (n ≤ b.0) × (e ≡ Outside b)
    go true et p = let z : ◌≡◌ {A = ℕ} 0 1 = cc in absurd (omega arith)
    go false et p = (ltb-false b.0 n et, cc)

pub reading_ok : (n : ℕ) (f : ℕ → List ℕ) (b : PhysicalBlock) (ws : List ℕ) → reading n f b ≡ Ok ws → (b.0 < n) × (ws ≡ f b.0)
reading_ok n f b ws q = go (ltb b.0 n) refl q
  where
    go : (t : Bool) → ltb b.0 n ≡ t → cond t (Ok (f b.0)) (Err (Outside b)) ≡ Ok ws → (b.0 < n) × (ws ≡ f b.0)
    go true et p = (ltb-true b.0 n et, cc)
    go false et p = let z : ◌≡◌ {A = ℕ} 0 1 = cc in absurd (omega arith)

-- what a read of block b promises
pub record Read {S : Type 0} (s : memories.Ghosts S) (b : PhysicalBlock) (x y : S) (r : Result (List ℕ) MemoryFault) : Type 0 where
  pub kept : s.sound x → s.sound y
  pub answer : s.sound x → r ≡ reading (s.count x) (s.holds x) b
  pub same : s.sound x → s.count y ≡ s.count x
  pub blocks : s.sound x → s.holds y ≡ s.holds x

unless_number : (n : ℕ) (st : Board) → (unless n st (told 0 st)).number ≡ n
unless_number zero st = refl
unless_number (suc n) st = refl

module _ {M S V R : Type 0} (m : maps.Ghosts M) (s : memories.Ghosts S) (v : replacements.Ghosts V) (u : replacements.Ghosts R)
    (x : Machine M S V R) (t : ℕ) (b : PhysicalBlock) (k : ℕ) where
  -- a machine whose memory answered a read
  abbrev read : S → Machine M S V R
  read y = with m s v u x y x.processors x.accepted

  abbrev st : Board
  st = board m s v u x

  abbrev sizes : ℕ
  sizes = or_else (leb st.count b.0) 12 (pick (eqb k block_words) 0 13)

  abbrev rest : ℕ
  rest = or_next (pick (both st.held (eqb t st.number)) 0 11) sizes

  rejects : (y : Machine M S V R) (n : ℕ) (e : MachineFault) → Alike m s v u x y → device_number st t b.0 k ≡ n → fault_number e ≡ n → e ≡ transfer_fault b n → Rejected m s v u t b k x y e
  rejects y n e al ed en ee = record { alike = al; number = en ∙ sym ed; fault = ee ∙ ap (transfer_fault b) (sym ed) }

  module _ (so : Sound m s v u x) where
    same : Alike m s v u x x
    same = record { sound = so; rules = refl; board = refl }

    -- refused by its first number
    pub admit_rejects : (e : MachineFault) → Err e ≡ admitted x.setup x.accepted Device → Rejected m s v u t b k x x e
    admit_rejects e h =
        let d = admit_stops m s v u x so {A = Answer} (λ a. a) Device (λ n. pick (eqb n 11) NoTenure (pick (eqb n 12) (Memory Device (Outside b)) SliceLength)) rest (told 0 st) e (sym h) in
        let en = unless_number (device_number st t b.0 k) st in
        rejects x (device_number st t b.0 k) e same refl (d.told.number ∙ en) (d.told.fault ∙ ap (transfer_fault b) en)

    module _ (o : passed ≡ admitted x.setup x.accepted Device) where
      passes : Open m s v u x so
      passes = admit_passes m s v u x so Device (sym o)

      pub tenure_rejects : (e : MachineFault) → Err e ≡ tenure_told x.held x.number t → Rejected m s v u t b k x x e
      tenure_rejects e h =
          let f = tenure_fails x.held x.number t e (sym h) in
          rejects x 11 e same (λ j. or_next (passes.full j) (or_next (pick (f.0 j) 0 11) sizes)) (ap fault_number f.1) f.1

      module _ (h : passed ≡ tenure_told x.held x.number t) (y : S) (r : Result (List ℕ) MemoryFault) (K : Read s b x.memory y r) where
        alike : Alike m s v u x (read y)
        alike =
            let ec = K.same so.memory in
            let em = same_blocks s x.memory y ec (K.blocks so.memory) in
            record {
              sound = record { map = so.map; memory = K.kept so.memory };
              rules = refl;
              board = λ j. record { procs = st.procs; cpus = st.cpus; mem = em j; count = ec j; table = st.table; held = st.held; accepted = st.accepted; setup = st.setup; number = st.number };
            }

        -- past the check of the tenure the sizes are left
        left : device_number st t b.0 k ≡ sizes
        left = λ j. or_next (passes.full j) (or_next (pick (tenure_holds x.held x.number t (sym h) j) 0 11) sizes)

        pub block_rejects : (e : MemoryFault × Caller) (f : MachineFault) → Err e ≡ besides r Device → f ≡ Memory e.1 e.0 → Rejected m s v u t b k x (read y) f
        block_rejects e f q ef =
            let w = beside_err r Device e (sym q) in
            let a = reading_err (s.count x.memory) (s.holds x.memory) b e.0 (sym (K.answer so.memory) ∙ w.0) in
            let ee : f ≡ Memory Device (Outside b) = ef ∙ (λ j. Memory (w.1 j) (a.1 j)) in
            rejects (read y) 12 f alike (left ∙ (λ j. or_else (le-leb st.count b.0 a.0 j) 12 (pick (eqb k block_words) 0 13))) (ap fault_number ee) ee

        module _ (ws : List ℕ) (q : Ok ws ≡ besides r Device) where
          inside : b.0 < st.count
          inside = (reading_ok (s.count x.memory) (s.holds x.memory) b ws (sym (K.answer so.memory) ∙ beside_ok r Device ws (sym q))).0

          pub length_rejects : (k ≡ block_words → ⊥) → Rejected m s v u t b k x (read y) SliceLength
          length_rejects ne =
              rejects (read y) 13 SliceLength alike (left ∙ (λ j. or_else (lt-leb st.count b.0 inside j) 12 (pick (ne_eqb k block_words ne j) 0 13))) refl refl

          pub checks : k ≡ block_words → Acceptable m s v u t b k x (read y)
          checks ek = record {
            alike = alike;
            number = left ∙ (λ j. or_else (lt-leb st.count b.0 inside j) 12 (pick (eq-eqb k block_words ek j) 0 13));
            setup = passes.setup;
            room = passes.room;
            below = subst (λ (z : ℕ). b.0 < z) (sym (ap (λ (z : Board). z.count) alike.board)) inside;
          }

-- A new machine: the number of its set-up, and its empty past.
use Rattle.std.proofs.Common.{◌≡◌, ℕ, ◌%◌, ◌<◌, Bool, true, false, ◌||◌, eqb, ltb, leb, List, [], length, replicate, Some, None, Option, sym, refl, ap, ◌∙◌, subst}
use Rattle.std.proofs.lemmas.Bool.{ltb-true}
use Rattle.base.specs.Sizes.{block_words}
use Rattle.memory.specs.declared.memory.Memory as memories
use Rattle.paging.specs.declared.map.Map as maps
use Rattle.replacement.specs.declared.rule.Rule as replacements
use Rattle.faults.specs.declared.machine_fault.SetupFault.{SetupFault}
use Rattle.faults.specs.declared.machine_fault.SetupFault.TheVariants.{Processors, MemorySize}
use Rattle.faults.specs.declared.machine_fault.MachineFault.TheVariants.{Setup}
use Rattle.faults.specs.MachineFaults.{fault_number}
use Rattle.tables.specs.declared.types.Processor.{Processor}
use Rattle.bus.specs.Passes.{blocks_of}
use Rattle.rules.specs.Sizes.{most_processors, page_blocks}
use Rattle.rules.specs.Basic.{pick}
use Rattle.rules.specs.Cache.{new_processor, zeros}
use Rattle.rules.specs.Calls.{made, or_else, setup_number}
use Rattle.rules.specs.Laws.{Past, begun}
use Rattle.machine.specs.SetUp.{setup_fault, setup_of}
use Rattle.machine.specs.State.{HasPast, board, rules_of, setup_told}
use Rattle.machine.specs.declared.machine.Machine.{Machine}

pub setup_told_lem : (n c : ℕ) → setup_told (setup_of n c) ≡ setup_number n c
unfolding page_blocks
setup_told_lem n c = go (leb n 0 || ltb most_processors n) (eqb c 0 || leb 1 (c % page_blocks))
  where
    go : (s t : Bool) → setup_told (pick s (Some Processors) (pick t (Some MemorySize) None)) ≡ or_else s 1 (pick t 2 0)
    go true t = refl
    go false true = refl
    go false false = refl

pub setup_none : (n c : ℕ) (o : Option SetupFault) → o ≡ setup_of n c → o ≡ None → setup_number n c ≡ 0
setup_none n c o e q = sym (setup_told_lem n c) ∙ ap setup_told (sym e ∙ q)

pub setup_some : (n c : ℕ) (o : Option SetupFault) (f : SetupFault) → o ≡ setup_of n c → o ≡ Some f → (fault_number (Setup f) ≡ setup_number n c) × (Setup f ≡ setup_fault (setup_number n c))
setup_some n c o f e q = go f (ap setup_told (sym q ∙ e) ∙ setup_told_lem n c)
  where
    go : (f : SetupFault) → setup_told (Some f) ≡ setup_number n c → (fault_number (Setup f) ≡ setup_number n c) × (Setup f ≡ setup_fault (setup_number n c))
    go Processors k = (k, ap setup_fault k)
    go MemorySize k = (k, ap setup_fault k)

module _ {M S V R : Type 0} (m : maps.Ghosts M) (s : memories.Ghosts S) (v : replacements.Ghosts V) (u : replacements.Ghosts R) where
  -- a block of four words, as the memory's law says, and zeros past its count
  four : ((y : S) (b : ℕ) → s.sound y → b < s.count y → length (s.holds y b) ≡ block_words) → (y : S) → s.sound y → (b : ℕ) → length (blocks_of s y b) ≡ block_words
  four law y so b = go (ltb b (s.count y)) refl
    where
      go : (t : Bool) → ltb b (s.count y) ≡ t → length (pick t (s.holds y b) zeros) ≡ block_words
      go true e = law y b so (ltb-true b (s.count y) e)
      go false e = refl

  -- a machine as it is made, but for the records and the set-up as the code has them
  abbrev pub fresh : M → S → V → R → ℕ → ℕ → List Processor → Option SetupFault → Machine M S V R
  fresh x y a b n id ps o = record { map = x; memory = y; rules = record { v = a; r = b }; processors = ps; count = n; held = false; accepted = 0; setup = o; number = id }

  module _ (x : M) (y : S) (a : V) (b : R) (n id c : ℕ) (ps : List Processor) (o : Option SetupFault) (eo : o ≡ setup_of n c)
      (ep : ps ≡ replicate most_processors (new_processor (rules_of m s v u (fresh x y a b n id ps o)).for_v (rules_of m s v u (fresh x y a b n id ps o)).for_r)) (ec : s.sound y → c ≡ s.count y) where
    pub fresh_board : s.sound y → board m s v u (fresh x y a b n id ps o) ≡ made (rules_of m s v u (fresh x y a b n id ps o)) n id (blocks_of s y) (s.count y) (m.frame x)
    fresh_board so = λ j. record { procs = ep j; cpus = n; mem = blocks_of s y; count = s.count y; table = m.frame x; held = false; accepted = 0; setup = (ap setup_told eo ∙ setup_told_lem n c ∙ ap (setup_number n) (ec so)) j; number = id }

    pub fresh_past : ((y : S) (b : ℕ) → s.sound y → b < s.count y → length (s.holds y b) ≡ block_words) → m.sound x → s.sound y → HasPast m s v u (record { table = m.frame x; blocks = blocks_of s y }) [] (fresh x y a b n id ps o)
    fresh_past law sm ss = record {
      sound = record { map = sm; memory = ss };
      past = subst (Past (rules_of m s v u (fresh x y a b n id ps o)) (record { table = m.frame x; blocks = blocks_of s y }) []) (sym (fresh_board ss)) (begun n id (blocks_of s y) (s.count y) (m.frame x) (four law y ss));
    }

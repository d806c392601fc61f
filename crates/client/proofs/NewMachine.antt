-- On a machine made for it no call is refused, by computation, and the word comes back.
use Rattle.std.proofs.Common.{◌≡◌, ℕ, Ok, Err, Result, refl, ap, ◌∙◌, arith}
use Rattle.memory.specs.declared.memory.Memory as memories
use Rattle.paging.specs.declared.map.Map as maps
use Rattle.replacement.specs.declared.rule.Rule as replacements
use Rattle.faults.specs.declared.machine_fault.MachineFault.{MachineFault}
use Rattle.faults.specs.MachineFaults.{fault_number, machine_numbered}
use Rattle.rules.specs.Sizes.{v_sets, v_ways, r_sets, r_ways, page_blocks}
use Rattle.rules.specs.Calls.{Board}
use Rattle.rules.specs.History.{History, Setup}
use Rattle.rules.specs.Listing.{fresh, lru_rules}
use Rattle.machine.specs.State.{board, rules_of}
use Rattle.machine.specs.declared.machine.Machine.{Machine}
use Rattle.client.specs.declared.two_pages.TwoPages.{TwoPages}
use Rattle.client.specs.Back.{Outcome, SameWord, calls, first_refusal}

-- the two pages and the calls of the function over them
abbrev pub pages_there : TwoPages
pages_there = record { process = record { 0 = 1 }; first = 6; second = 294; frame = record { 0 = 5 } }

abbrev pub refusal_there : ℕ → Board → ℕ
refusal_there x st = first_refusal lru_rules (calls 2 pages_there 3 x) st

pub none_refused : (x : ℕ) → refusal_there x fresh ≡ 0
unfolding first_refusal v_sets v_ways r_sets r_ways page_blocks
none_refused x = refl

module _ {M S V R : Type 0} (m : maps.Ghosts M) (s : memories.Ghosts S) (v : replacements.Ghosts V) (r : replacements.Ghosts R) where
  pub comes_back : (i : ℕ) (at : TwoPages) (o x : ℕ) (u : Setup) (h : History) (y z : Machine M S V R) (q : Result ℕ MachineFault) → first_refusal (rules_of m s v r y) (calls i at o x) (board m s v r y) ≡ 0 → SameWord at → Outcome m s v r i at o x u h y z q → q ≡ Ok x
  comes_back i at o x u h y z (Ok word) e w P = ap Ok (P.same w)
  comes_back i at o x u h y z (Err f) e w P =
      let l = (machine_numbered f).0 in
      let n : fault_number f ≡ 0 = P.refused ∙ e in
      absurd (omega arith)

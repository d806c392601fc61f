-- The end of an accepted call, and how many processors a board with a past has.
use Rattle.std.proofs.Common.{◌≡◌, ℕ, ◌≤◌, Ok, sym, subst}
use Rattle.memory.specs.declared.memory.Memory as memories
use Rattle.paging.specs.declared.map.Map as maps
use Rattle.replacement.specs.declared.rule.Rule as replacements
use Rattle.faults.specs.declared.machine_fault.MachineFault.{MachineFault}
use Rattle.rules.specs.Sizes.{most_processors}
use Rattle.rules.specs.Rule.{Lawful}
use Rattle.rules.specs.Calls.{Answer, Step}
use Rattle.rules.specs.History.{History, Setup}
use Rattle.rules.proofs.Bounds.{past_ready}
use Rattle.machine.specs.References.{unless}
use Rattle.machine.specs.Refusals.{Tells}
use Rattle.machine.specs.State.{Does, HasPast, Sound, board, rules_of, setup_told}
use Rattle.machine.specs.declared.machine.Machine.{Machine}

module _ {M S V R : Type 0} (m : maps.Ghosts M) (s : memories.Ghosts S) (v : replacements.Ghosts V) (u : replacements.Ghosts R) (x : Machine M S V R) where
  -- accepted: the number d is 0, and y is as after the step c
  pub accepts : {A : Type 0} (answer : A → Answer) (which : ℕ → MachineFault) (a : A) (y : Machine M S V R) (d : ℕ) (c : Step) → Sound m s v u y → rules_of m s v u y ≡ rules_of m s v u x
      → board m s v u y ≡ c.after → d ≡ 0 → c.number ≡ 0 → answer a ≡ c.answer
      → Does m s v u x y (Tells answer which (Ok a)) (unless d (board m s v u x) c)
  accepts answer which a y d c so er eb ed en ea =
      subst (λ (z : ℕ). Does m s v u x y (Tells answer which (Ok a)) (unless z (board m s v u x) c)) (sym ed)
      (record { sound = so; rules = er; after = eb; told = record { number = en; answer = ea } })

  pub few : Lawful (rules_of m s v u x).for_v → Lawful (rules_of m s v u x).for_r → (w : Setup) (h : History) → HasPast m s v u w h x → setup_told x.setup ≡ 0 → x.count ≤ most_processors
  few lv lr w h P z = (past_ready (rules_of m s v u x) lv lr w h (board m s v u x) P.past z).1.few

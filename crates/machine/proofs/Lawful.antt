-- A call that does the rules' step carries every past on, and the laws with it.
use Rattle.std.proofs.Common.{◌∷◌, sym, subst}
use Rattle.memory.specs.declared.memory.Memory as memories
use Rattle.paging.specs.declared.map.Map as maps
use Rattle.replacement.specs.declared.rule.Rule as replacements
use Rattle.rules.specs.Rule.{Lawful}
use Rattle.rules.specs.Calls.{Rules, Step}
use Rattle.rules.specs.Run.{Call, perform}
use Rattle.rules.specs.History.{History, Setup, event}
use Rattle.rules.specs.Laws.{Past, called}
use Rattle.rules.proofs.Runs.{laws_of_runs}
use Rattle.machine.specs.State.{Does, HasPast, Performs, board, rules_of}
use Rattle.machine.specs.declared.machine.Machine.{Machine}

module _ {M S V R : Type 0} (m : maps.Ghosts M) (s : memories.Ghosts S) (v : replacements.Ghosts V) (r : replacements.Ghosts R) where
  pub performs : (c : Call) (x y : Machine M S V R) (T : Step → Type 0) → Lawful (rules_of m s v r x).for_v → Lawful (rules_of m s v r x).for_r
      → ((u : Setup) (h : History) → HasPast m s v r u h x → Does m s v r x y T (perform (rules_of m s v r x) c (board m s v r x))) → Performs m s v r c x y T
  performs c x y T lv lr k u h p =
      let d = k u h p in
      let e = event c (perform (rules_of m s v r x) c (board m s v r x)) in
      let next : Past (rules_of m s v r x) u (e ∷ h) (perform (rules_of m s v r x) c (board m s v r x)).after = called c p.past in
      let here : Past (rules_of m s v r x) u (e ∷ h) (board m s v r y) = subst (Past (rules_of m s v r x) u (e ∷ h)) (sym d.after) next in
      record {
        told = d.told;
        after = d.after;
        rules = d.rules;
        past = record { sound = d.sound; past = subst (λ (z : Rules). Past z u (e ∷ h) (board m s v r y)) (sym d.rules) here };
        laws = laws_of_runs (rules_of m s v r x) lv lr u (e ∷ h) (board m s v r y) here;
      }

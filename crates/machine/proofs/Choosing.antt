-- A rule of the code that chooses a way asked for, where there is one, is a lawful rule.
use Rattle.std.proofs.Common.{◌≡◌, ℕ, Bool, true, false, List, length}
use Rattle.std.specs.Prelude.{slice_index_or}
use Rattle.replacement.specs.Sizes.{ways}
use Rattle.replacement.specs.declared.rule.Rule as replacements
use Rattle.caches.specs.Choice.{rule_of}
use Rattle.rules.specs.Rule.{Lawful}

abbrev pub Chooses : {V : Type 0} → replacements.Ghosts V → Type 0
Chooses {V} v = (a : V) (word : ℕ) (ws : List Bool) (i : ℕ) → length ws ≡ ways → slice_index_or ws i false ≡ true → slice_index_or ws (v.choice a word ws) false ≡ true

pub lawful : {V : Type 0} (v : replacements.Ghosts V) → Chooses v → (a : V) → Lawful (rule_of v a)
lawful v k a = record { chosen = k a }

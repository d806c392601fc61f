-- The child of an entry in a processor whose tables name no place outside them.
use Rattle.std.proofs.Common.{◌≡◌, ℕ, refl}
use Rattle.tables.specs.declared.types.Child.{Child}
use Rattle.tables.specs.declared.types.Child.TheVariants.{NoChild, At}
use Rattle.tables.specs.declared.types.Processor.{Processor}
use Rattle.rules.specs.Cache.{entry_at}
use Rattle.caches.specs.Ranged.{Ranged, ChildIn}

pub child_in : (p : Processor) (a b : ℕ) → Ranged p → ChildIn (entry_at p a b).child
child_in p a b rg = go (entry_at p a b).child refl
  where
    go : (c : Child) → (entry_at p a b).child ≡ c → ChildIn c
    go NoChild e = tt
    go (At q d) e = rg.children a b q d e

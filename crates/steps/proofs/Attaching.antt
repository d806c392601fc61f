-- The line of an entry and the use of that entry make the whole. h is the place of the entry.
use Rattle.std.proofs.Common.{◌≡◌, ℕ, ◌%◌, Bool, true, false, eqb, ◌∙◌}
use Rattle.tables.specs.declared.types.Child.{Child}
use Rattle.tables.specs.declared.types.Child.TheVariants.{NoChild, At}
use Rattle.tables.specs.declared.types.Place.{Place}
use Rattle.tables.specs.declared.types.Processor.{Processor}
use Rattle.rules.specs.Sizes.{v_sets, r_sets}
use Rattle.rules.specs.Rule.{Rule}
use Rattle.rules.specs.Cache.{r_used}
use Rattle.rules.specs.Calls.{attach, attach_same}
use Rattle.steps.specs.declared.found.Found.{Found}
use Rattle.steps.specs.Steps.{Attaches, linked, linked_same}

module _ (rv rr : Rule) (p p₁ p₂ : Processor) (g b k : ℕ) (h : Place) (r : Found) (es : h.set ≡ b % r_sets) (ew : h.way ≡ k) (e : p₂ ≡ r_used rr p₁ h.set h.way) where
  used_same : (t : Bool) (q : Place) → Attaches p₁ r (linked_same t rv p g q h) → Attaches p₂ r (attach_same t rv rr p g q.set q.way b k)
  used_same true q a = record { processor = e ∙ rw (a.processor, es, ew); way = a.way; level = a.level; within = a.within }
  used_same false q a = record { processor = e ∙ rw (a.processor, es, ew); way = a.way; level = a.level; within = a.within }

  pub attached : (c : Child) → Attaches p₁ r (linked c rv p g h) → Attaches p₂ r (attach c rv rr p g b k)
  attached NoChild a = record { processor = e ∙ rw (a.processor, es, ew); way = a.way; level = a.level; within = a.within }
  attached (At q d) a = used_same (eqb q.set (g % v_sets)) q a

-- Room made step by step is the room of the rules.
use Rattle.std.proofs.Common.{◌≡◌, ℕ, ◌-◌, ◌%◌, ◌^◌, ◌<◌, Option, sym, refl, ap, ◌∙◌, subst}
use Rattle.tables.specs.declared.types.LineState.{LineState}
use Rattle.tables.specs.declared.types.LineState.TheVariants.{Empty, Valid, Swapped}
use Rattle.tables.specs.declared.types.Child.{Child}
use Rattle.tables.specs.declared.types.Child.TheVariants.{NoChild, At}
use Rattle.tables.specs.declared.types.Counts.{Counts}
use Rattle.tables.specs.declared.types.Place.{Place}
use Rattle.tables.specs.declared.types.REntry.{REntry}
use Rattle.tables.specs.declared.types.Processor.{Processor}
use Rattle.rules.specs.Sizes.{v_sets, r_sets, r_ways}
use Rattle.rules.specs.Rule.{Rule}
use Rattle.rules.specs.Bus.{Blocks}
use Rattle.rules.specs.Cache.{entry_at, evict, free_child, free_line, free_line_by, line_at, r_way, v_way}
use Rattle.rules.specs.Sound.{ProcOk}
use Rattle.rules.proofs.Fetched.{free_child_counts, free_counts}
use Rattle.rules.proofs.Ops.{free_line_lem}
use Rattle.rules.proofs.Sizes.{r_set_in}
use Rattle.caches.specs.Ranged.{ChildIn, Ranged}
use Rattle.caches.proofs.InRange.{ok_ranged}
use Rattle.caches.proofs.Snoops.{child_in}
use Rattle.steps.specs.Steps.{Rooms, child_freed, line_freed, next_entry}

-- p₁ is the processor past the V-way freed at l, p₂ that past the child of the entry at h, and p₃ that past the entry
module _ (rv rr : Rule) (p p₁ p₂ p₃ : Processor) (vb b n k : ℕ) (l h : Place) (x e : REntry)
    (es : l.set ≡ vb % v_sets) (eu : l.way ≡ v_way rv p (vb % v_sets)) (e₁ : Ranged p → p₁ ≡ free_line p l.set l.way)
    (en : n ≡ b) (ek : n % r_sets < r_sets → k ≡ r_way rr p₁ (n % r_sets)) (lk : k < r_ways) (eh : h.set ≡ b % r_sets) (ew : h.way ≡ k)
    (ex : h.set < r_sets → h.way < r_ways → x ≡ entry_at p₁ h.set h.way) (e₂ : Ranged p₁ → ChildIn x.child → p₂ ≡ free_child p₁ x.child)
    (e₃ : h.set < r_sets → h.way < r_ways → p₂.counts.replaced < 2 ^ 32 - 1 → p₃ ≡ evict p₂ h.set h.way) (ee : h.set < r_sets → h.way < r_ways → e ≡ entry_at p₂ h.set h.way) where
  pub rooms : (T : ℕ → Option ℕ) (f : Blocks) → ProcOk T f p → p.counts.replaced < 2 ^ 32 - 1 → Rooms rv rr p (vb % v_sets) (b % r_sets) p₃ (record { line_way = l.way; entry_way = k; replaced = e })
  rooms T f ok small =
      let s : ℕ = vb % v_sets in
      let lh : h.set < r_sets = rw eh (r_set_in b) in
      let lw : h.way < r_ways = rw ew lk in
      let f₁ : p₁ ≡ line_freed rv rr p s (b % r_sets) = e₁ (ok_ranged T f p ok) ∙ (λ j. free_line p (es j) (eu j)) in
      let ok₁ : ProcOk T f p₁ = subst (ProcOk T f) (sym f₁) (free_line_lem T f p ok s (v_way rv p s)) in
      let rg₁ : Ranged p₁ = ok_ranged T f p₁ ok₁ in
      let fx : x ≡ entry_at p₁ h.set h.way = ex lh lw in
      let f₂ : p₂ ≡ free_child p₁ x.child = e₂ rg₁ (subst (λ (z : REntry). ChildIn z.child) (sym fx) (child_in p₁ h.set h.way rg₁)) in
      let cs : p₂.counts ≡ p.counts = ap (λ (z : Processor). z.counts) f₂ ∙ free_child_counts p₁ x.child ∙ ap (λ (z : Processor). z.counts) f₁ ∙ free_counts p s (v_way rv p s) in
      let room : p₂.counts.replaced < 2 ^ 32 - 1 = subst (λ (z : Counts). z.replaced < 2 ^ 32 - 1) (sym cs) small in
      let kk : k ≡ next_entry rv rr p s (b % r_sets) = ek (r_set_in n) ∙ (λ j. r_way rr (f₁ j) (en j % r_sets)) in
      let ww : h.way ≡ next_entry rv rr p s (b % r_sets) = ew ∙ kk in
      let whole : p₂ ≡ child_freed rv rr p s (b % r_sets) = f₂ ∙ ap (λ (z : REntry). free_child p₁ z.child) fx ∙ (λ j. free_child (f₁ j) (entry_at (f₁ j) (eh j) (ww j)).child) in
      record {
        processor = e₃ lh lw room ∙ (λ j. evict (whole j) (eh j) (ww j));
        line_way = eu;
        entry_way = kk;
        replaced = ee lh lw ∙ (λ j. entry_at (whole j) (eh j) (ww j));
      }

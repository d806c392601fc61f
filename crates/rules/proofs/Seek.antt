-- What the searches find.
use Rattle.std.proofs.Common.{◌≡◌, ℕ, zero, suc, ◌%◌, ◌<◌, Bool, true, false, not, eqb, Some, None, Option, sym, refl, ap, ◌∙◌, subst, arith, eq-eqb, ne_eqb}
use native.Mathlib.Decide.{ℕ_discrete, dec_lt}
use borrow.Author.Tests.{clash}
use Rattle.rules.specs.Sizes.{v_sets, v_ways, r_sets, r_ways}
use Rattle.tables.specs.declared.types.VLine.{VLine}
use Rattle.tables.specs.declared.types.REntry.{REntry}
use Rattle.tables.specs.declared.types.Processor.{Processor}
use Rattle.rules.specs.Basic.{first_below, or_at, both}
use Rattle.rules.specs.Cache.{line_at, entry_at, is_absent, is_valid, holds, r_find, hits, v_find}
use Rattle.rules.specs.Bus.{Blocks}
use Rattle.rules.specs.Invariant.{Present}
use Rattle.rules.specs.Sound.{ProcOk, Lacks}
use Rattle.rules.proofs.Ops.{present_range}

pub some_is : (a b : ℕ) → Some a ≡ Some b → a ≡ b
some_is a b e = cc

pub some_none : {X : Type 0} (o : Option ℕ) (a : ℕ) → o ≡ Some a → o ≡ None → X
some_none o a e h = let z : ◌≡◌ {A = ℕ} 0 1 = cc in absurd (zo z)
  where
    zo : ◌≡◌ {A = ℕ} 0 1 → ⊥
    zo z = omega arith

or_some : (o : Option ℕ) (b : Bool) (n : ℕ) → or_at o b n ≡ None → (o ≡ None) × (b ≡ false)
or_some (Some k) b n e = some_none (Some k) k refl e
or_some None true n e = some_none (Some n) n refl e
or_some None false n e = (refl, refl)

pub first_none : (n : ℕ) (f : ℕ → Bool) → first_below n f ≡ None → (w : ℕ) → w < n → f w ≡ false
first_none zero f e w lt = let z : ⊥ = omega arith in absurd z
first_none (suc n) f e w lt = go (or_some (first_below n f) (f n) n e) (λ h. first_none n f h w) (dec_lt w n)
  where
    go : (first_below n f ≡ None) × (f n ≡ false) → (first_below n f ≡ None → w < n → f w ≡ false) → Dec (w < n) → f w ≡ false
    go x ih (yes k) = ih x.0 k
    go x ih (no k) = let q : w ≡ n = omega arith in rw q x.1

pub first_some : (n : ℕ) (f : ℕ → Bool) (w : ℕ) → first_below n f ≡ Some w → (w < n) × (f w ≡ true)
first_some zero f w e = some_none None w e refl
first_some (suc n) f w e = go (first_some n f w) (first_below n f) refl (f n) refl e
  where
    go : (first_below n f ≡ Some w → (w < n) × (f w ≡ true)) → (o : Option ℕ) → first_below n f ≡ o → (b : Bool) → f n ≡ b → or_at o b n ≡ Some w → (w < suc n) × (f w ≡ true)
    go ih (Some k) h b g x =
        let q : k ≡ w = some_is k w x in
        let i = ih (h ∙ ap {B = Option ℕ} Some q) in
        let lt = i.0 in
        (omega arith, i.1)
    go ih None h true g x = let q : n ≡ w = some_is n w x in (omega arith, subst (λ z. f z ≡ true) q g)
    go ih None h false g x = some_none None w x refl

pub both_true : (a b : Bool) → both a b ≡ true → (a ≡ true) × (b ≡ true)
both_true true b e = (refl, e)
both_true false b e = absurd (clash e)

pub both_from : (a b : Bool) → a ≡ true → b ≡ true → both a b ≡ true
both_from true b h e = e
both_from false b h e = absurd (clash h)

not_true : (b : Bool) → not b ≡ true → b ≡ false
not_true true e = absurd (clash e)
not_true false e = refl

pub eqb_is : (a b : ℕ) → eqb a b ≡ true → a ≡ b
eqb_is a b e = go (ℕ_discrete a b)
  where
    go : Dec (a ≡ b) → a ≡ b
    go (yes q) = q
    go (no n) = absurd (clash (sym (ne_eqb a b n) ∙ e))

pub holds_is : (b : ℕ) (e : REntry) → holds b e ≡ true → Present e × (e.block.0 ≡ b)
holds_is b e h = let x = both_true (not (is_absent e.state)) (eqb e.block.0 b) h in (not_true (is_absent e.state) x.0, eqb_is e.block.0 b x.1)

pub r_found : (p : Processor) (b w : ℕ) → r_find p b ≡ Some w → Present (entry_at p (b % r_sets) w) × ((entry_at p (b % r_sets) w).block.0 ≡ b)
r_found p b w e = holds_is b (entry_at p (b % r_sets) w) (first_some r_ways (λ k. holds b (entry_at p (b % r_sets) k)) w e).1

pub r_lacks : (T : ℕ → Option ℕ) (f : Blocks) (p : Processor) (b : ℕ) → ProcOk T f p → r_find p b ≡ None → Lacks p b
r_lacks T f p b O e s w pr eb =
    let r = present_range T f p O s w pr in
    let i = sym (O.sound.ents s w pr).in_set ∙ ap (λ z. z % r_sets) eb in
    let h = first_none r_ways (λ k. holds b (entry_at p (b % r_sets) k)) e w r.1 in
    clash (sym (subst (λ z. holds b (entry_at p z w) ≡ false) (sym i) h) ∙ held)
  where
    held : holds b (entry_at p s w) ≡ true
    held = rw (pr, eq-eqb (entry_at p s w).block.0 b eb)

pub hit_is : (t : ℕ) (l : VLine) → hits t l ≡ true → (is_valid l.state ≡ true) × (l.tag.0 ≡ t)
hit_is t l h = let x = both_true (is_valid l.state) (eqb l.tag.0 t) h in (x.0, eqb_is l.tag.0 t x.1)

pub v_found : (p : Processor) (vb w : ℕ) → v_find p vb ≡ Some w → (is_valid (line_at p (vb % v_sets) w).state ≡ true) × ((line_at p (vb % v_sets) w).tag.0 ≡ vb)
v_found p vb w e = hit_is vb (line_at p (vb % v_sets) w) (first_some v_ways (λ k. hits vb (line_at p (vb % v_sets) k)) w e).1

-- The way that is next to be replaced: the lowest free one, else the rule's choice, over sets modulo the sizes.
use Rattle.std.proofs.Common.{◌≡◌, ℕ, ◌%◌, ◌<◌, ◌≤◌, Bool, ltb, List, get_or, Some, None, Option, MatchOption, sym, refl, ap, ◌∙◌, subst, mod-eq_of_lt, arith, ltb-true, lt-ltb}
use Rattle.replacement.specs.Sizes.{ways}
use Rattle.tables.specs.declared.types.Processor.{Processor}
use Rattle.rules.specs.Sizes.{v_sets, v_ways, r_sets, r_ways}
use Rattle.rules.specs.Basic.{first_below, with_default, flags, both}
use Rattle.rules.specs.Rule.{Rule, Lawful}
use Rattle.rules.specs.Cache.{line_at, entry_at, is_empty, is_absent, childless, v_way, r_way, r_choice}
use Rattle.rules.proofs.Sizes.{v_ways_pos, r_ways_pos, v_ways_few, r_ways_few, choice_passes}
use Rattle.rules.proofs.Seek.{first_some, both_true, both_from}
use Rattle.caches.specs.Choice.{ways_below, asked_by}
use Rattle.caches.specs.Found.{FoundBelow}

-- a lawful choice among the ways below n is one of them
choice_below : (ru : Rule) → Lawful ru → (word n : ℕ) → 0 < n → n ≤ ways → ru.choice word (ways_below n) < n
choice_below ru law word n h k = ltb-true (ru.choice word (ways_below n)) n (choice_passes ru law word (λ w. ltb w n) 0 (omega arith) (lt-ltb 0 n h))

choice_asked : (ru : Rule) → Lawful ru → (word : ℕ) (f : ℕ → Bool) (o : Option ℕ) → o ≡ first_below r_ways f → ru.choice word (asked_by (flags ways (λ w. both (ltb w r_ways) (f w))) o) < r_ways
choice_asked ru law word f None e = choice_below ru law word r_ways r_ways_pos r_ways_few
choice_asked ru law word f (Some k) e =
    let h = first_some r_ways f k (sym e) in
    let lt = h.0 in
    let few = r_ways_few in
    let g : ℕ → Bool = λ w. both (ltb w r_ways) (f w) in
    let c = choice_passes ru law word g k (omega arith) (both_from (ltb k r_ways) (f k) (lt-ltb k r_ways lt) h.1) in
    let x = ru.choice word (flags ways g) in
    ltb-true x r_ways (both_true (ltb x r_ways) (f x) c).0

asked_choice : (ru : Rule) (word : ℕ) (f : ℕ → Bool) (o : Option ℕ) → ru.choice word (asked_by (flags ways (λ w. both (ltb w r_ways) (f w))) o) ≡ r_choice ru word (flags ways (λ w. both (ltb w r_ways) (f w))) o
asked_choice ru word f None = refl
asked_choice ru word f (Some k) = refl

module _ (ru : Rule) (law : Lawful ru) (p : Processor) (s x : ℕ) where
  -- a V-set that has an empty way, and one that has none
  pub line_way_in : (o : Option ℕ) → o ≡ first_below v_ways (λ w. is_empty (line_at p (s % v_sets) w).state) → FoundBelow v_ways o
      → MatchOption o (x ≡ ru.choice (get_or p.vrule (s % v_sets) 0) (ways_below v_ways)) (λ w. x ≡ w) → (s < v_sets → x ≡ v_way ru p s) × (x < v_ways)
  line_way_in None e b m = (
    λ ls. m ∙ ap (λ o. with_default o (ru.choice (get_or p.vrule (s % v_sets) 0) (ways_below v_ways))) e ∙ ap (v_way ru p) (mod-eq_of_lt ls),
    subst (λ z. z < v_ways) (sym m) (choice_below ru law (get_or p.vrule (s % v_sets) 0) v_ways v_ways_pos v_ways_few),
  )
  line_way_in (Some w) e b m = (
    λ ls. m ∙ ap (λ o. with_default o (ru.choice (get_or p.vrule (s % v_sets) 0) (ways_below v_ways))) e ∙ ap (v_way ru p) (mod-eq_of_lt ls),
    subst (λ z. z < v_ways) (sym m) b,
  )

  asked : ℕ → List Bool
  asked s = asked_by (flags ways (λ w. both (ltb w r_ways) (childless (entry_at p s w)))) (first_below r_ways (λ w. childless (entry_at p s w)))

  rest : ℕ → Option ℕ → ℕ
  rest s o = with_default o (ru.choice (get_or p.rrule s 0) (asked s))

  rest_way : (s : ℕ) → rest s (first_below r_ways (λ w. is_absent (entry_at p s w).state)) ≡ r_way ru p s
  unfolding rest asked
  rest_way s = ap (with_default (first_below r_ways (λ w. is_absent (entry_at p s w).state))) (asked_choice ru (get_or p.rrule s 0) (λ w. childless (entry_at p s w)) (first_below r_ways (λ w. childless (entry_at p s w))))

  absent_way : (o : Option ℕ) → o ≡ first_below r_ways (λ w. is_absent (entry_at p (s % r_sets) w).state) → x ≡ rest (s % r_sets) o → s < r_sets → x ≡ r_way ru p s
  absent_way o e m ls = m ∙ ap (rest (s % r_sets)) e ∙ rest_way (s % r_sets) ∙ ap (r_way ru p) (mod-eq_of_lt ls)

  -- an R-set that has an absent way, and one that has none
  pub entry_way_in : (o : Option ℕ) → o ≡ first_below r_ways (λ w. is_absent (entry_at p (s % r_sets) w).state) → FoundBelow r_ways o
      → MatchOption o (x ≡ ru.choice (get_or p.rrule (s % r_sets) 0) (asked_by (flags ways (λ w. both (ltb w r_ways) (childless (entry_at p (s % r_sets) w)))) (first_below r_ways (λ w. childless (entry_at p (s % r_sets) w))))) (λ w. x ≡ w)
      → (s < r_sets → x ≡ r_way ru p s) × (x < r_ways)
  unfolding rest asked
  entry_way_in None e b m = (
    absent_way None e m,
    subst (λ z. z < r_ways) (sym m) (choice_asked ru law (get_or p.rrule (s % r_sets) 0) (λ w. childless (entry_at p (s % r_sets) w)) (first_below r_ways (λ w. childless (entry_at p (s % r_sets) w))) refl),
  )
  entry_way_in (Some w) e b m = (absent_way (Some w) e m, subst (λ z. z < r_ways) (sym m) b)

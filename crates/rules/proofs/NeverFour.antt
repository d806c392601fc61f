-- The choice among all R-ways is never made: a V-way was freed first, and the lines whose home is in one R-set are spread over few V-sets.
use Rattle.std.proofs.Common.{◌≡◌, ℕ, zero, suc, ◌+◌, ◌*◌, ◌/◌, ◌%◌, ◌<◌, ◌≤◌, true, false, eqb, Some, None, Option, sym, refl, ap, ◌∙◌, subst, arith, eq-eqb}
use native.Mathlib.Decide.{dec_lt}
use borrow.Author.Tests.{clash}
use Rattle.rules.specs.Sizes.{v_sets, v_ways, r_ways, page_blocks}
use Rattle.tables.specs.declared.types.Child.{Child}
use Rattle.tables.specs.declared.types.Child.TheVariants.{NoChild, At}
use Rattle.tables.specs.declared.types.Place.{Place}
use Rattle.tables.specs.declared.types.Processor.{Processor}
use Rattle.rules.specs.Basic.{first_below}
use Rattle.rules.specs.Cache.{line_at, entry_at, is_empty, is_nil, childless}
use Rattle.rules.specs.Bus.{Blocks}
use Rattle.rules.specs.Invariant.{Filled, placed}
use Rattle.rules.specs.Sound.{ProcOk}
use Rattle.rules.proofs.Cells.{empty_filled}
use Rattle.rules.proofs.Ops.{filled_range, child_line}
use Rattle.rules.proofs.Seek.{first_none, first_some, eqb_is}
use Rattle.rules.proofs.Sizes.{spread, spread_same}

-- numbers without one of them
abbrev skip_by : {i j : ℕ} → Dec (j < i) → ℕ
skip_by {i} {j} (yes l) = j
skip_by {i} {j} (no l) = suc j

abbrev skip : ℕ → ℕ → ℕ
skip i j = skip_by (dec_lt j i)

skip_below : (i j n : ℕ) → j < n → skip i j < suc n
skip_below i j n l = go (dec_lt j i)
  where
    go : (d : Dec (j < i)) → skip_by d < suc n
    go (yes x) = omega arith
    go (no x) = omega arith

skip_not : (i j : ℕ) → skip i j ≡ i → ⊥
skip_not i j = go (dec_lt j i)
  where
    go : (d : Dec (j < i)) → skip_by d ≡ i → ⊥
    go (yes x) e = omega arith
    go (no x) e = omega arith

skip_same : (i j k : ℕ) → skip i j ≡ skip i k → j ≡ k
skip_same i j k = go (dec_lt j i) (dec_lt k i)
  where
    go : (d : Dec (j < i)) (e : Dec (k < i)) → skip_by d ≡ skip_by e → j ≡ k
    go (yes x) (yes y) e = e
    go (yes x) (no y) e = omega arith
    go (no x) (yes y) e = omega arith
    go (no x) (no y) e = omega arith

-- no more numbers than places for them
pub pigeon : (m n : ℕ) (c : ℕ → ℕ) → ((i : ℕ) → i < n → c i < m) → ((i j : ℕ) → i < n → j < n → c i ≡ c j → i ≡ j) → n ≤ m
pigeon zero zero c into inj = omega arith
pigeon zero (suc n) c into inj = let z = into 0 (omega arith) in omega arith
pigeon (suc m) zero c into inj = omega arith
pigeon (suc m) (suc n) c into inj = go (first_below (suc n) (λ i. eqb (c i) m)) refl (λ a b. pigeon m (suc n) c a b) (λ d a b. pigeon m n d a b)
  where
    go : (o : Option ℕ) → first_below (suc n) (λ i. eqb (c i) m) ≡ o
        → (((i : ℕ) → i < suc n → c i < m) → ((i j : ℕ) → i < suc n → j < suc n → c i ≡ c j → i ≡ j) → suc n ≤ m)
        → ((d : ℕ → ℕ) → ((i : ℕ) → i < n → d i < m) → ((i j : ℕ) → i < n → j < n → d i ≡ d j → i ≡ j) → n ≤ m) → suc n ≤ suc m
    go None e all less =
        let x = all (λ i l. let a = into i l in let b : c i ≡ m → ⊥ = λ q. clash (sym (first_none (suc n) (λ i. eqb (c i) m) e i l) ∙ eq-eqb (c i) m q) in omega arith) inj in
        omega arith
    go (Some k) e all less =
        let f = first_some (suc n) (λ i. eqb (c i) m) k e in
        let ck : c k ≡ m = eqb_is (c k) m f.1 in
        let lk = f.0 in
        let x = less (λ j. c (skip k j))
        (λ j l. let lj = skip_below k j n l in let a = into (skip k j) lj in let b : c (skip k j) ≡ m → ⊥ = λ q. skip_not k j (inj (skip k j) k lj lk (q ∙ sym ck)) in omega arith)
        (λ i j li lj q. skip_same k i j (inj (skip k i) (skip k j) (skip_below k i n li) (skip_below k j n lj) q)) in
        omega arith

-- a child's line, as a number
abbrev pub code_of : Child → ℕ
code_of NoChild = 0
code_of (At q d) = q.set / page_blocks * v_ways + q.way

pub record ChildOf (p : Processor) (h w : ℕ) : Type 0 where
  pub set : ℕ
  pub way : ℕ
  pub in_set : set < v_sets
  pub in_way : way < v_ways
  pub page : set % page_blocks ≡ h % page_blocks
  pub full : Filled (line_at p set way)
  pub rplace : (line_at p set way).rplace ≡ placed h w
  pub code : code_of (entry_at p h w).child ≡ set / page_blocks * v_ways + way

module _ (T : ℕ → Option ℕ) (f : Blocks) (p : Processor) (O : ProcOk T f p) (h : ℕ) where
  child_is : (w : ℕ) → childless (entry_at p h w) ≡ false → ChildOf p h w
  child_is w e = go (entry_at p h w).child refl
    where
      go : (c : Child) → (entry_at p h w).child ≡ c → ChildOf p h w
      go NoChild x = absurd (clash (sym e ∙ ap is_nil x))
      go (At q d) x =
          let nl = child_line T f p O h w q d x in
          let r = filled_range T f p O q.set q.way nl.full in
          record { set = q.set; way = q.way; in_set = r.0; in_way = r.1; page = nl.ok.fits ∙ ap (λ (z : Place). z.set % page_blocks) nl.rplace; full = nl.full; rplace = nl.rplace; code = ap code_of x }

  same_way : (w v : ℕ) (k : ChildOf p h w) (m : ChildOf p h v) → code_of (entry_at p h w).child ≡ code_of (entry_at p h v).child → w ≡ v
  same_way w v k m e =
      let i = spread_same k.set k.way m.set m.way k.in_way m.in_way (k.page ∙ sym m.page) (sym k.code ∙ e ∙ m.code) in
      let is = i.0 in
      let iw = i.1 in
      let x : (line_at p m.set m.way).rplace ≡ placed h w = rw (is, iw) at k.rplace in
      ap (λ (z : Place). z.way) (sym x ∙ m.rplace)

  -- the freed line first, then the children
  abbrev codes : ℕ → ℕ → ℕ → ℕ
  codes s u zero = s / page_blocks * v_ways + u
  codes s u (suc w) = code_of (entry_at p h w).child

  pub never_four : (s u : ℕ) → s < v_sets → u < v_ways → s % page_blocks ≡ h % page_blocks → is_empty (line_at p s u).state ≡ true → first_below r_ways (λ w. childless (entry_at p h w)) ≡ None → ⊥
  never_four s u ls lu fits em none = let z = pigeon r_ways (suc r_ways) (codes s u) into inj in omega arith
    where
      at : (w : ℕ) → w < r_ways → ChildOf p h w
      at w l = child_is w (first_none r_ways (λ w. childless (entry_at p h w)) none w l)

      into : (i : ℕ) → i < suc r_ways → codes s u i < r_ways
      into zero l = spread s u ls lu
      into (suc w) l = let k = at w (omega arith) in subst (λ z. z < r_ways) (sym k.code) (spread k.set k.way k.in_set k.in_way)

      freed : (w : ℕ) → ChildOf p h w → s / page_blocks * v_ways + u ≡ code_of (entry_at p h w).child → ⊥
      freed w k e =
          let i = spread_same s u k.set k.way lu k.in_way (fits ∙ sym k.page) (e ∙ k.code) in
          let is = i.0 in
          let iw = i.1 in
          empty_filled (is_empty (line_at p k.set k.way).state) (rw (is, iw) at em) k.full

      inj : (i j : ℕ) → i < suc r_ways → j < suc r_ways → codes s u i ≡ codes s u j → i ≡ j
      inj zero zero li lj e = refl
      inj zero (suc j) li lj e = absurd (freed j (at j (omega arith)) e)
      inj (suc i) zero li lj e = absurd (freed i (at i (omega arith)) (sym e))
      inj (suc i) (suc j) li lj e = ap suc (same_way i j (at i (omega arith)) (at j (omega arith)) e)

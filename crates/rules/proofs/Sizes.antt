-- The laws of the sizes: all that the other proofs know of them.
use Rattle.std.proofs.Common.{◌≡◌, ℕ, zero, suc, ◌+◌, ◌*◌, ◌/◌, ◌%◌, ◌<◌, ◌≤◌, Bool, true, false, length, get_or, sym, refl, ap, ◌∙◌, arith}
use borrow.Author.Tests.{clash}
use Rattle.replacement.specs.Sizes.{ways}
use Rattle.rules.specs.Basic.{flags}
use Rattle.rules.specs.Rule.{Rule, Lawful}
use Rattle.rules.specs.Sizes.{v_sets, v_ways, r_sets, r_ways, page_blocks}

pub v_sets_pos : 0 < v_sets
unfolding v_sets
v_sets_pos = omega arith

pub r_sets_pos : 0 < r_sets
unfolding r_sets
r_sets_pos = omega arith

pub v_ways_pos : 0 < v_ways
unfolding v_ways
v_ways_pos = omega arith

pub r_ways_pos : 0 < r_ways
unfolding r_ways
r_ways_pos = omega arith

pub r_ways_few : r_ways ≤ ways
unfolding r_ways
r_ways_few = omega arith

pub v_ways_few : v_ways ≤ ways
unfolding v_ways
v_ways_few = omega arith

-- a page's blocks divide the sets
pub page_fits : (fr vb : ℕ) → vb % v_sets % page_blocks ≡ (fr * page_blocks + vb % page_blocks) % r_sets % page_blocks
unfolding v_sets r_sets page_blocks
page_fits fr vb = omega arith

pub v_set_in : (x : ℕ) → x % v_sets < v_sets
v_set_in x = omega (arith, v_sets_pos)

pub r_set_in : (x : ℕ) → x % r_sets < r_sets
r_set_in x = omega (arith, r_sets_pos)

flags_length : (n : ℕ) (f : ℕ → Bool) → length (flags n f) ≡ n
flags_length zero f = refl
flags_length (suc n) f = ap suc (flags_length n (λ k. f (suc k)))

flag_at : (n : ℕ) (f : ℕ → Bool) (w : ℕ) → w < n → get_or (flags n f) w false ≡ f w
flag_at zero f w h = let z : ⊥ = omega arith in absurd z
flag_at (suc n) f zero h = refl
flag_at (suc n) f (suc w) h = flag_at n (λ k. f (suc k)) w (omega arith)

flag_in : (n : ℕ) (f : ℕ → Bool) (w : ℕ) → get_or (flags n f) w false ≡ true → w < n
flag_in zero f w e = absurd (clash e)
flag_in (suc n) f zero e = omega arith
flag_in (suc n) f (suc w) e = let i = flag_in n (λ k. f (suc k)) w e in omega arith

-- a lawful choice among the ways that pass a test passes it, where some way does
pub choice_passes : (r : Rule) → Lawful r → (word : ℕ) (f : ℕ → Bool) (k : ℕ) → k < ways → f k ≡ true → f (r.choice word (flags ways f)) ≡ true
choice_passes r law word f k h e =
    let c = law.chosen word (flags ways f) k (flags_length ways f) (flag_at ways f k h ∙ e) in
    sym (flag_at ways f (r.choice word (flags ways f)) (flag_in ways f (r.choice word (flags ways f)) c)) ∙ c

-- the lines of one page offset are no more than an R-set has ways
pub spread : (s w : ℕ) → s < v_sets → w < v_ways → s / page_blocks * v_ways + w < r_ways
unfolding v_sets v_ways r_ways page_blocks
spread s w ls lw = omega arith

pub spread_same : (s w t u : ℕ) → w < v_ways → u < v_ways → s % page_blocks ≡ t % page_blocks → s / page_blocks * v_ways + w ≡ t / page_blocks * v_ways + u → (s ≡ t) × (w ≡ u)
unfolding v_ways page_blocks
spread_same s w t u lw lu e c = (omega arith, omega arith)

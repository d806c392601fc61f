-- Steps of the loops over processes and pages.
use Rattle.std.proofs.Common.{◌≡◌, ℕ, zero, suc, ◌+◌, ◌<◌, ◌≤◌, true, List, [], ◌∷◌, ◌++◌, Some, None, Ok, Err, Option, Result, sym, refl, ap, ◌∙◌, append_assoc, add-one, arith}
use Rattle.std.proofs.lemmas.List.{append-nil}
use Rattle.std.proofs.lemmas.Bool.{cond-true}
use Rattle.std.proofs.lemmas.Bool.Decides.{nat_tests}
use Rattle.std.specs.List.{flat_map, range_with_len}
use Rattle.base.specs.Sizes.{pages, processes}
use Rattle.base.specs.declared.block.Frame.{Frame}
use Rattle.paging.specs.Frames.{Frames, found, looked, named}
use Rattle.paging.specs.declared.fault.MapFault.{MapFault}
use Rattle.trace_map.specs.Pages.{mapped, row_of, rows_of}
use Rattle.paging.specs.declared.mapped.MappedPage.{MappedPage}

flat_from : {X : Type 0} (f : ℕ → List X) (a n k : ℕ) → k ≡ a + n → flat_map f (range_with_len a (suc n)) ≡ flat_map f (range_with_len a n) ++ f k
flat_from f a zero k e = grind (arith, append-nil)
flat_from f a (suc n) k e = ap (λ z. f a ++ z) (flat_from f (a + 1) n k (omega arith)) ∙ sym (append_assoc (f a) (flat_map f (range_with_len (a + 1) n)) (f k))

-- one number more
flat_more : {X : Type 0} (f : ℕ → List X) (n : ℕ) → flat_map f (range_with_len 0 (n + 1)) ≡ flat_map f (range_with_len 0 n) ++ f n
flat_more f n = rw add-one (flat_from f 0 n n (omega arith))

-- the row of what a look-up answered
abbrev pub answered : ℕ → ℕ → Result Frame MapFault → List MappedPage
answered p g (Ok f) = record { process = record { 0 = p }; page = record { 0 = g }; frame = f } ∷ []
answered p g (Err e) = []

answered_found : (p g : ℕ) (o : Option ℕ) → answered p g (found o (record { 0 = g })) ≡ row_of p g o
answered_found p g None = refl
answered_found p g (Some f) = refl

looked_row : (m : Frames) (p g : ℕ) → p < processes → g < pages → answered p g (looked m (record { 0 = p }) (record { 0 = g })) ≡ row_of p g (m p g)
looked_row m p g h i =
    let n : named p g ≡ true = grind (arith, nat_tests) in
    ap (answered p g) (cond-true _ (found (m p g) (record { 0 = g })) _ n) ∙ answered_found p g (m p g)

-- one page more
pub page_more : (m m' : Frames) (p g : ℕ) (a : Result Frame MapFault) (front xs ys : List MappedPage) → p < processes → g < pages → m' ≡ m
    → a ≡ looked m' (record { 0 = p }) (record { 0 = g }) → ys ≡ xs ++ answered p g a
    → xs ≡ front ++ flat_map (λ n. row_of p n (m p n)) (range_with_len 0 g) → ys ≡ front ++ flat_map (λ n. row_of p n (m p n)) (range_with_len 0 (g + 1))
page_more m m' p g a front xs ys h i q e k inv =
    let f : ℕ → List MappedPage = λ n. row_of p n (m p n) in
    let r : answered p g a ≡ f g = ap (answered p g) (e ∙ ap (λ (n : Frames). looked n (record { 0 = p }) (record { 0 = g })) q) ∙ looked_row m p g h i in
    rw (k, r, inv, flat_more f g, append_assoc) refl

-- one process more
pub process_more : (m : Frames) (p g : ℕ) (xs : List MappedPage) → pages ≤ g → g ≤ pages
    → xs ≡ flat_map (rows_of m) (range_with_len 0 p) ++ flat_map (λ n. row_of p n (m p n)) (range_with_len 0 g) → xs ≡ flat_map (rows_of m) (range_with_len 0 (p + 1))
process_more m p g xs a b inv =
    let d : g ≡ pages = omega arith in
    inv ∙ ap (λ k. flat_map (rows_of m) (range_with_len 0 p) ++ flat_map (λ n. row_of p n (m p n)) (range_with_len 0 k)) d ∙ sym (flat_more (rows_of m) p)

pub rows_all : (m : Frames) (p : ℕ) (xs : List MappedPage) → processes ≤ p → p ≤ processes → xs ≡ flat_map (rows_of m) (range_with_len 0 p) → xs ≡ mapped m
rows_all m p xs a b e = let d : p ≡ processes = omega arith in e ∙ ap (λ k. flat_map (rows_of m) (range_with_len 0 k)) d

-- What the flat table means as it is made, and after one of its entries was replaced.
use Rattle.std.proofs.Common.{◌≡◌, ℕ, ◌*◌, ◌<◌, true, List, length, replicate, Some, None, Option, sym, ap, ◌∙◌, arith, refl}
use Rattle.std.specs.Prelude.{Bool, false, if◌then◌else◌, slice_set}
use Rattle.std.proofs.lemmas.Bool.Decides.{nat_tests}
use Rattle.std.proofs.lemmas.Grind.{common_steps}
use Rattle.base.specs.Sizes.{frames, pages, processes}
use Rattle.base.specs.declared.block.Frame.{Frame}
use Rattle.base.specs.declared.block.Page.{Page}
use Rattle.base.specs.declared.block.Process.{Process}
use Rattle.paging.specs.Frames.{Small, Within, changed, entry, entry_put, enters, flat, named, number_of, slot, slot_of, unmapped}
use Rattle.paging.proofs.Cells.{set_keeps}

abbrev pub Entries : Type 0
Entries = List (Option Frame)

pub empty_small : (es : Entries) (n : ℕ) → es ≡ replicate n None → Small es
empty_small es n e = grind (arith, common_steps)

pub empty_unmapped : (es : Entries) (n : ℕ) → es ≡ replicate n None → flat es ≡ unmapped
empty_unmapped es n e = grind (arith, common_steps)

-- the place of an entry is in the table
pub slot_within : (p g : ℕ) → named p g ≡ true → slot p g < processes * pages
slot_within p g n = grind (arith, nat_tests)

-- an entry replaced, or refused
pub flat_put : (es : Entries) (o : Option Frame) (p g : ℕ) → (named p g ≡ true → length es ≡ processes * pages) → flat (entry_put (slot_of p g) es o) ≡ changed (named p g) (flat es) p g (number_of o)
flat_put es o p g l = grind (arith, common_steps)

-- one entry replaced is one entry of the meaning replaced
pub flat_set : (es : Entries) (o : Option Frame) (p g : ℕ) → named p g ≡ true → length es ≡ processes * pages → flat (slice_set es (slot p g) o) ≡ entry (flat es) p g (number_of o)
flat_set es o p g n l = grind (arith, common_steps)

-- what a table whose frames are in their range means
pub flat_within : (es : Entries) → Small es → Within (flat es)
flat_within es s p g f e = grind (arith, common_steps)

-- the range of the frames is kept by an entry in it, and by none
pub small_set : (es : Entries) (o : Option Frame) (i : ℕ) → i < length es → ((x : ℕ) → number_of o ≡ Some x → x < frames) → Small es → Small (slice_set es i o)
small_set es o i h k s j f e = set_keeps (λ _ (a : Option Frame). number_of a ≡ Some f → f < frames) es i j o None (k f) (s j f) e

small_put_by : (es : Entries) (o : Option Frame) (p g : ℕ) (b : Bool) → named p g ≡ b → (named p g ≡ true → length es ≡ processes * pages) → ((x : ℕ) → number_of o ≡ Some x → x < frames)
    → Small es → Small (entry_put (if b then Some (slot p g) else None) es o)
small_put_by es o p g true n l k s = let w = slot_within p g n in let m = l n in small_set es o (slot p g) (omega arith) k s
small_put_by es o p g false n l k s = s

pub small_put : (es : Entries) (o : Option Frame) (p g : ℕ) → (named p g ≡ true → length es ≡ processes * pages) → ((x : ℕ) → number_of o ≡ Some x → x < frames) → Small es → Small (entry_put (slot_of p g) es o)
small_put es o p g l k s = small_put_by es o p g (named p g) refl l k s

pub none_small : (x : ℕ) → number_of None ≡ Some x → x < frames
none_small x e = grind arith

pub some_small : (f : Frame) → f.0 < frames → (x : ℕ) → number_of (Some f) ≡ Some x → x < frames
some_small f h x e = grind arith

pub none_all_small : (n : ℕ) → Small (replicate n None)
none_all_small n = empty_small (replicate n None) n refl

pub flat_unmapped : (n : ℕ) → flat (replicate n None) ≡ unmapped
flat_unmapped n = empty_unmapped (replicate n None) n refl

-- a frame entered, or refused
pub flat_entered : (es ds : Entries) (p : Process) (g : Page) (f : Frame) → f.0 < frames → (named p.0 g.0 ≡ true → length es ≡ processes * pages) → ds ≡ entry_put (slot_of p.0 g.0) es (Some f)
    → flat ds ≡ changed (enters p g f) (flat es) p.0 g.0 (Some f.0)
flat_entered es ds p g f h l e =
    let t : enters p g f ≡ named p.0 g.0 = grind (arith, nat_tests) in
    ap (λ (x : Entries). flat x) e ∙ flat_put es (Some f) p.0 g.0 l ∙ ap (λ b. changed b (flat es) p.0 g.0 (Some f.0)) (sym t)

-- One processor is put for another, or what memory or the blocks read as changes.
use Rattle.std.proofs.Common.{◌≡◌, ℕ, ◌<◌, ◌≤◌, true, List, length, set, Option, sym, refl, ap, ◌∙◌, subst, arith, length-set, get_or-set_other, get_or-set_same}
use native.Mathlib.Decide.{ℕ_discrete}
use Rattle.rules.specs.Sizes.{r_sets}
use Rattle.tables.specs.declared.types.EntryState.TheVariants.{Private}
use Rattle.tables.specs.declared.types.VLine.{VLine}
use Rattle.tables.specs.declared.types.REntry.{REntry}
use Rattle.tables.specs.declared.types.Processor.{Processor}
use Rattle.rules.specs.Cache.{line_at, entry_at, is_absent}
use Rattle.rules.specs.Bus.{Blocks, proc_at, modified, no_processor}
use Rattle.rules.specs.Invariant.{Present, placed}
use Rattle.rules.specs.Sound.{Sound, ProcOk, Inv, Clean, Lacks, translate}

-- what the blocks read as changes elsewhere
pub sound_reads : (n : ℕ) (T : ℕ → Option ℕ) (f g : Blocks) (L : ℕ → ℕ → VLine) (E : ℕ → ℕ → REntry) → ((a b : ℕ) → Present (E a b) → f (E a b).block.0 ≡ g (E a b).block.0) → Sound n T f L E → Sound n T g L E
sound_reads n T f g L E r S = record {
  lines = λ a b fl. let o = S.lines a b fl in record { up = o.up; words = o.words ∙ r (L a b).rplace.set (L a b).rplace.way (S.children (L a b).rplace.set (L a b).rplace.way (placed a b) (L a b).dirty o.up).here; maps = o.maps; fits = o.fits };
  children = S.children;
  ents = λ a b pr. let o = S.ents a b pr in record { in_set = o.in_set; words = λ d. o.words d ∙ r a b pr; own = o.own };
  void = S.void;
  once = S.once;
}

pub proc_reads : (T : ℕ → Option ℕ) (f g : Blocks) (p : Processor) → ((a b : ℕ) → Present (entry_at p a b) → f (entry_at p a b).block.0 ≡ g (entry_at p a b).block.0) → ProcOk T f p → ProcOk T g p
proc_reads T f g p r o = record { shaped = o.shaped; sound = sound_reads r_sets T f g (line_at p) (entry_at p) r o.sound; tally = o.tally }

module _ (ps : List Processor) (i : ℕ) (p : Processor) (lt : i < length ps) where
  pub put_same : proc_at (set ps i p) i ≡ p
  put_same = get_or-set_same ps i p no_processor lt

  pub put_other : (j : ℕ) → (j ≡ i → ⊥) → proc_at (set ps i p) j ≡ proc_at ps j
  put_other j n = get_or-set_other ps i j p no_processor n

-- each processor runs the process that it ran
abbrev pub Runs : List Processor → List Processor → Type 0
Runs ps qs = (j : ℕ) → (proc_at qs j).process.0 ≡ (proc_at ps j).process.0

pub runs_set : (ps : List Processor) (i : ℕ) (p : Processor) → i < length ps → p.process.0 ≡ (proc_at ps i).process.0 → Runs ps (set ps i p)
runs_set ps i p lt e j = go (ℕ_discrete j i)
  where
    go : Dec (j ≡ i) → (proc_at (set ps i p) j).process.0 ≡ (proc_at ps j).process.0
    go (yes z) = ap (λ (k : ℕ). (proc_at (set ps i p) k).process.0) z ∙ ap (λ (q : Processor). q.process.0) (put_same ps i p lt) ∙ e ∙ ap (λ (k : ℕ). (proc_at ps k).process.0) (sym z)
    go (no n) = ap (λ (q : Processor). q.process.0) (put_other ps i p lt j n)

module _ (n : ℕ) (table : ℕ → ℕ → Option ℕ) (f g mem mem' : Blocks) (ps : List Processor) (i : ℕ) (p : Processor)
    (lt : i < n) (I : Inv n table f mem ps)
    (ok : ProcOk (translate table p.process.0) g p)
    (reads : (j : ℕ) → (j ≡ i → ⊥) → (s w : ℕ) → Present (entry_at (proc_at ps j) s w) → f (entry_at (proc_at ps j) s w).block.0 ≡ g (entry_at (proc_at ps j) s w).block.0)
    (out : (s w : ℕ) → (entry_at p s w).state ≡ Private → (j : ℕ) → (j ≡ i → ⊥) → Lacks (proc_at ps j) (entry_at p s w).block.0)
    (come : (s w : ℕ) → Present (entry_at p s w) → (j : ℕ) → (j ≡ i → ⊥) → (t u : ℕ) → (entry_at (proc_at ps j) t u).state ≡ Private → (entry_at (proc_at ps j) t u).block.0 ≡ (entry_at p s w).block.0 → ⊥)
    (memo : (x : ℕ) → Clean p x → ((j : ℕ) → (j ≡ i → ⊥) → Clean (proc_at ps j) x) → mem' x ≡ g x) where
  long : i < length ps
  long = omega (arith, I.few)

  same : proc_at (set ps i p) i ≡ p
  same = put_same ps i p long

  other : (j : ℕ) → (j ≡ i → ⊥) → proc_at (set ps i p) j ≡ proc_at ps j
  other j n = put_other ps i p long j n

  each' : (j : ℕ) → j < n → ProcOk (translate table (proc_at (set ps i p) j).process.0) g (proc_at (set ps i p) j)
  each' j lj = go (ℕ_discrete j i)
    where
      go : Dec (j ≡ i) → ProcOk (translate table (proc_at (set ps i p) j).process.0) g (proc_at (set ps i p) j)
      go (yes e) = rw (e, same) ok
      go (no ne) = rw (other j ne) (proc_reads (translate table (proc_at ps j).process.0) f g (proc_at ps j) (reads j ne) (I.each j lj))

  idle' : (j s w : ℕ) → n ≤ j → is_absent (entry_at (proc_at (set ps i p) j) s w).state ≡ true
  idle' j s w le = let ne : j ≡ i → ⊥ = λ e. omega arith in rw (other j ne) (I.idle j s w le)

  apart' : (a b : ℕ) → (a ≡ b → ⊥) → (s w t u : ℕ) → (entry_at (proc_at (set ps i p) a) s w).state ≡ Private → Present (entry_at (proc_at (set ps i p) b) t u)
      → (entry_at (proc_at (set ps i p) a) s w).block.0 ≡ (entry_at (proc_at (set ps i p) b) t u).block.0 → ⊥
  apart' a b ne s w t u pv pr e = go (ℕ_discrete a i) (ℕ_discrete b i)
    where
      go : Dec (a ≡ i) → Dec (b ≡ i) → ⊥
      go (yes x) (yes y) = ne (x ∙ sym y)
      go (yes x) (no ny) = out s w (rw (x, same) at pv) b ny t u (rw (other b ny) at pr) (sym (rw (x, same, other b ny) at e))
      go (no nx) (yes y) = come t u (rw (y, same) at pr) a nx s w (rw (other a nx) at pv) (rw (y, same, other a nx) at e)
      go (no nx) (no ny) = I.apart a b ne s w t u (rw (other a nx) at pv) (rw (other b ny) at pr) (rw (other a nx, other b ny) at e)

  pub inv_set : Inv n table g mem' (set ps i p)
  inv_set = record {
    few = rw (length-set ps i p) I.few;
    each = each';
    idle = idle';
    apart = apart';
    memory = λ x c. memo x (subst (λ (z : Processor). Clean z x) same (c i)) (λ j ne. subst (λ (z : Processor). Clean z x) (other j ne) (c j));
  }

-- each present entry was there, with its block, and private only if it was
pub record Kept (e e' : REntry) : Type 0 where
  pub here : Present e
  pub block : e'.block.0 ≡ e.block.0
  pub priv : e'.state ≡ Private → e.state ≡ Private

abbrev pub Sub : Processor → Processor → Type 0
Sub p p' = (s w : ℕ) → Present (entry_at p' s w) → Kept (entry_at p s w) (entry_at p' s w)

pub private_present : (e : REntry) → e.state ≡ Private → Present e
private_present e h = rw h

-- what takes nothing in
pub inv_sub : (n : ℕ) (table : ℕ → ℕ → Option ℕ) (f mem mem' : Blocks) (ps : List Processor) (i : ℕ) (p : Processor) → i < n → Inv n table f mem ps
    → ProcOk (translate table p.process.0) f p → Sub (proc_at ps i) p
    → ((x : ℕ) → Clean p x → (Clean (proc_at ps i) x → mem x ≡ f x) → mem' x ≡ f x)
    → Inv n table f mem' (set ps i p)
inv_sub n table f mem mem' ps i p lt I ok sub memo = inv_set n table f f mem mem' ps i p lt I ok (λ j ne s w pr. refl)
    (λ s w pv j ne t u pr e. let k = sub s w (private_present (entry_at p s w) pv) in I.apart i j (λ z. ne (sym z)) s w t u (k.priv pv) pr (sym k.block ∙ sym e))
    (λ s w pr j ne t u pv e. let k = sub s w pr in I.apart j i ne t u s w pv k.here (e ∙ k.block))
    (λ x c o. memo x c (λ ci. I.memory x (all x ci o)))
  where
    all : (x : ℕ) → Clean (proc_at ps i) x → ((j : ℕ) → (j ≡ i → ⊥) → Clean (proc_at ps j) x) → (j : ℕ) → Clean (proc_at ps j) x
    all x ci o j = go (ℕ_discrete j i)
      where
        go : Dec (j ≡ i) → Clean (proc_at ps j) x
        go (yes e) = subst (λ (z : ℕ). Clean (proc_at ps z) x) (sym e) ci
        go (no ne) = o j ne

-- every entry with the same share and block, and modified as it was
pub record Alike (e e' : REntry) : Type 0 where
  pub state : e'.state ≡ e.state
  pub block : e'.block.0 ≡ e.block.0
  pub dirt : modified e' ≡ modified e

abbrev pub Same : Processor → Processor → Type 0
Same p p' = (s w : ℕ) → Alike (entry_at p s w) (entry_at p' s w)

pub same_sub : (p p' : Processor) → Same p p' → Sub p p'
same_sub p p' a s w pr = let k = a s w in record { here = rw k.state at pr; block = k.block; priv = λ e. sym k.state ∙ e }

pub same_clean : (p p' : Processor) (x : ℕ) → Same p p' → Clean p' x → Clean p x
same_clean p p' x a c s w pr e = let k = a s w in sym k.dirt ∙ c s w (rw k.state pr) (k.block ∙ e)

pub inv_same : (n : ℕ) (table : ℕ → ℕ → Option ℕ) (f mem : Blocks) (ps : List Processor) (i : ℕ) (p : Processor) → i < n → Inv n table f mem ps
    → ProcOk (translate table p.process.0) f p → Same (proc_at ps i) p → Inv n table f mem (set ps i p)
inv_same n table f mem ps i p lt I ok a = inv_sub n table f mem mem ps i p lt I ok (same_sub (proc_at ps i) p a) (λ x c h. h (same_clean (proc_at ps i) p x a c))

pub same_refl : (p : Processor) → Same p p
same_refl p s w = record { state = refl; block = refl; dirt = refl }

pub same_trans : (p q r : Processor) → Same p q → Same q r → Same p r
same_trans p q r a b s w = let x = a s w in let y = b s w in record { state = y.state ∙ x.state; block = y.block ∙ x.block; dirt = y.dirt ∙ x.dirt }

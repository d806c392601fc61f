-- A reference, accepted: a read answers what its block reads as, and a write changes that at one word.
use Rattle.std.proofs.Common.{◌≡◌, ℕ, ◌<◌, Bool, true, false, ◌||◌, set, Some, None, Option, sym, refl, ap, ◌∙◌, subst}
use native.Mathlib.Decide.{ℕ_discrete}
use borrow.Author.Tests.{clash}
use Rattle.tables.specs.declared.types.EntryState.TheVariants.{Private}
use Rattle.tables.specs.declared.types.VLine.{VLine}
use Rattle.tables.specs.declared.types.REntry.{REntry}
use Rattle.tables.specs.declared.types.Processor.{Processor}
use Rattle.rules.specs.Rule.{Lawful}
use Rattle.rules.specs.Cache.{line_at, entry_at, v_find, r_find, stored, with_child, marked_dirty}
use Rattle.rules.specs.Bus.{Blocks, put_block, proc_at, modified}
use Rattle.rules.specs.Calls.{Board, Rules, Ref, Reached, cpu_at, is_write, reach, reach_by, v_miss, miss_by, frame_of, physical}
use Rattle.rules.specs.Invariant.{Filled, Present}
use Rattle.rules.specs.Sound.{ProcOk, Inv, InvOf, Clean, translate, physical_by}
use Rattle.rules.proofs.Cells.{But}
use Rattle.rules.proofs.Ops.{rplace_present, store}
use Rattle.rules.proofs.Whole.{inv_set, Sub, private_present}
use Rattle.rules.proofs.Steps.{but_present, sub_but, clean_but}
use Rattle.rules.proofs.Passes.{put_here, put_else}
use Rattle.rules.proofs.Hits.{ReachOk, v_hit_ok, r_hit_ok, valid_filled}
use Rattle.rules.proofs.Miss.{r_miss_ok}
use Rattle.rules.proofs.Sizes.{page_fits}

-- a reference reaches its line
module _ (f : Blocks) (rs : Rules) (lawV : Lawful rs.for_v) (lawR : Lawful rs.for_r) (st : Board) (r : Ref) (I : InvOf st f) (lt : r.cpu < st.cpus) where
  pub miss_ok : (fr : ℕ) → frame_of st r ≡ Some fr → ReachOk f st r (v_miss rs st r)
  miss_ok fr e = rw e (go (r_find (cpu_at st r.cpu) (physical fr r.vb)) refl)
    where
      tr : translate st.table (cpu_at st r.cpu).process.0 r.vb ≡ Some (physical fr r.vb)
      tr = ap {B = Option ℕ} (λ o. physical_by o r.vb) e

      go : (o : Option ℕ) → r_find (cpu_at st r.cpu) (physical fr r.vb) ≡ o → ReachOk f st r (miss_by o rs st r (physical fr r.vb))
      go None x = r_miss_ok f rs lawV lawR st r (physical fr r.vb) I lt x tr (page_fits fr r.vb)
      go (Some k) x = r_hit_ok f rs lawV st r (physical fr r.vb) k I lt x tr (page_fits fr r.vb)

  pub reach_ok : (v_find (cpu_at st r.cpu) r.vb ≡ None → (fr : ℕ) × (frame_of st r ≡ Some fr)) → ReachOk f st r (reach rs st r)
  reach_ok fr = go (v_find (cpu_at st r.cpu) r.vb) refl
    where
      go : (o : Option ℕ) → v_find (cpu_at st r.cpu) r.vb ≡ o → ReachOk f st r (reach_by o rs st r)
      go (Some w) e = v_hit_ok f rs st r w I lt e
      go None e = let x = fr e in miss_ok x.0 x.1

-- what is reached
module _ (f : Blocks) (st : Board) (r : Ref) (a : Reached) (R : ReachOk f st r a) (lt : r.cpu < st.cpus) where
  abbrev i : ℕ
  i = r.cpu

  abbrev p : Processor
  p = cpu_at a.at i

  abbrev l : VLine
  l = line_at p a.set a.way

  abbrev h : ℕ
  h = l.rplace.set

  abbrev k : ℕ
  k = l.rplace.way

  abbrev b : ℕ
  b = (entry_at p h k).block.0

  abbrev T : ℕ → Option ℕ
  T = translate a.at.table p.process.0

  lt' : i < a.at.cpus
  lt' = rw R.cpus lt

  O : ProcOk (translate a.at.table p.process.0) f p
  O = R.inv.each i lt'

  full : Filled l
  full = valid_filled l.state R.valid

  pub reached_block : translate st.table (cpu_at st i).process.0 r.vb ≡ Some b
  reached_block = ap {B = Option ℕ} (translate st.table (cpu_at st i).process.0) (sym R.tag) ∙ ap {B = Option ℕ} (λ q. translate st.table q l.tag.0) (sym (R.runs i))
      ∙ ap {B = Option ℕ} (λ (t : ℕ → ℕ → Option ℕ). translate t p.process.0 l.tag.0) (sym R.table) ∙ (O.sound.lines a.set a.way full).maps R.valid

  pub reached_words : l.words ≡ f b
  reached_words = (O.sound.lines a.set a.way full).words

  module _ (x : ℕ) (wr : is_write r.value ≡ true) where
    abbrev g : Blocks
    g = put_block f b (set (f b) r.word x)

    abbrev p' : Processor
    p' = stored p a.set a.way r.word x

    abbrev y : REntry
    y = with_child (entry_at p h k) (marked_dirty (entry_at p h k).child)

    pr : Present (entry_at p h k)
    pr = rplace_present T f p O a.set a.way full

    pv : (entry_at p h k).state ≡ Private
    pv = R.own wr

    ok : ProcOk (translate a.at.table p.process.0) g p'
    ok = store T f p O g a.set a.way r.word x full pv (sym (put_here f b (set (f b) r.word x))) (λ z n. sym (put_else f b (set (f b) r.word x) z n))

    m : But (entry_at p) (entry_at p') h k y
    m = but_present T f p O h k y pr

    sub : Sub p p'
    sub = sub_but p p' h k y m (λ z. record { here = pr; block = refl; priv = λ q. q })

    or_true : (c : Bool) → (c || true) ≡ true
    or_true true = refl
    or_true false = refl

    marked_is : modified y ≡ true
    marked_is = rw (O.sound.lines a.set a.way full).up (or_true (entry_at p h k).rdirty)

    pub write_inv : Inv a.at.cpus a.at.table g a.at.mem (set a.at.procs i p')
    write_inv = inv_set a.at.cpus a.at.table f g a.at.mem a.at.mem a.at.procs i p' lt' R.inv ok
        (λ j ne s w q. sym (put_else f b (set (f b) r.word x) (entry_at (proc_at a.at.procs j) s w).block.0 (λ e. R.inv.apart i j (λ z. ne (sym z)) h k s w pv q (sym e))))
        (λ s w pv' j ne t u q e. let c = sub s w (private_present (entry_at p' s w) pv') in R.inv.apart i j (λ z. ne (sym z)) s w t u (c.priv pv') q (sym c.block ∙ sym e))
        (λ s w q j ne t u pv' e. let c = sub s w q in R.inv.apart j i ne t u s w pv' c.here (e ∙ c.block))
        (λ z c o. memo z c o (ℕ_discrete z b))
      where
        memo : (z : ℕ) → Clean p' z → ((j : ℕ) → (j ≡ i → ⊥) → Clean (proc_at a.at.procs j) z) → Dec (z ≡ b) → a.at.mem z ≡ g z
        memo z c o (yes e) = absurd (clash (sym (ap modified (sym m.same) ∙ c h k (rw m.same pr) (ap (λ (n : REntry). n.block.0) m.same ∙ sym e)) ∙ marked_is))
        memo z c o (no n) = R.inv.memory z (λ j. at j (ℕ_discrete j i)) ∙ sym (put_else f b (set (f b) r.word x) z n)
          where
            at : (j : ℕ) → Dec (j ≡ i) → Clean (proc_at a.at.procs j) z
            at j (yes e) = subst (λ (q : ℕ). Clean (proc_at a.at.procs q) z) (sym e) (clean_but p p' h k y m z (λ q. n (sym q)) c)
            at j (no ne) = o j ne

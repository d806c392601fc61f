-- Steps 3 to 5 at one processor: the line that a reference lands on.
use Rattle.std.proofs.Common.{◌≡◌, ℕ, ◌%◌, ◌<◌, Bool, true, false, eqb, ltb, get_or, Some, None, Option, sym, refl, ap, ◌∙◌, subst, arith, eq-eqb, ne_eqb}
use native.Mathlib.Decide.{ℕ_discrete}
use Rattle.rules.specs.Sizes.{v_sets, v_ways, r_sets, page_blocks}
use Rattle.tables.specs.declared.types.LineState.{LineState}
use Rattle.tables.specs.declared.types.LineState.TheVariants.{Empty, Valid, Swapped}
use Rattle.tables.specs.declared.types.Child.TheVariants.{NoChild, At}
use Rattle.tables.specs.declared.types.Place.{Place}
use Rattle.tables.specs.declared.types.VLine.{VLine}
use Rattle.tables.specs.declared.types.Processor.{Processor}
use Rattle.std.proofs.lemmas.Bool.{lt-ltb, ltb-true}
use Rattle.replacement.specs.Sizes.{ways}
use Rattle.rules.specs.Basic.{with_default, first_below, flags}
use Rattle.rules.specs.Rule.{Rule, Lawful}
use Rattle.rules.specs.Cache.{line_at, entry_at, put_line, put_entry, is_empty, is_valid, v_way, free_line, free_line_by, free_filled, no_line, unlinked, filled, moved, retagged, v_used, v_loaded, r_used, vdirty_of}
use Rattle.rules.specs.Bus.{Blocks}
use Rattle.rules.specs.Calls.{Attached, attach, attach_same}
use Rattle.rules.specs.Invariant.{Filled, Present, placed}
use Rattle.rules.specs.Sound.{ProcOk}
use Rattle.rules.proofs.Cells.{nil_at, but_line, shaped_line, shaped_entry}
use Rattle.rules.proofs.Sizes.{v_set_in, v_ways_few, v_ways_pos, choice_passes}
use Rattle.rules.proofs.Change.{Is, is_at, is_same}
use Rattle.rules.proofs.Ops.{present_range, filled_range, rplace_present, child_line, free_line_lem, fill, retag, move}
use Rattle.rules.proofs.Whole.{Same, same_refl, same_trans}
use Rattle.rules.proofs.Steps.{but_present, go_same, fill_same, move_same}
use Rattle.rules.proofs.Seek.{first_some}

-- only the tables count
pub ok_tables : (T : ℕ → Option ℕ) (f : Blocks) (p p' : Processor) → p'.v ≡ p.v → p'.r ≡ p.r → p'.counts ≡ p.counts → ProcOk T f p → ProcOk T f p'
ok_tables T f p p' ev er ec o = record {
  shaped = record { v_rows = rw ev o.shaped.v_rows; r_rows = rw er o.shaped.r_rows; v_sets = rw ev o.shaped.v_sets; r_sets = rw er o.shaped.r_sets };
  sound = rw (ev, er) o.sound;
  tally = rw (er, ec) o.tally;
}

-- the way that is freed
pub v_way_range : (ru : Rule) (p : Processor) (s : ℕ) → Lawful ru → v_way ru p s < v_ways
v_way_range ru p s law = go (first_below v_ways (λ w. is_empty (line_at p s w).state)) refl
  where
    go : (o : Option ℕ) → first_below v_ways (λ w. is_empty (line_at p s w).state) ≡ o → with_default o (ru.choice (get_or p.vrule s 0) (flags ways (λ w. ltb w v_ways))) < v_ways
    go None e =
        let few = v_ways_few in
        let pos = v_ways_pos in
        ltb-true (ru.choice (get_or p.vrule s 0) (flags ways (λ w. ltb w v_ways))) v_ways
        (choice_passes ru law (get_or p.vrule s 0) (λ w. ltb w v_ways) 0 (omega arith) (lt-ltb 0 v_ways pos))
    go (Some w) e = (first_some v_ways (λ w. is_empty (line_at p s w).state) w e).0

module _ (T : ℕ → Option ℕ) (f : Blocks) (p : Processor) (O : ProcOk T f p) where
  -- what a line's going leaves
  pub free_line_empty : (s u : ℕ) → s < v_sets → u < v_ways → is_empty (line_at (free_line p s u) s u).state ≡ true
  free_line_empty s u ls lu = go (line_at p s u).state refl
    where
      full : Filled (line_at p s u) → is_empty (line_at (free_filled p s u (line_at p s u)) s u).state ≡ true
      full fl =
          let l = line_at p s u in
          let h = l.rplace.set in
          let k = l.rplace.way in
          let y = unlinked (entry_at p h k) l in
          let r = present_range T f p O h k (rplace_present T f p O s u fl) in
          rw (but_line (put_entry p h k y) s u no_line (shaped_entry p h k y O.shaped r.0) ls lu).same

      go : (c : LineState) → (line_at p s u).state ≡ c → is_empty (line_at (free_line_by c p s u (line_at p s u)) s u).state ≡ true
      go Empty e = rw e
      go Valid e = full (rw e)
      go Swapped e = full (rw e)

  pub free_line_child : (s u h k : ℕ) → (Is (entry_at p h k).child s u → ⊥) → (entry_at (free_line p s u) h k).child ≡ (entry_at p h k).child
  free_line_child s u h k ni = go (line_at p s u).state refl
    where
      full : Filled (line_at p s u) → (entry_at (free_filled p s u (line_at p s u)) h k).child ≡ (entry_at p h k).child
      full fl =
          let l = line_at p s u in
          let a = l.rplace.set in
          let b = l.rplace.way in
          let m = but_present T f p O a b (unlinked (entry_at p a b) l) (rplace_present T f p O s u fl) in
          rw (m.other h k (λ e. ni (is_at (entry_at p h k).child (placed s u) l.dirty (rw (e.0, e.1) (O.sound.lines s u fl).up))))

      go : (c : LineState) → (line_at p s u).state ≡ c → (entry_at (free_line_by c p s u (line_at p s u)) h k).child ≡ (entry_at p h k).child
      go Empty e = refl
      go Valid e = full (rw e)
      go Swapped e = full (rw e)

  pub free_line_process : (s u : ℕ) → (free_line p s u).process.0 ≡ p.process.0
  free_line_process s u = go (line_at p s u).state
    where
      go : (c : LineState) → (free_line_by c p s u (line_at p s u)).process.0 ≡ p.process.0
      go Empty = refl
      go Valid = refl
      go Swapped = refl

-- the line at (s, u) is valid, under the tag g, of the entry at (h, k)
pub record OnLine (p : Processor) (s u g h k : ℕ) : Type 0 where
  pub valid : is_valid (line_at p s u).state ≡ true
  pub tag : (line_at p s u).tag.0 ≡ g
  pub rplace : (line_at p s u).rplace ≡ placed h k

pub record AttachOk (T : ℕ → Option ℕ) (f : Blocks) (p : Processor) (vb h k : ℕ) (a : Attached) : Type 0 where
  pub ok : ProcOk T f a.cpu
  pub same : Same p a.cpu
  pub line : OnLine a.cpu (vb % v_sets) a.way vb h k
  pub process : a.cpu.process.0 ≡ p.process.0

module _ (T : ℕ → Option ℕ) (f : Blocks) (rv rr : Rule) (law : Lawful rv) (p : Processor) (O : ProcOk T f p) (vb h k : ℕ)
    (pr : Present (entry_at p h k)) (tr : T vb ≡ Some (entry_at p h k).block.0) (fits : vb % v_sets % page_blocks ≡ h % page_blocks) where
  s : ℕ
  s = vb % v_sets

  s_range : vb % v_sets < v_sets
  s_range = v_set_in vb

  -- room was made in the V-set, and the entry is as it was
  module _ (u : ℕ) (lu : u < v_ways) where
    room_here : Present (entry_at (free_line p (vb % v_sets) u) h k)
    room_here = rw (go_same T f p O (vb % v_sets) u h k).state pr

    room_tr : T vb ≡ Some (entry_at (free_line p (vb % v_sets) u) h k).block.0
    room_tr = rw (go_same T f p O (vb % v_sets) u h k).block tr

  pub attach_fill : (b : ℕ) → b % r_sets ≡ h → (entry_at p h k).child ≡ NoChild → AttachOk T f p vb h k (attach NoChild rv rr p vb b k)
  attach_fill b eb nil = rw eb (
      let u = v_way rv p (vb % v_sets) in
      let lu = v_way_range rv p (vb % v_sets) law in
      let p₁ = free_line p (vb % v_sets) u in
      let O₁ = free_line_lem T f p O (vb % v_sets) u in
      let n₁ : (entry_at p₁ h k).child ≡ NoChild = free_line_child T f p O (vb % v_sets) u h k (λ i. nil_at (entry_at p h k).child (placed (vb % v_sets) u) (vdirty_of (entry_at p h k).child) nil i) ∙ nil in
      let pr₁ = room_here u lu in
      let p₂ = filled p₁ (vb % v_sets) u h k vb in
      let O₂ = fill T f p₁ O₁ (vb % v_sets) u h k vb s_range lu (free_line_empty T f p O (vb % v_sets) u s_range lu) pr₁ n₁ (room_tr u lu) fits in
      let x : VLine = record { state = Valid; tag = record { 0 = vb }; words = (entry_at p₁ h k).words; dirty = false; rplace = placed h k } in
      let e : line_at p₂ (vb % v_sets) u ≡ x = (but_line p₁ (vb % v_sets) u x O₁.shaped s_range lu).same in
      record {
        ok = ok_tables T f p₂ (r_used rr (v_loaded rv p₂ (vb % v_sets) u) h k) refl refl refl O₂;
        same = same_trans p p₁ p₂ (go_same T f p O (vb % v_sets) u) (fill_same T f p₁ O₁ (vb % v_sets) u h k vb pr₁ n₁);
        line = record { valid = ap (λ (z : VLine). is_valid z.state) e; tag = ap (λ (z : VLine). z.tag.0) e; rplace = ap (λ (z : VLine). z.rplace) e };
        process = free_line_process T f p O (vb % v_sets) u;
      })

  pub attach_at : (b : ℕ) (q : Place) (d : Bool) → b % r_sets ≡ h → (entry_at p h k).child ≡ At q d → AttachOk T f p vb h k (attach (At q d) rv rr p vb b k)
  attach_at b q d eb child_is = go (ℕ_discrete q.set (vb % v_sets))
    where
      go : Dec (q.set ≡ vb % v_sets) → AttachOk T f p vb h k (attach_same (eqb q.set (vb % v_sets)) rv rr p vb q.set q.way b k)
      go (yes e) = rw (eq-eqb q.set (vb % v_sets) e) (
          let l = line_at p q.set q.way in
          let nl = child_line T f p O h k q d child_is in
          let v = filled_range T f p O q.set q.way nl.full in
          let p₁ = put_line p q.set q.way (retagged l vb) in
          let x : line_at p₁ q.set q.way ≡ retagged l vb = (but_line p q.set q.way (retagged l vb) O.shaped v.0 v.1).same in
          let x' : line_at p₁ (vb % v_sets) q.way ≡ retagged l vb = subst (λ (z : ℕ). line_at p₁ z q.way ≡ retagged l vb) e x in
          record {
            ok = ok_tables T f p₁ (r_used rr (v_used rv p₁ q.set q.way) (b % r_sets) k) refl refl refl (retag T f p O h k vb q d child_is tr);
            same = same_refl p;
            line = record { valid = ap (λ (z : VLine). is_valid z.state) x'; tag = ap (λ (z : VLine). z.tag.0) x'; rplace = ap (λ (z : VLine). z.rplace) x' ∙ nl.rplace };
            process = refl;
          })
      go (no ne) = rw (ne_eqb q.set (vb % v_sets) ne, eb) (
          let u = v_way rv p (vb % v_sets) in
          let lu = v_way_range rv p (vb % v_sets) law in
          let p₁ = free_line p (vb % v_sets) u in
          let O₁ = free_line_lem T f p O (vb % v_sets) u in
          let n₁ : (entry_at p₁ h k).child ≡ At q d = free_line_child T f p O (vb % v_sets) u h k (λ i. ne (sym (is_same (entry_at p h k).child q d (vb % v_sets) u child_is i).0)) ∙ child_is in
          let pr₁ = room_here u lu in
          let l = line_at p₁ q.set q.way in
          let nl = child_line T f p₁ O₁ h k q d n₁ in
          let v = filled_range T f p₁ O₁ q.set q.way nl.full in
          let p₂ = moved p₁ q.set q.way (vb % v_sets) u h k vb in
          let O₂ = move T f p₁ O₁ h k vb q d (vb % v_sets) u n₁ s_range lu (free_line_empty T f p O (vb % v_sets) u s_range lu) (room_tr u lu) fits in
          let e : line_at p₂ (vb % v_sets) u ≡ retagged l vb = (but_line (put_line p₁ q.set q.way no_line) (vb % v_sets) u (retagged l vb) (shaped_line p₁ q.set q.way no_line O₁.shaped v.0) s_range lu).same in
          record {
            ok = ok_tables T f p₂ (r_used rr (v_loaded rv p₂ (vb % v_sets) u) h k) refl refl refl O₂;
            same = same_trans p p₁ p₂ (go_same T f p O (vb % v_sets) u) (move_same T f p₁ O₁ q.set q.way (vb % v_sets) u h k vb pr₁);
            line = record { valid = ap (λ (z : VLine). is_valid z.state) e; tag = ap (λ (z : VLine). z.tag.0) e; rplace = ap (λ (z : VLine). z.rplace) e ∙ nl.rplace };
            process = free_line_process T f p O (vb % v_sets) u;
          })

-- One turn of the loops over the processors, and a fetch from its two passes.
-- ps are the records when a pass begins, bs those of the board by now, and rs those past the board.
use Rattle.std.proofs.Common.{◌≡◌, ℕ, ◌+◌, ◌-◌, ◌^◌, ◌<◌, Bool, true, false, List, ◌++◌, length, take, min, set, sym, refl, ap, ◌∙◌, subst, add-one, arith}
use Rattle.std.proofs.lemmas.Bool.{eq-eqb, ne_eqb}
use Rattle.std.proofs.lemmas.List.{get_or_append_left, length-take, set-append_left, set-get_or}
use Rattle.memory.specs.declared.memory.Memory as memories
use Rattle.tables.specs.declared.types.Processor.{Processor}
use Rattle.rules.specs.Cache.{r_find}
use Rattle.rules.specs.Bus.{Passed, memory, no_processor, noted_by, proc_at, read_pass, read_skip, seen_by, shared_by, take_by, take_pass, take_skip}
use Rattle.rules.specs.Calls.{Board, snooped_by}
use Rattle.caches.specs.Ranged.{Ranged}
use Rattle.bus.specs.declared.pass.Shared.{Shared}
use Rattle.bus.specs.Passes.{Fetches, Shares, Snoopable, Turns, fetch_pass, passed_of, start_of, taken_by}
use Rattle.bus.proofs.Keeps.{read_rest, read_snoopable, take_rest}

module _ (n i own b : ℕ) (ps bs rs : List Processor) (in' : i < length bs) where
  put_left : (p : Processor) → set bs i p ++ rs ≡ set (bs ++ rs) i p
  put_left p = sym (set-append_left bs rs i p in')

  at_left : proc_at bs i ≡ proc_at (bs ++ rs) i
  at_left = sym (get_or_append_left bs rs no_processor i in')

  same_left : set bs i (proc_at bs i) ++ rs ≡ bs ++ rs
  same_left = ap (λ (z : List Processor). z ++ rs) (set-get_or bs i no_processor)

  -- the sender is not asked
  pub take_skipped : i ≡ own → (Snoopable n ps → bs ++ rs ≡ take_pass i own b ps) → Snoopable n ps → set bs i (proc_at bs i) ++ rs ≡ take_pass (i + 1) own b ps
  take_skipped e h sn =
      same_left ∙ h sn ∙ sym (ap (λ t. take_skip t b i (take_pass i own b ps)) (eq-eqb i own e)) ∙ sym (ap (λ k. take_pass k own b ps) (add-one i))

  -- any other processor takes
  pub take_turn : (p : Processor) → i < n → (i ≡ own → ⊥)
      → (Ranged (proc_at bs i) → (proc_at bs i).counts.invalidated < 2 ^ 32 - 1 → p ≡ take_by (r_find (proc_at bs i) b) b (proc_at bs i))
      → (Snoopable n ps → bs ++ rs ≡ take_pass i own b ps) → Snoopable n ps → set bs i p ++ rs ≡ take_pass (i + 1) own b ps
  take_turn p lt ne step h sn =
      let e = h sn in
      let k : proc_at bs i ≡ proc_at ps i = at_left ∙ ap (λ (z : List Processor). proc_at z i) e ∙ take_rest i own b ps i (omega arith) in
      let x = step (subst Ranged (sym k) (sn.ranged i lt)) (subst (λ (z : Processor). z.counts.invalidated < 2 ^ 32 - 1) (sym k) (sn.room i lt)) in
      put_left p
      ∙ ap (set (bs ++ rs) i) (x ∙ ap (λ (z : Processor). take_by (r_find z b) b z) at_left)
      ∙ ap (take_skip false b i) e
      ∙ sym (ap (λ t. take_skip t b i (take_pass i own b ps)) (ne_eqb i own ne))
      ∙ sym (ap (λ k. take_pass k own b ps) (add-one i))

  module _ {S : Type 0} (s : memories.Ghosts S) (x y : S) (r : Shared) (h : Snoopable n ps → s.sound x → b < s.count x → Shares s i own b ps (bs ++ rs) x y r) where
    pub share_skipped : i ≡ own → Snoopable n ps → s.sound x → b < s.count x → Shares s (i + 1) own b ps (set bs i (proc_at bs i) ++ rs) x y r
    share_skipped e sn so lb =
        let H = h sn so lb in
        record {
          sound = H.sound;
          count = H.count;
          pass =
              ap (λ (z : List Processor). passed_of s z y r) same_left
              ∙ H.pass
              ∙ sym (ap (λ t. read_skip t b i (read_pass i own b (start_of s ps x))) (eq-eqb i own e))
              ∙ sym (ap (λ k. read_pass k own b (start_of s ps x)) (add-one i));
        }

    pub share_turn : (p : Processor) (z : S) (t : Shared) → i < n → (i ≡ own → ⊥)
        → (Ranged (proc_at bs i) → s.sound y → b < s.count y → Turns s i b (proc_at bs i) p y z r t)
        → Snoopable n ps → s.sound x → b < s.count x → Shares s (i + 1) own b ps (set bs i p ++ rs) x z t
    share_turn p z t lt ne step sn so lb =
        let H = h sn so lb in
        let k : proc_at bs i ≡ proc_at ps i = at_left ∙ ap (λ (q : Passed). proc_at q.procs i) H.pass ∙ read_rest i own b (start_of s ps x) i (omega arith) in
        let T = step (subst Ranged (sym k) (sn.ranged i lt)) H.sound (subst (λ (c : ℕ). b < c) (sym H.count) lb) in
        record {
          sound = T.sound;
          count = T.count ∙ H.count;
          pass =
              ap (λ (us : List Processor). passed_of s us z t) (put_left p ∙ ap (set (bs ++ rs) i) T.processor)
              ∙ T.pass (bs ++ rs) (set (bs ++ rs) i (shared_by (r_find (proc_at bs i) b) b (proc_at bs i)))
              ∙ ap (λ (q : Processor). noted_by (seen_by (r_find q b) b q) b i (set (bs ++ rs) i (shared_by (r_find q b) b q)) (passed_of s (bs ++ rs) y r)) at_left
              ∙ ap (read_skip false b i) H.pass
              ∙ sym (ap (λ t. read_skip t b i (read_pass i own b (start_of s ps x))) (ne_eqb i own ne))
              ∙ sym (ap (λ k. read_pass k own b (start_of s ps x)) (add-one i));
        }

-- the board's records are the first m of four, where n of them can see a message
pub board_long : (n m : ℕ) (ps : List Processor) → m ≡ min n 4 → length ps ≡ 4 → Snoopable n ps → length (take m ps) ≡ n
board_long n m ps em lp sn = omega (arith, em, lp, sn.few, length-take m ps)

module _ {S : Type 0} (s : memories.Ghosts S) where
  pub fetch_taken : (t : Bool) (n sender b : ℕ) (ps qs us : List Processor) (x y : S) (r : Shared) → t ≡ true
      → (Snoopable n ps → s.sound x → b < s.count x → Shares s n sender b ps qs x y r)
      → (Snoopable n qs → us ≡ take_pass n sender b qs)
      → Snoopable n ps → s.sound x → b < s.count x → Fetches s t n sender b ps us x y r
  fetch_taken t n sender b ps qs us x y r et h take sn so lb =
      let H = h sn so lb in
      let k : Snoopable n qs = subst (λ (q : Passed). Snoopable n q.procs) (sym H.pass) (read_snoopable n n sender b (start_of s ps x) sn) in
      record {
        sound = H.sound;
        count = H.count;
        pass =
            ap (λ (z : List Processor). passed_of s z y r) (take k)
            ∙ ap (taken_by true n sender b) H.pass
            ∙ sym (ap (λ z. fetch_pass z n sender b (start_of s ps x)) et);
      }

-- the pass of a fetch is that of the rules
pub fetch_snooped : (t : Bool) (i b : ℕ) (st : Board) → snooped_by t i b st ≡ fetch_pass t st.cpus i b (record { procs = st.procs; mem = st.mem; supplier = memory; acked = false })
fetch_snooped false i b st = refl
fetch_snooped true i b st = refl

-- Every call keeps what holds of a board and its history, and so every run keeps the laws.
use Rattle.std.proofs.Common.{◌≡◌, ℕ, zero, suc, ◌+◌, ◌/◌, ◌%◌, ◌<◌, ◌≤◌, Bool, true, false, ◌||◌, eqb, ltb, leb, List, [], ◌∷◌, ◌++◌, length, get_or, set, Some, None, Option, sym, refl, ap, ◌∙◌, subst, arith, length-set, get_or-set_other, get_or-set_same, eq-eqb, ne_eqb, leb-false}
use native.Mathlib.Decide.{ℕ_discrete, dec_lt}
use borrow.Author.Tests.{clash}
use Rattle.std.proofs.lemmas.Bool.{ltb-false, eqb-true}
use Rattle.base.specs.Sizes.{addresses, block_words, frames, pages, processes}
use Rattle.tables.specs.declared.types.Processor.{Processor}
use Rattle.tables.specs.declared.types.Child.TheVariants.{At}
use Rattle.rules.specs.Sizes.{most_accepted, most_processors, page_blocks}
use Rattle.rules.specs.Basic.{pick}
use Rattle.rules.specs.Rule.{Lawful}
use Rattle.rules.specs.Cache.{v_find, line_at, entry_at, stored, swap_all, is_absent}
use Rattle.rules.specs.Bus.{Blocks, Passed, device, memory, put_block, proc_at, read_pass, modified}
use Rattle.rules.specs.Calls.{Board, Rules, Answer, Ref, cpu_at, made, reference, refer, make_ref, ref_number, v_number, frame_number, frame_of, reach, full_number, or_next, or_else, device_read_by, device_number, device_write_by, switch_by, switch_number, remap_by, remap_number, put_frame, setup_number, take_number, take_bus, release_number, release_bus, tenured, told, line_number, entry_number, counts_number}
use Rattle.rules.specs.Run.{Call, reading, writing, switching, entering, erasing, taking, releasing, device_reading, device_writing, line_reading, entry_reading, counts_reading, perform}
use Rattle.rules.specs.Sound.{ProcOk, Inv, InvOf, translate}
use Rattle.rules.specs.Invariant.{Present, placed}
use Rattle.rules.specs.History.{Event, Read, Wrote, Switched, Entered, Erased, DeviceHadRead, DeviceWrote, Nothing, History, Latest, Setup, event, accepted, fetched_in, fetches_in, physical_block, process_at, table_at, word_in}
use Rattle.rules.specs.Laws.{Past, begun, called, Laws, Tied, LawsOfRuns, ReadsAnswerLatestWrites, CachesPointAtEachOther, ModifiedBlocksHeldOnce, FetchedBlocksAccounted}
use Rattle.rules.proofs.Passes.{put_here, put_else, read_pass_lem}
use Rattle.rules.proofs.Cells.{same_place, empty_filled}
use Rattle.rules.proofs.Ops.{unique, rplace_present}
use Rattle.rules.proofs.Whole.{runs_set, put_same, put_other}
use Rattle.rules.proofs.Hits.{ReachOk}
use Rattle.rules.proofs.Refs.{reach_ok, reached_block, reached_words, write_inv}
use Rattle.rules.proofs.Others.{switch_inv, remap_inv, remap_runs, device_read_lem, device_write_lem, device_runs, new_inv, new_process}
use Rattle.rules.proofs.Latest.{latest, stored_at, word_at}
use Rattle.rules.proofs.Fetched.{fetched_of, Fetches, reach_fetches, read_level, set_level, take_level, remap_level, new_fetched}

none_more : (n : ℕ) → n ≡ 0 + n
none_more n = omega arith

-- what a number of 0 says
pub or_next_lem : (a b : ℕ) → or_next a b ≡ 0 → (a ≡ 0) × (b ≡ 0)
or_next_lem zero b e = (refl, e)
or_next_lem (suc a) b e = let z : ⊥ = omega arith in absurd z

pub or_else_lem : (c : Bool) (a b : ℕ) → or_else c (suc a) b ≡ 0 → (c ≡ false) × (b ≡ 0)
or_else_lem true a b e = let z : ⊥ = omega arith in absurd z
or_else_lem false a b e = (refl, e)

pub full_sound : (st : Board) → full_number st ≡ 0 → st.setup ≡ 0
full_sound st e = (or_next_lem st.setup (pick (leb most_accepted st.accepted) 3 0) e).0

pub record Accepted (st : Board) (i : ℕ) (r : Ref) : Type 0 where
  pub sound : st.setup ≡ 0
  pub cpu : i < st.cpus
  pub frame : v_find (cpu_at st i) r.vb ≡ None → (fr : ℕ) × (frame_of st r ≡ Some fr)

pub accepts : (st : Board) (i a : ℕ) (r : Ref) → ref_number st i a r ≡ 0 → Accepted st i r
accepts st i a r e =
    let x = or_next_lem (full_number st) (or_else (leb st.cpus i) 4 (or_else (leb addresses a) 5 (v_number (v_find (cpu_at st i) r.vb) st r))) e in
    let y = or_else_lem (leb st.cpus i) 3 (or_else (leb addresses a) 5 (v_number (v_find (cpu_at st i) r.vb) st r)) x.1 in
    let z = or_else_lem (leb addresses a) 4 (v_number (v_find (cpu_at st i) r.vb) st r) y.1 in
    record { sound = full_sound st x.0; cpu = leb-false st.cpus i y.0; frame = λ n. framed (frame_of st r) (subst (λ (o : Option ℕ). v_number o st r ≡ 0) n z.1) refl }
  where
    framed : (o : Option ℕ) → frame_number (frame_of st r) st r ≡ 0 → frame_of st r ≡ o → (fr : ℕ) × (frame_of st r ≡ Some fr)
    framed (Some fr) h q = (fr, q)
    framed None h q = let w : frame_number None st r ≡ 0 = rw q at h in let z : ⊥ = omega arith in absurd z

-- a transfer that is taken: the machine was set up, and a slice has a block's words
pub record Transfers (st : Board) (k : ℕ) : Type 0 where
  pub sound : st.setup ≡ 0
  pub four : k ≡ block_words

pub transfers : (st : Board) (t b k : ℕ) → device_number st t b k ≡ 0 → Transfers st k
transfers st t b k e =
    let x = or_next_lem (full_number st) (or_next (pick (tenured st t) 0 11) (or_else (leb st.count b) 12 (pick (eqb k block_words) 0 13))) e in
    let y = or_next_lem (pick (tenured st t) 0 11) (or_else (leb st.count b) 12 (pick (eqb k block_words) 0 13)) x.1 in
    let z = or_else_lem (leb st.count b) 11 (pick (eqb k block_words) 0 13) y.1 in
    record { sound = full_sound st x.0; four = go (eqb k block_words) refl z.1 }
  where
    go : (c : Bool) → eqb k block_words ≡ c → ◌≡◌ {A = ℕ} (pick c 0 13) 0 → k ≡ block_words
    go true q w = eqb-true k block_words q
    go false q w = let z : ⊥ = omega arith in absurd z

-- the board is sound with some reading of the blocks, which is that of the history's writes; its frames, its processes
-- and its fetched counts are the history's
pub record Fine (s : Setup) (h : History) (st : Board) : Type 0 where
  pub f : Blocks
  pub inv : st.setup ≡ 0 → InvOf st f
  pub few : st.setup ≡ 0 → st.cpus ≤ most_processors
  pub four : (b : ℕ) → length (f b) ≡ block_words
  pub agrees : (b k : ℕ) → k < block_words → get_or (f b) k 0 ≡ word_at s h (word_in b k)
  pub table : st.table ≡ table_at s h
  pub owner : (i : ℕ) → (cpu_at st i).process.0 ≡ process_at h i
  pub tally : (i : ℕ) → fetched_of st.procs i ≡ fetched_in i h

-- what is said of an event by what was before it
abbrev pub Said : Setup → Event → History → Type 0
Said s (Read i a r) h = (b : ℕ) × (physical_block s h i a ≡ Some b) × Latest s h (word_in b (a % block_words)) r.word
Said s (Wrote i a x r) h = (b : ℕ) × (physical_block s h i a ≡ Some b)
Said s (Switched i q) h = Unit {0}
Said s (Entered q g f) h = Unit {0}
Said s (Erased q g) h = Unit {0}
Said s (DeviceHadRead b r) h = (length r.block ≡ block_words) × ((k : ℕ) → k < block_words → Latest s h (word_in b k) (get_or r.block k 0))
Said s (DeviceWrote b ws r) h = Unit {0}
Said s Nothing h = Unit {0}

abbrev pub AllSaid : Setup → History → Type 0
AllSaid s [] = Unit {0}
AllSaid s (e ∷ h) = Said s e h × AllSaid s h

pub record Next (s : Setup) (h : History) (e : Event) (st : Board) : Type 0 where
  pub fine : Fine s (e ∷ h) st
  pub said : Said s e h

four_put : (f : Blocks) (b : ℕ) (xs : List ℕ) → length xs ≡ block_words → ((c : ℕ) → length (f c) ≡ block_words) → (c : ℕ) → length (put_block f b xs c) ≡ block_words
four_put f b xs lx h c = go (ℕ_discrete c b)
  where
    go : Dec (c ≡ b) → length (put_block f b xs c) ≡ block_words
    go (yes z) = rw z (ap length (put_here f b xs) ∙ lx)
    go (no nz) = ap length (put_else f b xs c nz) ∙ h c

-- one word written
agrees_word : (f : Blocks) (g : ℕ → ℕ) (b a x : ℕ) → length (f b) ≡ block_words → ((c j : ℕ) → j < block_words → get_or (f c) j 0 ≡ g (word_in c j))
    → (c j : ℕ) → j < block_words → get_or (put_block f b (set (f b) (a % block_words) x) c) j 0 ≡ pick (eqb (word_in c j) (word_in b (a % block_words))) x (g (word_in c j))
agrees_word f g b a x len ag c j lj = go (ℕ_discrete c b) (ℕ_discrete j k)
  where
    k : ℕ
    k = a % block_words

    go : Dec (c ≡ b) → Dec (j ≡ a % block_words) → get_or (put_block f b (set (f b) (a % block_words) x) c) j 0 ≡ pick (eqb (word_in c j) (word_in b (a % block_words))) x (g (word_in c j))
    go (yes z) (yes y) =
        let same : word_in c j ≡ word_in b (a % block_words) = omega arith in
        let lt : a % block_words < length (f b) = omega arith in
        rw (eq-eqb (word_in c j) (word_in b (a % block_words)) same) (ap (λ q. get_or (put_block f b (set (f b) (a % block_words) x) q) j 0) z ∙ ap (λ q. get_or q j 0) (put_here f b (set (f b) (a % block_words) x)) ∙ ap (λ q. get_or (set (f b) (a % block_words) x) q 0) y ∙ get_or-set_same (f b) (a % block_words) x 0 lt)
    go (yes z) (no ny) =
        let n : word_in c j ≡ word_in b (a % block_words) → ⊥ = λ e. ny (omega arith) in
        rw (ne_eqb (word_in c j) (word_in b (a % block_words)) n) (ap (λ q. get_or (put_block f b (set (f b) (a % block_words) x) q) j 0) z ∙ ap (λ q. get_or q j 0) (put_here f b (set (f b) (a % block_words) x)) ∙ get_or-set_other (f b) (a % block_words) j x 0 ny ∙ ap (λ q. get_or (f q) j 0) (sym z) ∙ ag c j lj)
    go (no nz) y =
        let n : word_in c j ≡ word_in b (a % block_words) → ⊥ = λ e. nz (omega arith) in
        rw (ne_eqb (word_in c j) (word_in b (a % block_words)) n) (ap (λ z. get_or z j 0) (put_else f b (set (f b) (a % block_words) x) c nz) ∙ ag c j lj)

-- a block written
agrees_block : (f : Blocks) (g : ℕ → ℕ) (b : ℕ) (xs : List ℕ) → ((c j : ℕ) → j < block_words → get_or (f c) j 0 ≡ g (word_in c j))
    → (c j : ℕ) → j < block_words → get_or (put_block f b xs c) j 0 ≡ pick (eqb (word_in c j / block_words) b) (get_or xs (word_in c j % block_words) 0) (g (word_in c j))
agrees_block f g b xs ag c j lj = go (ℕ_discrete c b)
  where
    q : word_in c j / block_words ≡ c
    q = omega arith

    r : word_in c j % block_words ≡ j
    r = omega arith

    go : Dec (c ≡ b) → get_or (put_block f b xs c) j 0 ≡ pick (eqb (word_in c j / block_words) b) (get_or xs (word_in c j % block_words) 0) (g (word_in c j))
    go (yes z) = rw (eq-eqb (word_in c j / block_words) b (q ∙ z)) (ap (λ w. get_or (put_block f b xs w) j 0) z ∙ ap (λ w. get_or w j 0) (put_here f b xs) ∙ ap (λ w. get_or xs w 0) (sym r))
    go (no nz) = rw (ne_eqb (word_in c j / block_words) b (λ e. nz (sym q ∙ e))) (ap (λ w. get_or w j 0) (put_else f b xs c nz) ∙ ag c j lj)

module _ (rs : Rules) (lawV : Lawful rs.for_v) (lawR : Lawful rs.for_r) (s : Setup) (h : History) (st : Board) (F : Fine s h st) where
  nothing_next : Next s h Nothing st
  nothing_next = record { fine = record { f = F.f; inv = F.inv; few = F.few; four = F.four; agrees = F.agrees; table = F.table; owner = F.owner; tally = λ i. F.tally i ∙ none_more (fetched_in i h) }; said = tt }

  -- a board that differs in whether the bus is held
  held_next : (st' : Board) → st'.procs ≡ st.procs → st'.cpus ≡ st.cpus → st'.mem ≡ st.mem → st'.table ≡ st.table → st'.setup ≡ st.setup → Next s h Nothing st'
  held_next st' ps cs ms ts ss = record {
    fine = record {
      f = F.f;
      inv = λ z. rw (ps, cs, ms, ts) (F.inv (sym ss ∙ z));
      few = λ z. rw cs (F.few (sym ss ∙ z));
      four = F.four;
      agrees = F.agrees;
      table = ts ∙ F.table;
      owner = λ i. ap (λ (x : List Processor). (proc_at x i).process.0) ps ∙ F.owner i;
      tally = λ i. ap (λ (x : List Processor). fetched_of x i) ps ∙ F.tally i ∙ none_more (fetched_in i h);
    };
    said = tt;
  }

  told_block : (i a : ℕ) → physical_block s h i a ≡ translate st.table (cpu_at st i).process.0 (a / block_words)
  told_block i a = ap {B = Option ℕ} (λ (t : ℕ → ℕ → Option ℕ). translate t (process_at h i) (a / block_words)) (sym F.table) ∙ ap {B = Option ℕ} (λ q. translate st.table q (a / block_words)) (sym (F.owner i))

  reach_at : (i a : ℕ) (v : Option ℕ) → Accepted st i (make_ref i a v) → ReachOk F.f st (make_ref i a v) (reach rs st (make_ref i a v))
  reach_at i a v A = reach_ok F.f rs lawV lawR st (make_ref i a v) (F.inv A.sound) A.cpu A.frame

  counts_at : (i a : ℕ) (v : Option ℕ) → Accepted st i (make_ref i a v) → Fetches st (reach rs st (make_ref i a v))
  counts_at i a v A = let le = (F.inv A.sound).few in let lt = A.cpu in reach_fetches rs st (make_ref i a v) (omega arith)

  pub read_next : (i a : ℕ) → Next s h (event (reading i a) (reference rs st i a None)) (reference rs st i a None).after
  read_next i a = go (ref_number st i a (make_ref i a None)) refl
    where
      go : (n : ℕ) → ref_number st i a (make_ref i a None) ≡ n → Next s h (event (reading i a) (refer n rs st (make_ref i a None))) (refer n rs st (make_ref i a None)).after
      go (suc n) e = nothing_next
      go zero e =
          let r = make_ref i a None in
          let A = accepts st i a r e in
          let R = reach_at i a None A in
          let at = reach rs st r in
          let p = cpu_at at.at i in
          let l = line_at p at.set at.way in
          let b = (entry_at p l.rplace.set l.rplace.way).block.0 in
          record {
            fine = record {
              f = F.f;
              inv = λ z. R.inv;
              few = λ z. rw R.cpus (F.few A.sound);
              four = F.four;
              agrees = F.agrees;
              table = R.table ∙ F.table;
              owner = λ j. R.runs j ∙ F.owner j;
              tally = λ j. counts_at i a None A j ∙ ap (λ n. fetches_in j at.sent + n) (F.tally j);
            };
            said = (
              b,
              told_block i a ∙ reached_block F.f st r at R A.cpu,
              subst (Latest s h (word_in b (a % block_words))) (sym (ap (λ q. get_or q (a % block_words) 0) (reached_words F.f st r at R A.cpu) ∙ F.agrees b (a % block_words) (omega arith))) (latest s h (word_in b (a % block_words))),
            );
          }

  pub write_next : (i a x : ℕ) → Next s h (event (writing i a x) (reference rs st i a (Some x))) (reference rs st i a (Some x)).after
  write_next i a x = go (ref_number st i a (make_ref i a (Some x))) refl
    where
      long : {n m k : ℕ} → n ≡ m → i < m → n ≤ k → i < k
      long e l le = omega arith

      go : (n : ℕ) → ref_number st i a (make_ref i a (Some x)) ≡ n → Next s h (event (writing i a x) (refer n rs st (make_ref i a (Some x)))) (refer n rs st (make_ref i a (Some x))).after
      go (suc n) e = nothing_next
      go zero e =
          let r = make_ref i a (Some x) in
          let A = accepts st i a r e in
          let R = reach_at i a (Some x) A in
          let at = reach rs st r in
          let p = cpu_at at.at i in
          let l = line_at p at.set at.way in
          let b = (entry_at p l.rplace.set l.rplace.way).block.0 in
          let t = told_block i a ∙ reached_block F.f st r at R A.cpu in
          let lx : length (set (F.f b) (a % block_words) x) ≡ block_words = length-set (F.f b) (a % block_words) x ∙ F.four b in
          let lt : i < length at.at.procs = long R.cpus A.cpu R.inv.few in
          record {
            fine = record {
              f = put_block F.f b (set (F.f b) (a % block_words) x);
              inv = λ z. write_inv F.f st r at R A.cpu x refl;
              few = λ z. rw R.cpus (F.few A.sound);
              four = four_put F.f b (set (F.f b) (a % block_words) x) lx F.four;
              agrees = λ c j lj. agrees_word F.f (word_at s h) b a x (F.four b) F.agrees c j lj ∙ sym (ap (λ (o : Option ℕ). stored_at s o a x (word_at s h) (word_in c j)) t);
              table = R.table ∙ F.table;
              owner = λ j. runs_set at.at.procs i (stored p at.set at.way (a % block_words) x) lt refl j ∙ R.runs j ∙ F.owner j;
              tally = λ j. set_level at.at.procs i (stored p at.set at.way (a % block_words) x) refl j ∙ counts_at i a (Some x) A j ∙ ap (λ n. fetches_in j at.sent + n) (F.tally j);
            };
            said = (b, t);
          }

  pub switch_next : (i q : ℕ) → Next s h (event (switching i q) (switch_by (switch_number st i q) st i q)) (switch_by (switch_number st i q) st i q).after
  switch_next i q = go (switch_number st i q) refl
    where
      own : i < length st.procs → (j : ℕ) → Dec (j ≡ i) → (proc_at (set st.procs i (swap_all (cpu_at st i) q)) j).process.0 ≡ pick (eqb j i) q (process_at h j)
      own long j (yes z) = rw (eq-eqb j i z, z) (ap (λ (p : Processor). p.process.0) (put_same st.procs i (swap_all (cpu_at st i) q) long))
      own long j (no n) = rw (ne_eqb j i n) (ap (λ (p : Processor). p.process.0) (put_other st.procs i (swap_all (cpu_at st i) q) long j n) ∙ F.owner j)

      go : (n : ℕ) → switch_number st i q ≡ n → Next s h (event (switching i q) (switch_by n st i q)) (switch_by n st i q).after
      go (suc n) e = nothing_next
      go zero e =
          let x = or_next_lem (full_number st) (or_else (leb st.cpus i) 4 (pick (leb processes q) 9 0)) e in
          let y = or_else_lem (leb st.cpus i) 3 (pick (leb processes q) 9 0) x.1 in
          let z = full_sound st x.0 in
          let lt = leb-false st.cpus i y.0 in
          let long : i < length st.procs = omega (arith, (F.inv z).few) in
          record {
            fine = record {
              f = F.f;
              inv = λ _. switch_inv F.f st i q (F.inv z) lt;
              few = F.few;
              four = F.four;
              agrees = F.agrees;
              table = F.table;
              owner = λ j. own long j (ℕ_discrete j i);
              tally = λ j. set_level st.procs i (swap_all (cpu_at st i) q) refl j ∙ F.tally j ∙ none_more (fetched_in j h);
            };
            said = tt;
          }

  remap_next : (q g k : ℕ) (o : Option ℕ) (c : Call) (e : Event) → ((r : Answer) → accepted c r ≡ e) → table_at s (e ∷ h) ≡ put_frame (table_at s h) q g o → ((i : ℕ) → process_at (e ∷ h) i ≡ process_at h i)
      → ((n : ℕ) → word_at s (e ∷ h) n ≡ word_at s h n) → ((i : ℕ) → fetched_in i (e ∷ h) ≡ fetched_in i h) → Said s e h
      → Next s h (event c (remap_by (remap_number st q g k) st q g o)) (remap_by (remap_number st q g k) st q g o).after
  remap_next q g k o c e is te pe we fe sd = go (remap_number st q g k) refl
    where
      go : (n : ℕ) → remap_number st q g k ≡ n → Next s h (event c (remap_by n st q g o)) (remap_by n st q g o).after
      go (suc n) z = nothing_next
      go zero z =
          let x = or_next_lem (full_number st) (pick (leb processes q || leb pages g || leb frames k) 9 0) z in
          let y = full_sound st x.0 in
          subst (λ (v : Event). Next s h v (remap_by 0 st q g o).after) (sym (is _)) (record {
            fine = record {
              f = F.f;
              inv = λ _. remap_inv F.f st q g o (F.inv y);
              few = F.few;
              four = F.four;
              agrees = λ b j l. F.agrees b j l ∙ sym (we (word_in b j));
              table = ap {B = ℕ → ℕ → Option ℕ} (λ (t : ℕ → ℕ → Option ℕ). put_frame t q g o) F.table ∙ sym te;
              owner = λ i. remap_runs F.f st q g o (F.inv y) i ∙ F.owner i ∙ sym (pe i);
              tally = λ i. remap_level q g st.procs i ∙ F.tally i ∙ sym (fe i);
            };
            said = sd;
          })

  pub take_next : Next s h (event taking (take_bus (take_number st) st)) (take_bus (take_number st) st).after
  take_next = go (take_number st)
    where
      go : (n : ℕ) → Next s h (event taking (take_bus n st)) (take_bus n st).after
      go (suc n) = nothing_next
      go zero = held_next _ refl refl refl refl refl

  pub release_next : (t : ℕ) → Next s h (event (releasing t) (release_bus (release_number st t) st)) (release_bus (release_number st t) st).after
  release_next t = go (release_number st t)
    where
      go : (n : ℕ) → Next s h (event (releasing t) (release_bus n st)) (release_bus n st).after
      go (suc n) = nothing_next
      go zero = held_next _ refl refl refl refl refl

  pub device_read_next : (t b k : ℕ) → Next s h (event (device_reading t b k) (device_read_by (device_number st t b k) st b)) (device_read_by (device_number st t b k) st b).after
  device_read_next t b k = go (device_number st t b k) refl
    where
      go : (n : ℕ) → device_number st t b k ≡ n → Next s h (event (device_reading t b k) (device_read_by n st b)) (device_read_by n st b).after
      go (suc n) e = nothing_next
      go zero e =
          let z = (transfers st t b k e).sound in
          let few = F.few z in
          let q₀ : Passed = record { procs = st.procs; mem = st.mem; supplier = memory; acked = false } in
          let r = read_pass_lem st.cpus st.table F.f b st.cpus device q₀ (omega arith) (F.inv z) in
          let w = (device_read_lem F.f st b (read_pass st.cpus device b q₀) (F.inv z) (omega arith) refl).1 in
          record {
            fine = record {
              f = F.f;
              inv = λ _. r.inv;
              few = λ _. few;
              four = F.four;
              agrees = F.agrees;
              table = F.table;
              owner = λ i. r.runs i ∙ F.owner i;
              tally = λ i. read_level st.cpus device b q₀ i ∙ F.tally i ∙ none_more (fetched_in i h);
            };
            said = (
              ap length w ∙ F.four b,
              λ j lj. subst (Latest s h (word_in b j)) (sym (ap (λ x. get_or x j 0) w ∙ F.agrees b j lj)) (latest s h (word_in b j)),
            );
          }

  pub device_write_next : (t b : ℕ) (xs : List ℕ) → Next s h (event (device_writing t b xs) (device_write_by (device_number st t b (length xs)) st b xs)) (device_write_by (device_number st t b (length xs)) st b xs).after
  device_write_next t b xs = go (device_number st t b (length xs)) refl
    where
      go : (n : ℕ) → device_number st t b (length xs) ≡ n → Next s h (event (device_writing t b xs) (device_write_by n st b xs)) (device_write_by n st b xs).after
      go (suc n) e = nothing_next
      go zero e =
          let y = transfers st t b (length xs) e in
          let z = y.sound in
          let few = F.few z in
          record {
            fine = record {
              f = put_block F.f b xs;
              inv = λ _. device_write_lem F.f st b xs (F.inv z) (omega arith);
              few = λ _. few;
              four = four_put F.f b xs y.four F.four;
              agrees = agrees_block F.f (word_at s h) b xs F.agrees;
              table = F.table;
              owner = λ i. device_runs F.f st b (F.inv z) i ∙ F.owner i;
              tally = λ i. take_level st.cpus device b st.procs i ∙ F.tally i ∙ none_more (fetched_in i h);
            };
            said = tt;
          }

  told_next : (c : Call) (n : ℕ) → ((r : Answer) → accepted c r ≡ Nothing) → Next s h (event c (told n st)) st
  told_next c zero e = subst (λ (v : Event). Next s h v st) (sym (e _)) nothing_next
  told_next c (suc n) e = nothing_next

  pub call_next : (c : Call) → Next s h (event c (perform rs c st)) (perform rs c st).after
  call_next (reading i a) = read_next i a
  call_next (writing i a x) = write_next i a x
  call_next (switching i q) = switch_next i q
  call_next (entering q g k) = remap_next q g k (Some k) (entering q g k) (Entered q g k) (λ r. refl) refl (λ i. refl) (λ n. refl) (λ i. sym (none_more (fetched_in i h))) tt
  call_next (erasing q g) = remap_next q g 0 None (erasing q g) (Erased q g) (λ r. refl) refl (λ i. refl) (λ n. refl) (λ i. sym (none_more (fetched_in i h))) tt
  call_next taking = take_next
  call_next (releasing t) = release_next t
  call_next (device_reading t b k) = device_read_next t b k
  call_next (device_writing t b ws) = device_write_next t b ws
  call_next (line_reading i a w) = told_next (line_reading i a w) (line_number st i a w) (λ r. refl)
  call_next (entry_reading i a w) = told_next (entry_reading i a w) (entry_number st i a w) (λ r. refl)
  call_next (counts_reading i) = told_next (counts_reading i) (counts_number st i) (λ r. refl)

made_fine : (rs : Rules) (n id : ℕ) (m : Blocks) (c : ℕ) (t : ℕ → ℕ → Option ℕ) → ((b : ℕ) → length (m b) ≡ block_words) → Fine (record { table = t; blocks = m }) [] (made rs n id m c t)
made_fine rs n id m c t four = record {
  f = m;
  inv = λ z. new_inv rs.for_v rs.for_r n t m (small z);
  few = small;
  four = four;
  agrees = λ b k l. let q : word_in b k / block_words ≡ b = omega arith in let r : word_in b k % block_words ≡ k = omega arith in rw (q, r);
  table = refl;
  owner = new_process rs.for_v rs.for_r;
  tally = new_fetched rs.for_v rs.for_r;
}
  where
    or_false : (a b : Bool) → (a || b) ≡ false → b ≡ false
    or_false true b e = absurd (clash (sym e))
    or_false false b e = e

    small : setup_number n c ≡ 0 → n ≤ most_processors
    small z =
        let x = or_else_lem (leb n 0 || ltb most_processors n) 0 (pick (eqb c 0 || leb 1 (c % page_blocks)) 2 0) z in
        ltb-false most_processors n (or_false (leb n 0) (ltb most_processors n) x.0)

-- what holds after every run
pub record Held (s : Setup) (h : History) (st : Board) : Type 0 where
  pub fine : Fine s h st
  pub said : AllSaid s h

pub past_held : (rs : Rules) → Lawful rs.for_v → Lawful rs.for_r → (s : Setup) (h : History) (st : Board) → Past rs s h st → Held s h st
past_held rs lv lr s h st (begun n id m c t four) = record { fine = made_fine rs n id m c t four; said = tt }
past_held rs lv lr s h st (called {h = g} {b = b} c p) =
    let H = past_held rs lv lr s g b p in
    let N = call_next rs lv lr s g b H.fine c in
    record { fine = N.fine; said = (N.said, H.said) }

-- of an event anywhere in a history
said_at : (s : Setup) (later earlier : History) (e : Event) → AllSaid s (later ++ (e ∷ earlier)) → Said s e earlier
said_at s [] earlier e a = a.0
said_at s (x ∷ later) earlier e a = said_at s later earlier e a.1

tied : (T : ℕ → Option ℕ) (f : Blocks) (p : Processor) → ProcOk T f p → Tied p
tied T f p O = record {
  child = λ s w fl. (O.sound.lines s w fl).up;
  no_other = λ s w a b d fl e. sym (O.sound.children a b (placed s w) d e).rplace;
  filled = λ a b q d e. (O.sound.children a b q d e).full;
  one_line = λ s w t u fl fm e.
      let x = unique T f p O (line_at p s w).rplace.set (line_at p s w).rplace.way (line_at p t u).rplace.set (line_at p t u).rplace.way (rplace_present T f p O s w fl) (rplace_present T f p O t u fm) e in
      let xs = x.0 in
      let xw = x.1 in
      let k = (O.sound.lines s w fl).up in
      let k' : (entry_at p (line_at p t u).rplace.set (line_at p t u).rplace.way).child ≡ At (placed s w) (line_at p s w).dirty = subst (λ (z : ℕ). (entry_at p (line_at p t u).rplace.set z).child ≡ At (placed s w) (line_at p s w).dirty) xw (subst (λ (z : ℕ). (entry_at p z (line_at p s w).rplace.way).child ≡ At (placed s w) (line_at p s w).dirty) xs k) in
      let y = same_place (placed s w) (placed t u) (line_at p s w).dirty (line_at p t u).dirty (sym k' ∙ (O.sound.lines t u fm).up) in
      let ys = y.0 in
      let yw = y.1 in
      rw (ys, yw);
}

alone : (n : ℕ) (table : ℕ → ℕ → Option ℕ) (f mem : Blocks) (ps : List Processor) → Inv n table f mem ps → (i j : ℕ) → (i ≡ j → ⊥) → (s w t u : ℕ) → Present (entry_at (proc_at ps i) s w) → modified (entry_at (proc_at ps i) s w) ≡ true
    → Present (entry_at (proc_at ps j) t u) → (entry_at (proc_at ps i) s w).block.0 ≡ (entry_at (proc_at ps j) t u).block.0 → ⊥
alone n table f mem ps I i j ne s w t u pr d qr e = go (dec_lt i n)
  where
    go : Dec (i < n) → ⊥
    go (yes l) = I.apart i j ne s w t u (((I.each i l).sound.ents s w pr).own d) qr e
    go (no l) = empty_filled (is_absent (entry_at (proc_at ps i) s w).state) (I.idle i s w (omega arith)) pr

pub held_laws : (s : Setup) (h : History) (st : Board) → Held s h st → Laws s h st
held_laws s h st H =
    let F = H.fine in
    record {
      reads = λ later earlier i a r e. said_at s later earlier (Read i a r) (subst (AllSaid s) e H.said);
      writes = λ later earlier i a x r e. said_at s later earlier (Wrote i a x r) (subst (AllSaid s) e H.said);
      devices = λ later earlier b r e. said_at s later earlier (DeviceHadRead b r) (subst (AllSaid s) e H.said);
      tied = λ z i l. tied (translate st.table (cpu_at st i).process.0) F.f (cpu_at st i) ((F.inv z).each i l);
      alone = λ z. alone st.cpus st.table F.f st.mem st.procs (F.inv z);
      counts = λ z i l. record { balance = ((F.inv z).each i l).tally; fetched = F.tally i };
    }

pub laws_of_runs : LawsOfRuns
laws_of_runs rs lv lr s h b p = held_laws s h b (past_held rs lv lr s h b p)

pub reads_answer_latest_writes : ReadsAnswerLatestWrites
reads_answer_latest_writes rs lv lr s h b p = let L = laws_of_runs rs lv lr s h b p in (L.reads, L.writes, L.devices)

pub caches_point_at_each_other : CachesPointAtEachOther
caches_point_at_each_other rs lv lr s h b p = (laws_of_runs rs lv lr s h b p).tied

pub modified_blocks_held_once : ModifiedBlocksHeldOnce
modified_blocks_held_once rs lv lr s h b p = (laws_of_runs rs lv lr s h b p).alone

pub fetched_blocks_accounted : FetchedBlocksAccounted
fetched_blocks_accounted rs lv lr s h b p = (laws_of_runs rs lv lr s h b p).counts

-- Listings print the latest writes: a history read off records and lines gives the same processes, frames and words as
-- that of the calls, whose answers are fuller and which has further events that store nothing.
use Rattle.std.proofs.Common.{◌≡◌, ℕ, zero, suc, ◌+◌, ◌/◌, ◌%◌, Bool, true, false, eqb, List, [], ◌∷◌, ◌++◌, get_or, Some, None, Option, sym, refl, ap, ◌∙◌, subst, arith, eq-eqb}
use Rattle.std.proofs.lemmas.List.{append-nil}
use Rattle.std.proofs.lemmas.Bool.{eqb-true}
use Rattle.base.specs.Sizes.{block_words, most_blocks}
use Rattle.lines.specs.declared.line.Line.{Line}
use Rattle.records.specs.declared.record.Record.{Record}
use Rattle.records.specs.declared.record.Record.TheVariants.{Read, Write, Switch, Enter, Erase, DeviceRead, DeviceWrite}
use Rattle.records.specs.declared.fault.FormatFault.{FormatFault}
use Rattle.replacement.specs.Choices.{oldest_lawful}
use Rattle.rules.specs.Sizes.{most_processors}
use Rattle.rules.specs.Basic.{pick}
use Rattle.rules.specs.Rule.{Lawful, lru}
use Rattle.rules.specs.Cache.{zeros}
use Rattle.rules.specs.Calls.{Answer, Board, Rules, device_number, device_read_by, put_frame, release, take}
use Rattle.rules.specs.Run.{Call, reading, writing, switching, entering, erasing, taking, releasing, device_reading, device_writing, perform}
use Rattle.rules.specs.Sound.{translate}
use Rattle.rules.specs.History.{Event, Read as HadRead, Wrote, Switched, Entered, Erased, DeviceHadRead, DeviceWrote, Nothing, History, Latest, written, at_setup, Setup, Stores, accepted, event, event_by, first_word, physical_block, process_at, table_at, word_in}
use Rattle.rules.specs.Laws.{Past, begun}
use Rattle.rules.specs.Exhibit.{fresh_setup}
use Rattle.rules.specs.Listing.{fresh, line_of, lines_from, lru_rules, no_frames, played, transfer_by, transferred, zero_blocks}
use Rattle.rules.specs.Printed.{ListingsPrintLatestWrites, Prints, PrintsLatest, did, done, done_by}
use Rattle.rules.proofs.Latest.{latest, stored_at, word_at}
use Rattle.rules.proofs.Runs.{Fine, Said, call_next, past_held}

module _ (s : Setup) where
  -- an event that stores a word leaves it as the latest
  stores_word : (e : Event) (h : History) (n v : ℕ) → Stores s e h n v → v ≡ word_at s (e ∷ h) n
  stores_word (HadRead i a r) h n v st = absurd st
  stores_word (Wrote i a x r) h n v st = rw (st.1, eq-eqb n (word_in st.0 (a % block_words)) st.2) st.3
  stores_word (Switched i q) h n v st = absurd st
  stores_word (Entered q g f) h n v st = absurd st
  stores_word (Erased q g) h n v st = absurd st
  stores_word (DeviceHadRead b r) h n v st = absurd st
  stores_word (DeviceWrote b ws r) h n v st =
      let k = st.0 in
      let l = st.1 in
      let m = st.2 in
      let q : n / block_words ≡ b = omega arith in
      let j : k ≡ n % block_words = omega arith in
      rw (eq-eqb (n / block_words) b q) (st.3 ∙ ap (λ (z : ℕ). get_or ws z 0) j)
  stores_word Nothing h n v st = absurd st

  -- an event that stores nothing at a word keeps the latest
  keeps_word : (e : Event) (h : History) (n : ℕ) → ((w : ℕ) → Stores s e h n w → ⊥) → word_at s (e ∷ h) n ≡ word_at s h n
  keeps_word (HadRead i a r) h n no_store = refl
  keeps_word (Wrote i a x r) h n no_store = go (physical_block s h i a) refl
    where
      same : (b : ℕ) → physical_block s h i a ≡ Some b → (t : Bool) → eqb n (word_in b (a % block_words)) ≡ t → pick t x (word_at s h n) ≡ word_at s h n
      same b e true q = absurd (no_store x (b, e, eqb-true n (word_in b (a % block_words)) q, refl))
      same b e false q = refl

      go : (o : Option ℕ) → physical_block s h i a ≡ o → stored_at s o a x (word_at s h) n ≡ word_at s h n
      go None e = refl
      go (Some b) e = same b e (eqb n (word_in b (a % block_words))) refl
  keeps_word (Switched i q) h n no_store = refl
  keeps_word (Entered q g f) h n no_store = refl
  keeps_word (Erased q g) h n no_store = refl
  keeps_word (DeviceHadRead b r) h n no_store = refl
  keeps_word (DeviceWrote b ws r) h n no_store = go (eqb (n / block_words) b) refl
    where
      go : (t : Bool) → eqb (n / block_words) b ≡ t → pick t (get_or ws (n % block_words) 0) (word_at s h n) ≡ word_at s h n
      go true q = let d = eqb-true (n / block_words) b q in absurd (no_store (get_or ws (n % block_words) 0) (n % block_words, omega arith, omega arith, refl))
      go false q = refl
  keeps_word Nothing h n no_store = refl

  -- the relation of the laws holds of one word alone
  pub latest_word : (h : History) (n v : ℕ) → Latest s h n v → v ≡ word_at s h n
  latest_word [] n v (written [] older e q st un) = cc
  latest_word [] n v (written (y ∷ newer) older e q st un) = cc
  latest_word [] n v (at_setup un q) = q
  latest_word (x ∷ h) n v (written [] older e q st un) =
      let a : e ≡ x = cc in
      let b : older ≡ h = cc in
      stores_word x h n v (subst (λ (z : Event). Stores s z h n v) a (subst (λ (z : History). Stores s e z n v) b st))
  latest_word (x ∷ h) n v (written (y ∷ newer) older e q st un) =
      let a : y ≡ x = cc in
      let b : h ≡ newer ++ (e ∷ older) = cc in
      let not_here : (w : ℕ) → Stores s x h n w → ⊥ = subst (λ (z : Event). (w : ℕ) → Stores s z h n w → ⊥) a (subst (λ (z : History). (w : ℕ) → Stores s y z n w → ⊥) (sym b) un.0) in
      latest_word h n v (written newer older e b st un.1) ∙ sym (keeps_word x h n not_here)
  latest_word (x ∷ h) n v (at_setup un q) =
      let not_here : (w : ℕ) → Stores s x h n w → ⊥ = subst (λ (z : History). (w : ℕ) → Stores s x z n w → ⊥) (append-nil h) un.0 in
      latest_word h n v (at_setup un.1 q) ∙ sym (keeps_word x h n not_here)

-- two histories with the same processes, frames and words
pub record Alike (s : Setup) (h g : History) : Type 0 where
  pub process : (i : ℕ) → process_at h i ≡ process_at g i
  pub table : table_at s h ≡ table_at s g
  pub word : (n : ℕ) → word_at s h n ≡ word_at s g n

-- the call of a record; a device's transfer under the tenure t
abbrev pub call_of : Record → ℕ → Call
call_of (Read i a) t = reading i.0 a
call_of (Write i a x) t = writing i.0 a x
call_of (Switch i q) t = switching i.0 q.0
call_of (Enter q g f) t = entering q.0 g.0 f.0
call_of (Erase q g) t = erasing q.0 g.0
call_of (DeviceRead b) t = device_reading t b.0 block_words
call_of (DeviceWrite b ws) t = device_writing t b.0 ws

-- the word of an answer that a record's line has to show
abbrev pub word_for : Record → Answer → ℕ
word_for (Read i a) x = x.word
word_for (Write i a v) x = x.word
word_for (Switch i q) x = x.word
word_for (Enter q g f) x = x.word
word_for (Erase q g) x = x.word
word_for (DeviceRead b) x = get_or x.block 0 0
word_for (DeviceWrite b ws) x = x.word

module _ (s : Setup) (h g : History) (A : Alike s h g) where
  alike_block : (i a : ℕ) → physical_block s h i a ≡ physical_block s g i a
  alike_block i a = ap {B = Option ℕ} (λ (t : ℕ → ℕ → Option ℕ). translate t (process_at h i) (a / block_words)) A.table ∙ ap {B = Option ℕ} (λ (q : ℕ). translate (table_at s g) q (a / block_words)) (A.process i)

  alike_latest : (n v : ℕ) → Latest s h n v → Latest s g n v
  alike_latest n v l = subst (Latest s g n) (sym (latest_word s h n v l ∙ A.word n)) (latest s g n)

  -- an event that does nothing, on one side
  alike_idle : (e : Event) → e ≡ Nothing → Alike s (e ∷ h) g
  alike_idle e q = subst (λ (z : Event). Alike s (z ∷ h) g) (sym q) (record { process = A.process; table = A.table; word = A.word })

  alike_refused : Alike s (Nothing ∷ h) (Nothing ∷ g)
  alike_refused = record { process = A.process; table = A.table; word = A.word }

  alike_stored : (i a x n : ℕ) → stored_at s (physical_block s h i a) a x (word_at s h) n ≡ stored_at s (physical_block s g i a) a x (word_at s g) n
  alike_stored i a x n = ap {B = ℕ} (λ (o : Option ℕ). stored_at s o a x (word_at s h) n) (alike_block i a) ∙ go (physical_block s g i a)
    where
      go : (o : Option ℕ) → stored_at s o a x (word_at s h) n ≡ stored_at s o a x (word_at s g) n
      go None = A.word n
      go (Some b) = ap (λ (z : ℕ). pick (eqb n (word_in b (a % block_words))) x z) (A.word n)

  -- a record accepted, as its call and as its line has it
  alike_done : (r : Record) (t : ℕ) (x : Answer) (l : Line) → Alike s (accepted (call_of r t) x ∷ h) (done r l ∷ g)
  alike_done (Read i a) t x l = record { process = A.process; table = A.table; word = A.word }
  alike_done (Write i a v) t x l = record { process = A.process; table = A.table; word = alike_stored i.0 a v }
  alike_done (Switch i q) t x l = record { process = λ j. ap (λ (z : ℕ). pick (eqb j i.0) q.0 z) (A.process j); table = A.table; word = A.word }
  alike_done (Enter q p f) t x l = record { process = A.process; table = ap {B = ℕ → ℕ → Option ℕ} (λ (z : ℕ → ℕ → Option ℕ). put_frame z q.0 p.0 (Some f.0)) A.table; word = A.word }
  alike_done (Erase q p) t x l = record { process = A.process; table = ap {B = ℕ → ℕ → Option ℕ} (λ (z : ℕ → ℕ → Option ℕ). put_frame z q.0 p.0 None) A.table; word = A.word }
  alike_done (DeviceRead b) t x l = record { process = A.process; table = A.table; word = A.word }
  alike_done (DeviceWrite b ws) t x l = record { process = A.process; table = A.table; word = λ n. ap (λ (z : ℕ). pick (eqb (n / block_words) b.0) (get_or ws (n % block_words) 0) z) (A.word n) }

  alike_did : (r : Record) (t k : ℕ) (x : Answer) (l : Line) → Alike s (event_by k (call_of r t) x ∷ h) (done_by k (done r l) ∷ g)
  alike_did r t zero x l = alike_done r t x l
  alike_did r t (suc k) x l = alike_refused

  -- what is said of the call's event is said of the line
  prints_accepted : (r : Record) (t : ℕ) (x : Answer) (l : Line) → word_for r x ≡ l.word → Said s (accepted (call_of r t) x) h → Prints s g r l
  prints_accepted (Read i a) t x l w sd = λ z. (sd.0, sym (alike_block i.0 a) ∙ sd.1, subst (Latest s g (word_in sd.0 (a % block_words))) w (alike_latest (word_in sd.0 (a % block_words)) x.word sd.2))
  prints_accepted (Write i a v) t x l w sd = λ z. (sd.0, sym (alike_block i.0 a) ∙ sd.1)
  prints_accepted (Switch i q) t x l w sd = tt
  prints_accepted (Enter q p f) t x l w sd = tt
  prints_accepted (Erase q p) t x l w sd = tt
  prints_accepted (DeviceRead b) t x l w sd = λ z. subst (Latest s g (word_in b.0 0)) w (alike_latest (word_in b.0 0) (get_or x.block 0 0) (sd.1 0 (omega arith)))
  prints_accepted (DeviceWrite b ws) t x l w sd = tt

  prints_refused : (r : Record) (l : Line) (k : ℕ) → l.status ≡ suc k → Prints s g r l
  prints_refused (Read i a) l k e = λ z. let c : ⊥ = omega arith in absurd c
  prints_refused (Write i a v) l k e = λ z. let c : ⊥ = omega arith in absurd c
  prints_refused (Switch i q) l k e = tt
  prints_refused (Enter q p f) l k e = tt
  prints_refused (Erase q p) l k e = tt
  prints_refused (DeviceRead b) l k e = λ z. let c : ⊥ = omega arith in absurd c
  prints_refused (DeviceWrite b ws) l k e = tt

  prints_said : (r : Record) (t k : ℕ) (x : Answer) (l : Line) → l.status ≡ k → word_for r x ≡ l.word → Said s (event_by k (call_of r t) x) h → Prints s g r l
  prints_said r t zero x l e w sd = prints_accepted r t x l w sd
  prints_said r t (suc k) x l e w sd = prints_refused r l k e

-- a record played: its line prints the latest writes, and the board after it has a history alike to that of the lines
pub record Shows (s : Setup) (g : History) (r : Record) (l : Line) (st : Board) : Type 0 where
  pub prints : Prints s g r l
  pub history : History
  pub fine : Fine s history st
  pub alike : Alike s history (did r l ∷ g)

pub take_idle : (k : ℕ) (x : Answer) → event_by k taking x ≡ Nothing
take_idle zero x = refl
take_idle (suc k) x = refl

pub release_idle : (k t : ℕ) (x : Answer) → event_by k (releasing t) x ≡ Nothing
release_idle zero t x = refl
release_idle (suc k) t x = refl

device_word : (k : ℕ) (st : Board) (b : ℕ) → get_or (device_read_by k st b).answer.block 0 0 ≡ (device_read_by k st b).answer.word
device_word zero st b = refl
device_word (suc k) st b = refl

module _ (rs : Rules) (lawV : Lawful rs.for_v) (lawR : Lawful rs.for_r) (s : Setup) where
  -- a record's own call
  by_call : (h : History) (st : Board) → Fine s h st → (g : History) → Alike s h g → (r : Record) (t n : ℕ) → word_for r (perform rs (call_of r t) st).answer ≡ (perform rs (call_of r t) st).answer.word
      → Shows s g r (line_of n (perform rs (call_of r t) st)) (perform rs (call_of r t) st).after
  by_call h st F g A r t n w =
      let p = perform rs (call_of r t) st in
      let N = call_next rs lawV lawR s h st F (call_of r t) in
      record { prints = prints_said s h g A r t p.number p.answer (line_of n p) refl w N.said; history = event (call_of r t) p ∷ h; fine = N.fine; alike = alike_did s h g A r t p.number p.answer (line_of n p) }

  -- a device record: the bus is taken, the block transferred, the bus released
  by_device : (h : History) (st : Board) → Fine s h st → (g : History) → Alike s h g → (r : Record) (n : ℕ) → ((b : Board) → word_for r (perform rs (call_of r b.number) b).answer ≡ (perform rs (call_of r b.number) b).answer.word)
      → Shows s g r (line_of n (transferred (λ b. perform rs (call_of r b.number) b) st)) (transferred (λ b. perform rs (call_of r b.number) b) st).after
  by_device h st F g A r n w = go (take st).number refl
    where
      go : (k : ℕ) → (take st).number ≡ k → Shows s g r (line_of n (transfer_by k (λ b. perform rs (call_of r b.number) b) (take st))) (transfer_by k (λ b. perform rs (call_of r b.number) b) (take st)).after
      go zero e =
          let b = (take st).after in
          let t = b.number in
          let p = perform rs (call_of r t) b in
          let h₁ = event taking (take st) ∷ h in
          let N = call_next rs lawV lawR s h st F taking in
          let D = by_call h₁ b N.fine g (alike_idle s h g A (event taking (take st)) (take_idle (take st).number (take st).answer)) r t n (w b) in
          let M = call_next rs lawV lawR s D.history p.after D.fine (releasing t) in
          let x = release p.after t in
          record { prints = D.prints; history = event (releasing t) x ∷ D.history; fine = M.fine; alike = alike_idle s D.history (did r (line_of n p) ∷ g) D.alike (event (releasing t) x) (release_idle x.number t x.answer) }
      go (suc k) e =
          let N = call_next rs lawV lawR s h st F taking in
          let l = line_of n (take st) in
          record {
            prints = prints_refused s h g A r l k e;
            history = event taking (take st) ∷ h;
            fine = N.fine;
            alike = subst (λ (z : ℕ). Alike s (event taking (take st) ∷ h) (done_by z (done r l) ∷ g)) (sym e) (subst (λ (z : Event). Alike s (z ∷ h) (Nothing ∷ g)) (sym (take_idle (take st).number (take st).answer)) (alike_refused s h g A));
          }

  record_shows : (h : History) (st : Board) → Fine s h st → (g : History) → Alike s h g → (r : Record) (n : ℕ) → Shows s g r (line_of n (played rs r st)) (played rs r st).after
  record_shows h st F g A (Read i a) n = by_call h st F g A (Read i a) 0 n refl
  record_shows h st F g A (Write i a x) n = by_call h st F g A (Write i a x) 0 n refl
  record_shows h st F g A (Switch i q) n = by_call h st F g A (Switch i q) 0 n refl
  record_shows h st F g A (Enter q p f) n = by_call h st F g A (Enter q p f) 0 n refl
  record_shows h st F g A (Erase q p) n = by_call h st F g A (Erase q p) 0 n refl
  record_shows h st F g A (DeviceRead b) n = by_device h st F g A (DeviceRead b) n (λ c. device_word (device_number c c.number b.0 block_words) c b.0)
  record_shows h st F g A (DeviceWrite b ws) n = by_device h st F g A (DeviceWrite b ws) n (λ c. refl)

  prints_fine : (more : List Record) (h : History) (st : Board) → Fine s h st → (g : History) → Alike s h g → (n : ℕ) (f : Option FormatFault) → PrintsLatest s g more (lines_from rs n st more f)
  prints_fine [] h st F g A n f = tt
  prints_fine (r ∷ more) h st F g A n f =
      let P = record_shows h st F g A r n in
      (P.prints, prints_fine more P.history (played rs r st).after P.fine (did r (line_of n (played rs r st)) ∷ g) P.alike (n + 1) f)

  -- from any board with a past, and any history alike to that past
  pub prints_latest : (more : List Record) (h : History) (st : Board) → Past rs s h st → (g : History) → Alike s h g → (n : ℕ) (f : Option FormatFault) → PrintsLatest s g more (lines_from rs n st more f)
  prints_latest more h st p g A n f = prints_fine more h st (past_held rs lawV lawR s h st p).fine g A n f

zeros_everywhere : (k : ℕ) → get_or zeros k 0 ≡ 0
zeros_everywhere zero = refl
zeros_everywhere (suc zero) = refl
zeros_everywhere (suc (suc zero)) = refl
zeros_everywhere (suc (suc (suc zero))) = refl
zeros_everywhere (suc (suc (suc (suc k)))) = refl

pub fresh_zero : (n : ℕ) → first_word fresh_setup n ≡ 0
fresh_zero n = zeros_everywhere (n % block_words)

lru_lawful : Lawful lru
lru_lawful = record { chosen = oldest_lawful }

pub listings_print_latest_writes : ListingsPrintLatestWrites
listings_print_latest_writes = record {
  zeros = fresh_zero;
  latest = λ t. prints_latest lru_rules lru_lawful lru_lawful fresh_setup t.records [] fresh (begun most_processors 0 zero_blocks most_blocks no_frames (λ b. refl)) [] (record { process = λ i. refl; table = refl; word = λ n. refl }) 0 t.fault;
}

-- The latest write to the word that is read back, from the history alone.
use Rattle.std.proofs.Common.{◌≡◌, ℕ, ◌%◌, Bool, eqb, [], ◌∷◌, ◌++◌, Some, Option, sym, refl, ap, ◌∙◌, arith, eq-eqb}
use Rattle.base.specs.Blocks.{block_of, page_of}
use Rattle.base.specs.Sizes.{block_words}
use Rattle.rules.specs.Basic.{pick}
use Rattle.rules.specs.Sizes.{page_blocks}
use Rattle.rules.specs.Calls.{Answer, physical, put_frame}
use Rattle.rules.specs.Sound.{physical_by}
use Rattle.rules.specs.History.{Read, Switched, Entered, History, Setup, physical_block, process_at, table_at, word_in}
use Rattle.rules.specs.Laws.{ReadsLatest}
use Rattle.rules.proofs.Latest.{stored_at, word_at}
use Rattle.rules.proofs.Printed.{latest_word}
use Rattle.client.specs.declared.two_pages.TwoPages.{TwoPages}
use Rattle.client.specs.Back.{SameWord, before_read}

-- the block of an address whose page is at the frame f
pub block_at : (u : Setup) (g : History) (i q f a : ℕ) → process_at g i ≡ q → table_at u g q (page_of (block_of a)) ≡ Some f → physical_block u g i a ≡ Some (physical f (block_of a))
unfolding page_blocks
block_at u g i q f a p t =
    ap {B = Option ℕ} (λ (z : ℕ). physical_by (table_at u g z (page_of (block_of a))) (block_of a)) p
    ∙ ap {B = Option ℕ} (λ (z : Option ℕ). physical_by z (block_of a)) t

-- a processor that went over to q runs q, and a page that was entered has its frame
went : (i q z : ℕ) → pick (eqb i i) q z ≡ q
went i q z = rw (eq-eqb i i refl) refl

entered : (t : ℕ → ℕ → Option ℕ) (q g : ℕ) (f : Option ℕ) → put_frame t q g f q g ≡ f
entered t q g f = rw (eq-eqb q q refl, eq-eqb g g refl) refl

-- a write to the block b is the latest write of its word
stored : (u : Setup) (o : Option ℕ) (a x n b : ℕ) (f : ℕ → ℕ) → o ≡ Some b → n ≡ word_in b (a % block_words) → stored_at u o a x f n ≡ x
stored u o a x n b f e m = ap (λ (z : Option ℕ). stored_at u z a x f n) e ∙ ap (λ (t : Bool). pick t x (f n)) (eq-eqb n (word_in b (a % block_words)) m)

-- two addresses of the same word of their pages, at one frame
same_word : (f c : ℕ) (at : TwoPages) → SameWord at → c ≡ physical f (block_of at.second) → word_in c (at.second % block_words) ≡ word_in (physical f (block_of at.first)) (at.first % block_words)
unfolding page_blocks
same_word f c at e d = omega arith

some : {b c : ℕ} → ◌≡◌ {A = Option ℕ} (Some b) (Some c) → b ≡ c
some e = cc

pub read_word : (u : Setup) (h : History) (i : ℕ) (at : TwoPages) (o x : ℕ) (wrote read : Answer) → ReadsLatest u (Read i at.second read ∷ (before_read i at o x wrote ++ h)) → SameWord at → read.word ≡ x
read_word u h i at o x wrote read L e =
    let q = at.process.0 in
    let f = at.frame.0 in
    let p = page_of (block_of at.first) in
    let n = page_of (block_of at.second) in
    let start : History = Switched i q ∷ Entered q p f ∷ h in
    let all : History = before_read i at o x wrote ++ h in
    let l = L [] all i at.second read refl in
    let there : physical_block u all i at.second ≡ Some (physical f (block_of at.second)) =
    block_at u all i q f at.second (went i q _) (entered (put_frame (table_at u h) q p (Some f)) q n (Some f)) in
    let here : physical_block u start i at.first ≡ Some (physical f (block_of at.first)) =
    block_at u start i q f at.first (went i q _) (entered (table_at u h) q p (Some f)) in
    let same = some (sym l.1 ∙ there) in
    latest_word u all (word_in l.0 (at.second % block_words)) read.word l.2
    ∙ stored u (physical_block u start i at.first) at.first x (word_in l.0 (at.second % block_words)) (physical f (block_of at.first)) (word_at u start) here
    (same_word f l.0 at e same)

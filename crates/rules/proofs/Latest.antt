-- The latest word at each physical word, computed from a history, stands in the relation of the laws.
use Rattle.std.proofs.Common.{◌≡◌, ℕ, ◌/◌, ◌%◌, Bool, true, false, eqb, List, [], ◌∷◌, get_or, Some, None, Option, sym, refl, ap, ◌∙◌, subst, arith}
use Rattle.std.proofs.lemmas.List.{append-nil}
use Rattle.std.proofs.lemmas.Bool.{eqb-true, eqb-false}
use Rattle.base.specs.Sizes.{block_words}
use Rattle.rules.specs.Basic.{pick}
use Rattle.rules.specs.Calls.{Answer}
use Rattle.rules.specs.History.{Event, Read, Wrote, Switched, Entered, Erased, DeviceHadRead, DeviceWrote, Nothing, History, Latest, written, at_setup, Setup, Stores, first_word, physical_block, word_in}

some_same : (o : Option ℕ) (b c : ℕ) → o ≡ Some b → o ≡ Some c → b ≡ c
some_same o b c d e = cc

none_some : (o : Option ℕ) (c : ℕ) → o ≡ None → o ≡ Some c → ⊥
none_some o c d e = let z : ◌≡◌ {A = ℕ} 0 1 = cc in omega arith

module _ (s : Setup) where
  abbrev pub stored_at : Option ℕ → ℕ → ℕ → (ℕ → ℕ) → ℕ → ℕ
  stored_at None a x f n = f n
  stored_at (Some b) a x f n = pick (eqb n (word_in b (a % block_words))) x (f n)

  abbrev pub word_at : History → ℕ → ℕ
  word_at [] n = first_word s n
  word_at (Read i a r ∷ h) n = word_at h n
  word_at (Wrote i a x r ∷ h) n = stored_at (physical_block s h i a) a x (word_at h) n
  word_at (Switched i q ∷ h) n = word_at h n
  word_at (Entered q g f ∷ h) n = word_at h n
  word_at (Erased q g ∷ h) n = word_at h n
  word_at (DeviceHadRead b r ∷ h) n = word_at h n
  word_at (DeviceWrote b ws r ∷ h) n = pick (eqb (n / block_words) b) (get_or ws (n % block_words) 0) (word_at h n)
  word_at (Nothing ∷ h) n = word_at h n

  -- an event that does not touch the word
  passed : (e : Event) (h : History) (n v : ℕ) → ((w : ℕ) → Stores s e h n w → ⊥) → Latest s h n v → Latest s (e ∷ h) n v
  passed e h n v not (written newer older x q st un) = written (e ∷ newer) older x (ap (λ (z : History). e ∷ z) q) st (subst (λ (z : History). (w : ℕ) → Stores s e z n w → ⊥) q not, un)
  passed e h n v not (at_setup un q) = at_setup (subst (λ (z : History). (w : ℕ) → Stores s e z n w → ⊥) (sym (append-nil h)) not, un) q

  newest : (e : Event) (h : History) (n v : ℕ) → Stores s e h n v → Latest s (e ∷ h) n v
  newest e h n v st = written [] h e refl st tt

  wrote : (i a x : ℕ) (r : Answer) (h : History) (n : ℕ) (o : Option ℕ) → physical_block s h i a ≡ o → Latest s h n (word_at h n) → Latest s (Wrote i a x r ∷ h) n (stored_at o a x (word_at h) n)
  wrote i a x r h n None e l = passed (Wrote i a x r) h n (word_at h n) (λ w st. none_some (physical_block s h i a) st.0 e st.1) l
  wrote i a x r h n (Some b) e l = go (eqb n (word_in b (a % block_words))) refl
    where
      go : (t : Bool) → eqb n (word_in b (a % block_words)) ≡ t → Latest s (Wrote i a x r ∷ h) n (pick t x (word_at h n))
      go true q = newest (Wrote i a x r) h n x (b, e, eqb-true n (word_in b (a % block_words)) q, refl)
      go false q = passed (Wrote i a x r) h n (word_at h n)
          (λ w st. eqb-false n (word_in b (a % block_words)) q (st.2 ∙ ap (λ (c : ℕ). word_in c (a % block_words)) (some_same (physical_block s h i a) st.0 b st.1 e))) l

  device_wrote : (b : ℕ) (ws : List ℕ) (r : Answer) (h : History) (n : ℕ) (t : Bool) → eqb (n / block_words) b ≡ t → Latest s h n (word_at h n) → Latest s (DeviceWrote b ws r ∷ h) n (pick t (get_or ws (n % block_words) 0) (word_at h n))
  device_wrote b ws r h n true q l =
      let d = eqb-true (n / block_words) b q in
      newest (DeviceWrote b ws r) h n (get_or ws (n % block_words) 0) (n % block_words, omega arith, omega arith, refl)
  device_wrote b ws r h n false q l =
      passed (DeviceWrote b ws r) h n (word_at h n) (λ w st. let k = st.1 in let m = st.2 in eqb-false (n / block_words) b q (omega arith)) l

  pub latest : (h : History) (n : ℕ) → Latest s h n (word_at h n)
  latest [] n = at_setup tt refl
  latest (Read i a r ∷ h) n = passed (Read i a r) h n (word_at h n) (λ w z. z) (latest h n)
  latest (Wrote i a x r ∷ h) n = wrote i a x r h n (physical_block s h i a) refl (latest h n)
  latest (Switched i q ∷ h) n = passed (Switched i q) h n (word_at h n) (λ w z. z) (latest h n)
  latest (Entered q g f ∷ h) n = passed (Entered q g f) h n (word_at h n) (λ w z. z) (latest h n)
  latest (Erased q g ∷ h) n = passed (Erased q g) h n (word_at h n) (λ w z. z) (latest h n)
  latest (DeviceHadRead b r ∷ h) n = passed (DeviceHadRead b r) h n (word_at h n) (λ w z. z) (latest h n)
  latest (DeviceWrote b ws r ∷ h) n = device_wrote b ws r h n (eqb (n / block_words) b) refl (latest h n)
  latest (Nothing ∷ h) n = passed Nothing h n (word_at h n) (λ w z. z) (latest h n)

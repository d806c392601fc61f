-- What a caller has of the calls of a machine, one after another.
use Rattle.std.proofs.Common.{◌≡◌, ℕ, zero, suc, ◌<◌, List, [], ◌∷◌, ◌++◌, Ok, Err, Result, IsErrAnd, sym, refl, ap, ◌∙◌, subst, arith}
use Rattle.std.specs.Result.{IsErr}
use Rattle.memory.specs.declared.memory.Memory as memories
use Rattle.paging.specs.declared.map.Map as maps
use Rattle.replacement.specs.declared.rule.Rule as replacements
use Rattle.faults.specs.declared.machine_fault.MachineFault.{MachineFault}
use Rattle.faults.specs.MachineFaults.{machine_numbered}
use Rattle.rules.specs.Calls.{Answer, Board, Rules, Step, or_next}
use Rattle.rules.specs.Run.{Call, perform}
use Rattle.rules.specs.History.{Event, History, Setup, accepted, event, event_by}
use Rattle.rules.specs.Laws.{Laws}
use Rattle.machine.specs.Refusals.{Accepts, Refuses}
use Rattle.machine.specs.State.{HasPast, Performed, board, rules_of}
use Rattle.machine.specs.declared.machine.Machine.{Machine}
use Rattle.client.specs.declared.two_pages.TwoPages.{TwoPages}
use Rattle.client.specs.Back.{CutShort, Outcome, board_after, board_by, calls, first_refusal}

-- the event of an accepted call
event_is : (c : Call) (n : ℕ) (a : Answer) → n ≡ 0 → event_by n c a ≡ accepted c a
event_is c zero a e = refl
event_is c (suc n) a e = absurd (omega arith)

answered : (c d : Call) (s : Step) (a : Answer) → Accepts s a → c ≡ d → event c s ≡ accepted d a
answered c d s a t e = event_is c s.number s.answer t.number ∙ ap (accepted c) (sym t.answer) ∙ ap (λ (z : Call). accepted z a) e

-- an accepted call leaves the number to those after it, a refused one tells its own
passes : (rs : Rules) (c : Call) (cs : List Call) (st : Board) → (perform rs c st).number ≡ 0 → first_refusal rs (c ∷ cs) st ≡ first_refusal rs cs (perform rs c st).after
unfolding first_refusal
passes rs c cs st e = ap (λ (n : ℕ). or_next n (first_refusal rs cs (perform rs c st).after)) e

own_number : (n m : ℕ) → 0 < n → or_next n m ≡ n
own_number zero m l = absurd (omega arith)
own_number (suc n) m l = refl

stops : (rs : Rules) (c : Call) (cs : List Call) (st : Board) → 0 < (perform rs c st).number → first_refusal rs (c ∷ cs) st ≡ (perform rs c st).number
unfolding first_refusal
stops rs c cs st l = own_number (perform rs c st).number (first_refusal rs cs (perform rs c st).after) l

goes_on : (rs : Rules) (c : Call) (cs : List Call) (st : Board) → (perform rs c st).number ≡ 0 → board_after rs (c ∷ cs) st ≡ board_after rs cs (perform rs c st).after
unfolding board_after
goes_on rs c cs st e = ap (λ (n : ℕ). board_by n (perform rs c st).after (board_after rs cs (perform rs c st).after)) e

own_board : (n : ℕ) (a b : Board) → 0 < n → board_by n a b ≡ a
own_board zero a b l = absurd (omega arith)
own_board (suc n) a b l = refl

stays : (rs : Rules) (c : Call) (cs : List Call) (st : Board) → 0 < (perform rs c st).number → board_after rs (c ∷ cs) st ≡ (perform rs c st).after
unfolding board_after
stays rs c cs st l = own_board (perform rs c st).number (perform rs c st).after (board_after rs cs (perform rs c st).after) l

pub there : (rs : Rules) (st : Board) → board_after rs [] st ≡ st
unfolding board_after
there rs st = refl

pub none_left : (rs : Rules) (st : Board) → first_refusal rs [] st ≡ 0
unfolding first_refusal
none_left rs st = refl

module _ {M S V R : Type 0} (m : maps.Ghosts M) (s : memories.Ghosts S) (v : replacements.Ghosts V) (r : replacements.Ghosts R) where
  -- from x with the past h some of the calls all were accepted, their events are es, y is reached, and the calls left
  -- are still to come
  pub record Going (u : Setup) (h : History) (x : Machine M S V R) (all : List Call) (es : History) (y : Machine M S V R) (left : List Call) : Type 0 where
    pub past : HasPast m s v r u (es ++ h) y
    pub number : first_refusal (rules_of m s v r x) all (board m s v r x) ≡ first_refusal (rules_of m s v r y) left (board m s v r y)
    pub reached : board_after (rules_of m s v r x) all (board m s v r x) ≡ board_after (rules_of m s v r y) left (board m s v r y)

module _ {M S V R : Type 0} {m : maps.Ghosts M} {s : memories.Ghosts S} {v : replacements.Ghosts V} {r : replacements.Ghosts R} where
  pub begin : {u : Setup} {h : History} {x : Machine M S V R} (all : List Call) → HasPast m s v r u h x → Going m s v r u h x all [] x all
  begin all p = record { past = p; number = refl; reached = refl }

  module _ {u : Setup} {h : History} {x : Machine M S V R} {all : List Call} {es : History} {y : Machine M S V R} {c : Call} {left : List Call} {d : Call} {z : Machine M S V R} where
    -- the next call is accepted
    pub next : {a : Answer} → Going m s v r u h x all es y (c ∷ left) → (HasPast m s v r u (es ++ h) y → Performed m s v r d u (es ++ h) y z (λ t. Accepts t a)) → d ≡ c → Going m s v r u h x all (accepted c a ∷ es) z left
    next {a} G P e =
        let D = P G.past in
        let rs = rules_of m s v r y in
        let st = board m s v r y in
        record {
          past = subst (λ (w : Event). HasPast m s v r u (w ∷ (es ++ h)) z) (answered d c (perform rs d st) a D.told e) D.past;
          number = G.number ∙ ap (λ (w : Call). first_refusal rs (w ∷ left) st) (sym e) ∙ passes rs d left st D.told.number ∙ (λ j. first_refusal (sym D.rules j) left (sym D.after j));
          reached = G.reached ∙ ap (λ (w : Call). board_after rs (w ∷ left) st) (sym e) ∙ goes_on rs d left st D.told.number ∙ (λ j. board_after (sym D.rules j) left (sym D.after j));
        }

    -- and then the laws hold
    pub lawful : {a : Answer} → Going m s v r u h x all es y (c ∷ left) → (HasPast m s v r u (es ++ h) y → Performed m s v r d u (es ++ h) y z (λ t. Accepts t a)) → d ≡ c → Laws u (accepted c a ∷ (es ++ h)) (board m s v r z)
    lawful {a} G P e =
        let D = P G.past in
        subst (λ (w : Event). Laws u (w ∷ (es ++ h)) (board m s v r z)) (answered d c (perform (rules_of m s v r y) d (board m s v r y)) a D.told e) D.laws

  -- the next call is refused
  module _ {i : ℕ} {at : TwoPages} {o w : ℕ} {u : Setup} {h : History} {x : Machine M S V R} {es : History} {y : Machine M S V R} {c : Call} {left : List Call} {d : Call} {z : Machine M S V R} where
    cut : {which : ℕ → MachineFault} {f : MachineFault} → Going m s v r u h x (calls i at o w) es y (c ∷ left) → (HasPast m s v r u (es ++ h) y → Performed m s v r d u (es ++ h) y z (λ t. Refuses t which f)) → d ≡ c → CutShort m s v r i at o w u h x z f
    cut {which} {f} G P e =
        let D = P G.past in
        let rs = rules_of m s v r y in
        let st = board m s v r y in
        let l = (machine_numbered f).0 in
        let n = D.told.number in
        record {
          refused = n ∙ sym (G.number ∙ ap (λ (w : Call). first_refusal rs (w ∷ left) st) (sym e) ∙ stops rs d left st (subst (λ (k : ℕ). 0 < k) n l));
          reached = D.after ∙ sym (G.reached ∙ ap (λ (w : Call). board_after rs (w ∷ left) st) (sym e) ∙ stays rs d left st (subst (λ (k : ℕ). 0 < k) n l));
          happened = event d (perform rs d st) ∷ es;
          past = D.past;
        }

    pub refused : {which : ℕ → MachineFault} {f : MachineFault} (q : Result ℕ MachineFault) → Going m s v r u h x (calls i at o w) es y (c ∷ left) → (HasPast m s v r u (es ++ h) y → Performed m s v r d u (es ++ h) y z (λ t. Refuses t which f)) → d ≡ c
        → IsErr q × IsErrAnd q (λ k. k ≡ f) → Outcome m s v r i at o w u h x z q
    refused (Ok word) G P e t = absurd t.1
    refused (Err k) G P e t = subst (CutShort m s v r i at o w u h x z) (sym t.1) (cut G P e)

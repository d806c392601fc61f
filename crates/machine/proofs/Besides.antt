-- A result whose error stands beside its caller.
use Rattle.std.proofs.Common.{◌≡◌, ℕ, Ok, Err, Result, sym, ◌∙◌, ap, IsErrAnd, MatchResult, is_ok, true, false, arith}
use Rattle.std.proofs.lemmas.Result.{err_from_is_err_and}

abbrev pub besides : {T E P : Type 0} → Result T E → P → Result T (E × P)
besides (Ok x) at = Ok x
besides (Err e) at = Err (e, at)

-- what a `map_err` answers whose closure (Q) puts the caller beside the error
pub told_beside : {T E P : Type 0} {Q : E → E × P → Type 0} (r : Result T E) (o : Result T (E × P)) (at : P) → MatchResult r (λ x. o ≡ Ok x) (λ e. IsErrAnd o (Q e)) → ((e : E) (y : E × P) → Q e y → y ≡ (e, at)) → o ≡ besides r at
told_beside (Ok x) o at k puts = k
told_beside (Err e) o at k puts = let p = err_from_is_err_and o k in p.1 ∙ ap (λ y. Err y) (puts e p.0 p.2)

-- such a result taken apart
pub beside_err : {T E P : Type 0} (r : Result T E) (at : P) (p : E × P) → besides r at ≡ Err p → (r ≡ Err p.0) × (p.1 ≡ at)
beside_err (Ok x) at p q = let z : ◌≡◌ {A = ℕ} 0 1 = cc in absurd (omega arith)
beside_err (Err e) at p q = let k : (e, at) ≡ p = cc in (ap (λ z. Err z.0) k, ap (λ z. z.1) (sym k))

pub beside_ok : {T E P : Type 0} (r : Result T E) (at : P) (x : T) → besides {P = P} r at ≡ Ok x → r ≡ Ok x
beside_ok (Ok y) at x q = let k : y ≡ x = cc in ap Ok k
beside_ok (Err e) at x q = let z : ◌≡◌ {A = ℕ} 0 1 = cc in absurd (omega arith)

-- what a `map_err` answers with a value was answered with it before
pub was_ok : {T E F : Type 0} (P : E → Type 0) (r : Result T E) (o : Result T F) (x : T) → MatchResult r (λ y. o ≡ Ok y) P → is_ok o ≡ is_ok r → o ≡ Ok x → r ≡ Ok x
was_ok {T} {E} {F} P (Ok y) o x k v e = let q : ◌≡◌ {A = Result T F} (Ok y) (Ok x) = sym k ∙ e in let i : y ≡ x = cc in ap Ok i
was_ok P (Err z) o x k v e = let q : true ≡ false = sym (ap is_ok e) ∙ v in absurd (cc)

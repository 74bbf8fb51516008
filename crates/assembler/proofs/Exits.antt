-- An error that is mapped.
use Rattle.std.proofs.Common.{◌≡◌, Ok, Err, IsErrAnd, Result, MatchResult, refl, ap, subst}

module _ {T E D : Type 0} where
  pub mapped_ok : (r : Result T E) (s : Result T D) (P : E → D → Type 0) (x : T) → MatchResult r (λ y. s ≡ Ok y) (λ e. IsErrAnd s (P e)) → s ≡ Ok x → r ≡ Ok x
  mapped_ok (Ok y) s P x m q = let z : y ≡ x = cc in ap Ok z
  mapped_ok (Err e) (Ok y) P x m q = absurd m
  mapped_ok (Err e) (Err d) P x m q = absurd (no_ok d x q)
    where
      no_ok : (d : D) (x : T) → ◌≡◌ {A = Result T D} (Err d) (Ok x) → ⊥
      no_ok d x h = cc

  pub mapped_err : (r : Result T E) (s : Result T D) (P : E → D → Type 0) (d : D) → MatchResult r (λ y. s ≡ Ok y) (λ e. IsErrAnd s (P e)) → s ≡ Err d → (e : E) × (r ≡ Err e) × P e d
  mapped_err (Ok y) s P d m q = absurd (no_err s m q)
    where
      no_err : (v : Result T D) → v ≡ Ok y → v ≡ Err d → ⊥
      no_err v h k = cc
  mapped_err (Err e) (Ok y) P d m q = absurd m
  mapped_err (Err e) (Err f) P d m q = let z : f ≡ d = cc in (e, refl, subst (P e) z m)

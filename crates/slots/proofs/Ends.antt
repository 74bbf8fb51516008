-- The last element of a front, slots that are filled with one value, and elements that change one after another.
use Rattle.std.proofs.Common.{◌≡◌, ℕ, zero, suc, ◌+◌, ◌-◌, ◌<◌, ◌≤◌, List, [], ◌∷◌, ◌++◌, length, get_or, take, drop, set, replicate, sym, refl, ap, subst, ◌∙◌, arith}
use Rattle.std.proofs.lemmas.List.{take_more, take_more_set, drop_more, drop-set-lt, get_or_default}
use Rattle.std.proofs.lemmas.List.Elements.{all_zip_more}
use Rattle.std.specs.List.{AllZip, FoldsTo}

module _ {X : Type 0} where
  pub take_last : (xs : List X) (n : ℕ) (d : X) → 0 < n → n ≤ length xs → take n xs ≡ take (n - 1) xs ++ get_or xs (n - 1) d ∷ []
  take_last xs n d p h =
      let e : n ≡ n - 1 + 1 = omega arith in
      ap (λ k. take k xs) e ∙ take_more xs (n - 1) d (omega arith)

  -- calls that each give v, and leave the callee as it was, gave v over and over
  pub all_filled : {P : Type 0} (R : P → X → P → Type 0) (v : X) (p : P) → ((x : X) (q : P) → R p x q → (x ≡ v) × (q ≡ p)) → (xs : List X) (q : P) → FoldsTo R p xs q → xs ≡ replicate (length xs) v
  all_filled R v p same [] q f = refl
  all_filled {P} R v p same (x ∷ xs) q f =
      let e = same x f.0 f.1 in
      let rest = all_filled R v p same xs q (subst (λ (j : P). FoldsTo R j xs q) e.1 f.2) in
      ap (λ y. y ∷ xs) e.0 ∙ ap (λ ys. v ∷ ys) rest

  -- one more element gets its new value
  pub changed_more : (R : X → X → Type 0) (xs ys : List X) (i : ℕ) (d y : X) → i < length ys → length ys ≡ length xs → AllZip R (take i xs) (take i ys) → drop i ys ≡ drop i xs → R (get_or ys i d) y → AllZip R (take (i + 1) xs) (take (i + 1) (set ys i y)) × (drop (i + 1) (set ys i y) ≡ drop (i + 1) xs)
  changed_more R xs ys i d y h l each same r =
      let k : i < length xs = omega arith in
      let a = drop_more ys i d h in
      let b = drop_more xs i d k in
      let e : get_or ys i d ≡ get_or xs i d = cc in
      let t : drop (i + 1) ys ≡ drop (i + 1) xs = cc in
      let x = get_or ys i d in (
        subst (λ (zs : List X). AllZip R (take (i + 1) xs) zs) (sym (take_more_set ys i y h)) (all_zip_more R xs (take i ys) i x y k (e ∙ get_or_default xs i d x k) each r),
        drop-set-lt (i + 1) ys i y (omega arith) ∙ t,
      )

  -- a write within a front
  pub take_within : (xs : List X) (n i : ℕ) (v : X) → i < n → n ≤ length xs → take n (set xs i v) ≡ set (take n xs) i v
  take_within [] n i v h k = absurd (omega arith)
  take_within (x ∷ xs) zero i v h k = absurd (omega arith)
  take_within (x ∷ xs) (suc n) zero v h k = refl
  take_within (x ∷ xs) (suc n) (suc i) v h k = ap (λ ys. x ∷ ys) (take_within xs n i v (omega arith) (omega arith))

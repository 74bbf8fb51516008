-- The longest front whose bytes pass, one byte on.
use Rattle.std.proofs.Common.{◌≡◌, ℕ, Bool, true, false, List, [], ◌∷◌, take, drop, refl, one-add}
use Rattle.std.specs.List.{prefix_len}
use Rattle.syntax.specs.Bytes.{front, after}

module _ (p : ℕ → Bool) where
  pub front_at_yes : (c : ℕ) (cs : List ℕ) → p c ≡ true → front p (c ∷ cs) ≡ c ∷ front p cs
  front_at_yes c cs e = rw (e, front) refl

  pub front_at_no : (c : ℕ) (cs : List ℕ) → p c ≡ false → front p (c ∷ cs) ≡ []
  front_at_no c cs e = rw (e, front) refl

  pub after_at_yes : (c : ℕ) (cs : List ℕ) → p c ≡ true → after p (c ∷ cs) ≡ after p cs
  after_at_yes c cs e = rw (e, after) refl

  pub after_at_no : (c : ℕ) (cs : List ℕ) → p c ≡ false → after p (c ∷ cs) ≡ c ∷ cs
  after_at_no c cs e = rw (e, after) refl

module _ (p : ℕ → Bool) where
  -- the front is as long as the bytes that pass, and the rest follows
  pub front_prefix : (xs : List ℕ) → take (prefix_len p xs) xs ≡ front p xs
  front_prefix [] = refl
  front_prefix (c ∷ cs) = go (p c) refl (front_prefix cs)
    where
      go : (b : Bool) → p c ≡ b → take (prefix_len p cs) cs ≡ front p cs → take (prefix_len p (c ∷ cs)) (c ∷ cs) ≡ front p (c ∷ cs)
      go true e h = rw (e, prefix_len, front, one-add, h) refl
      go false e h = rw (e, prefix_len, front) refl

  pub after_prefix : (xs : List ℕ) → drop (prefix_len p xs) xs ≡ after p xs
  after_prefix [] = refl
  after_prefix (c ∷ cs) = go (p c) refl (after_prefix cs)
    where
      go : (b : Bool) → p c ≡ b → drop (prefix_len p cs) cs ≡ after p cs → drop (prefix_len p (c ∷ cs)) (c ∷ cs) ≡ after p (c ∷ cs)
      go true e h = rw (e, prefix_len, after, one-add, h) refl
      go false e h = rw (e, prefix_len, after) refl

-- The bytes that lines take.
use Rattle.std.proofs.Common.{◌≡◌, ℕ, ◌+◌, ◌≤◌, Bool, true, false, eqb, List, [], ◌∷◌, length, take, min, sym, refl, ap, ◌∙◌, inl, inr, arith}
use Rattle.std.proofs.lemmas.List.{take_all}
use Rattle.std.proofs.lemmas.List.Sums.{sum_by-cons, sum_by-take-le}
use Rattle.std.proofs.lemmas.Bool.{cases_lt}
use Rattle.std.proofs.lemmas.Bool.Decides.{nat_tests}
use Rattle.syntax.specs.Lines.{lines, onto}
use Rattle.bench.specs.Input.{before, extent}

extent_cons : (l : List ℕ) (ls : List (List ℕ)) → extent (l ∷ ls) ≡ length l + 1 + extent ls
extent_cons l ls = sum_by-cons (λ l. length l + 1) l ls

extent_onto : (c : ℕ) (ls : List (List ℕ)) (n : ℕ) → extent ls ≤ n + 1 → extent (onto c ls) ≤ n + 2
extent_onto c [] n h = omega arith
extent_onto c (l ∷ ls) n h = omega (arith, extent_cons l ls, extent_cons (c ∷ l) ls)

-- the lines of a text take its bytes, and a byte 10 after the last
extent_lines : (xs : List ℕ) → extent (lines xs) ≤ length xs + 1
extent_lines [] = omega arith
extent_lines (c ∷ cs) = go (eqb c 10) refl (extent_lines cs)
  where
    go : (b : Bool) → eqb c 10 ≡ b → extent (lines cs) ≤ length cs + 1 → extent (lines (c ∷ cs)) ≤ length (c ∷ cs) + 1
    go true e ih = rw (e, lines) (omega (arith, extent_cons [] (lines cs)))
    go false e ih = let h = extent_onto c (lines cs) (length cs) ih in rw (e, lines) (omega arith)

-- the lines before the first `.` take no more
pub extent_before : (xs : List ℕ) → extent (before (lines xs)) ≤ length xs + 1
extent_before xs =
    let h : extent (before (lines xs)) ≤ extent (lines xs) = sum_by-take-le (λ l. length l + 1) (lines xs) _ in
    let k = extent_lines xs in omega arith

-- a front that would be longer than the list is the list
pub take_min : (n : ℕ) (xs : List ℕ) → take (min n (length xs)) xs ≡ take n xs
take_min n xs =
    elim (cases_lt n (length xs)) [
      | inl h ↦ let e : min n (length xs) ≡ n = grind (arith, nat_tests) in ap (λ m. take m xs) e
      | inr h ↦
          let e : min n (length xs) ≡ length xs = grind (arith, nat_tests) in
          ap (λ m. take m xs) e ∙ take_all (length xs) xs (omega arith) ∙ sym (take_all n xs h)
    ]

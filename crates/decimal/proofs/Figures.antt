-- Digits one by one, and decimal numbers, cut at a limit.
use Rattle.std.proofs.Common.{◌≡◌, ℕ, zero, suc, ◌+◌, ◌-◌, ◌*◌, ◌<◌, ◌≤◌, true, false, List, [], ◌∷◌, ◌++◌, ◌&&◌, ◌==◌, length, get_or, drop, ℤ, pos, neg_ℤ, Some, None, Option, refl, ap, ◌∙◌, arith, MatchOption}
use Rattle.std.proofs.lemmas.Bool.Decides.{nat_tests}
use Rattle.std.specs.List.{list_all}
use Rattle.decimal.specs.Numbers.{natural, numeral, capped, cell_range, only_digits, are_all_digits, is_numeral_text, digit}

-- one digit more
pub natural_push : (n : ℕ) (cs : List ℕ) (c : ℕ) → natural n (cs ++ c ∷ []) ≡ 10 * natural n cs + (c - 48)
natural_push n [] c = refl
natural_push n (b ∷ cs) c = natural_push (10 * n + (b - 48)) cs c

cell_neg : (d : ℕ) → d ≤ 2147483648 → cell_range (neg_ℤ (pos d)) ≡ true
cell_neg zero h = refl
cell_neg (suc k) h = grind (arith, nat_tests)

big_neg : (d : ℕ) → 2147483648 < d → cell_range (neg_ℤ (pos d)) ≡ false
big_neg zero h = absurd (omega arith)
big_neg (suc k) h = grind (arith, nat_tests)

-- what a numeral with a minus writes, from its magnitude
pub minus_read : (xs : List ℕ) (m : ℕ) (r : Option ℤ) → 0 < length xs → get_or xs 0 0 ≡ 45 → m ≡ capped (natural 0 (drop 1 xs)) → MatchOption r (2147483648 < m) (λ z. (m ≤ 2147483648) × (z ≡ neg_ℤ (pos m))) → MatchOption r (cell_range (numeral xs) ≡ false) (λ z. (cell_range (numeral xs) ≡ true) × (z ≡ numeral xs))
minus_read [] m r h e f k = absurd (omega arith)
minus_read (c ∷ cs) m None h e f k = rw e (big_neg (natural 0 cs) (omega arith))
minus_read (c ∷ cs) m (Some z) h e f k =
    let d : m ≡ natural 0 cs = omega arith in
    rw e (cell_neg (natural 0 cs) (omega arith), k.1 ∙ ap (λ n. neg_ℤ (pos n)) d)

only_each : (cs : List ℕ) → list_all digit cs ≡ only_digits cs
only_each [] = refl
only_each (c ∷ cs) = elim (digit c) as (λ b. (b && list_all digit cs) ≡ elim b [ true ↦ only_digits cs | false ↦ false ]) [ true ↦ only_each cs | false ↦ refl ]

-- digits one by one, where there is one
pub digits_each : (cs : List ℕ) → false ≡ (length cs == 0) → list_all digit cs ≡ are_all_digits cs
digits_each [] h = cc
digits_each (c ∷ cs) h = only_each (c ∷ cs)

-- after a minus
pub minus_numeral : (xs : List ℕ) → 0 < length xs → get_or xs 0 0 ≡ 45 → is_numeral_text xs ≡ are_all_digits (drop 1 xs)
minus_numeral [] h e = absurd (omega arith)
minus_numeral (c ∷ cs) h e = rw e refl

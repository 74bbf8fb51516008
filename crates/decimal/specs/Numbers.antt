-- The number that a decimal text writes.
use Rattle.std.specs.Prelude.{ℕ, ◌+◌, ◌-◌, ◌*◌, min, Bool, true, false, ◌&&◌, List, [], ◌∷◌, ℤ, pos, negsuc, neg_ℤ, ◌==◌, int_le, nat_le}

-- the bytes 0 to 9
abbrev pub digit : ℕ → Bool
digit c = nat_le 48 c && nat_le c 57

-- digits and nothing else
abbrev pub only_digits : List ℕ → Bool
only_digits [] = true
only_digits (c ∷ cs) = elim (digit c) [ true ↦ only_digits cs | false ↦ false ]

-- at least one digit, and nothing else
abbrev pub are_all_digits : List ℕ → Bool
are_all_digits [] = false
are_all_digits (c ∷ cs) = only_digits (c ∷ cs)

-- digits, with or without a minus before them
abbrev pub is_numeral_text : List ℕ → Bool
is_numeral_text [] = false
is_numeral_text (c ∷ cs) = elim (c == 45) [ true ↦ are_all_digits cs | false ↦ are_all_digits (c ∷ cs) ]

-- the natural number that the digits n and cs write
abbrev pub natural : ℕ → List ℕ → ℕ
natural n [] = n
natural n (c ∷ cs) = natural (10 * n + (c - 48)) cs

-- decimal digits, with a minus before them if negative
abbrev pub numeral : List ℕ → ℤ
numeral [] = pos 0
numeral (c ∷ cs) = elim (c == 45) [ true ↦ neg_ℤ (pos (natural 0 cs)) | false ↦ pos (natural 0 (c ∷ cs)) ]

-- from -2147483648 to 2147483647
abbrev pub cell_range : ℤ → Bool
cell_range z = int_le (negsuc 2147483647) z && int_le z (pos 2147483647)

-- a magnitude, cut at one past the largest
abbrev pub capped : ℕ → ℕ
capped n = min n 2147483649

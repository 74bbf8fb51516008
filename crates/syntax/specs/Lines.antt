-- The lines of a text: byte 10 ends a line, and bytes after the last byte 10 are a last line.
use Rattle.std.specs.Prelude.{ℕ, zero, suc, Bool, true, false, not, List, [], ◌∷◌, None, Option, ◌==◌, slice_get}

-- a byte before the first line
abbrev pub onto : ℕ → List (List ℕ) → List (List ℕ)
onto c [] = (c ∷ []) ∷ []
onto c (l ∷ ls) = (c ∷ l) ∷ ls

abbrev pub lines : List ℕ → List (List ℕ)
lines [] = []
lines (c ∷ cs) = elim (c == 10) [ true ↦ [] ∷ lines cs | false ↦ onto c (lines cs) ]

abbrev pub not_end : ℕ → Bool
not_end c = not (c == 10)

-- the line of a number, counted from 1
abbrev pub line_at : ℕ → List (List ℕ) → Option (List ℕ)
line_at zero ls = None
line_at (suc n) ls = slice_get ls n

-- What the bench reads: the site text, then a line `.`, then readings, one a line.
use Rattle.std.specs.Prelude.{ℕ, ◌+◌, Bool, false, List, [], ◌∷◌, length, take, Ok, Err, ◌==◌}
use Rattle.std.specs.List.{before_first, after_first, sum_by}
use Rattle.decimal.specs.Reading.{read_as}
use Rattle.port.specs.declared.reading.Reading.{Reading}
use Rattle.syntax.specs.Lines.{lines}

-- a line of the one byte `.`
abbrev pub is_dot_text : List ℕ → Bool
is_dot_text [] = false
is_dot_text (c ∷ []) = c == 46
is_dot_text (c ∷ d ∷ cs) = false

-- the lines before the first such line
abbrev pub before : List (List ℕ) → List (List ℕ)
before ls = before_first is_dot_text ls

-- the lines after it
abbrev pub beyond : List (List ℕ) → List (List ℕ)
beyond ls = after_first is_dot_text ls

-- how many bytes lines take, each with its byte 10
abbrev pub extent : List (List ℕ) → ℕ
extent ls = sum_by (λ l. length l + 1) ls

-- the site text: the bytes of the lines before
abbrev pub site_of : List ℕ → List ℕ
site_of input = take (extent (before (lines input))) input

-- the numbers among lines; a line that is no number of 32 signed bits is skipped
abbrev pub numbers : List (List ℕ) → List Reading
numbers [] = []
numbers (l ∷ ls) = elim (read_as l) [ Ok z ↦ record { value = z } ∷ numbers ls | Err e ↦ numbers ls ]

-- the readings: the numbers of the lines after
abbrev pub readings_of : List ℕ → List Reading
readings_of input = numbers (beyond (lines input))

-- Kinds of bytes, and the bytes at the front of a list.
use Rattle.std.specs.Prelude.{ℕ, Bool, true, false, ◌||◌, List, [], ◌∷◌, ◌==◌}
use Rattle.std.specs.List.{list_all}
use Rattle.program.specs.Names.{among}
use Rattle.decimal.specs.Numbers.{digit}

-- a tab, and 32 to 126: what may stand in a line
abbrev pub plain : ℕ → Bool
plain c = c == 9 || among 32 126 c

-- a space or a tab
abbrev pub blank : ℕ → Bool
blank c = c == 32 || c == 9

-- ; and # begin a comment
abbrev pub comment : ℕ → Bool
comment c = c == 59 || c == 35

-- a letter, _ $ or @ begins a name
abbrev pub starts : ℕ → Bool
starts c = among 97 122 c || (among 65 90 c || (c == 95 || (c == 36 || c == 64)))

-- a digit may follow it
abbrev pub continues : ℕ → Bool
continues c = starts c || digit c

-- do all bytes pass?
abbrev pub every : (ℕ → Bool) → List ℕ → Bool
every p cs = list_all p cs

-- the longest front whose bytes all pass
abbrev pub front : (ℕ → Bool) → List ℕ → List ℕ
front p [] = []
front p (c ∷ cs) = elim (p c) [ true ↦ c ∷ front p cs | false ↦ [] ]

-- what follows that front
abbrev pub after : (ℕ → Bool) → List ℕ → List ℕ
after p [] = []
after p (c ∷ cs) = elim (p c) [ true ↦ after p cs | false ↦ c ∷ cs ]

-- Words in small letters, and names.
use Rattle.std.specs.Prelude.{ℕ, ◌+◌, Bool, true, false, ◌&&◌, List, [], ◌∷◌, map, take, ◌==◌, nat_le}
use Rattle.program.specs.declared.name.Name.{Name}

-- a byte from low to high
abbrev pub among : ℕ → ℕ → ℕ → Bool
among low high c = nat_le low c && nat_le c high

-- a capital as its small letter
abbrev pub small : ℕ → ℕ
small c = elim (among 65 90 c) [ true ↦ c + 32 | false ↦ c ]

abbrev pub smalls : List ℕ → List ℕ
smalls bs = map small bs

-- are two words equal?
abbrev pub same : List ℕ → List ℕ → Bool
same [] [] = true
same [] (b ∷ bs) = false
same (a ∷ as') [] = false
same (a ∷ as') (b ∷ bs) = elim (a == b) [ true ↦ same as' bs | false ↦ false ]

-- a name's bytes
abbrev pub name_of : Name → List ℕ
name_of n = take n.len n.bytes

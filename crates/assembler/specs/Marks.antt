-- Labels and units, and names looked for among them.
use Rattle.std.specs.Prelude.{ℕ, Bool, true, false, List, [], ◌∷◌, Some, None, Option}
use Rattle.program.specs.Names.{same, name_of}
use Rattle.program.specs.declared.label.Label.{Label}
use Rattle.program.specs.declared.section.Section.{Section}
use Rattle.program.specs.declared.section.Section.TheVariants.{Code}
use Rattle.program.specs.declared.unit.Unit.{Unit as UnitRecord}

-- a label: its name, its section, and its address (in its section, until the sections are laid out)
pub record Mark : Type 0 where
  pub name : List ℕ
  pub section : Section
  pub address : ℕ

abbrev pub mark : List ℕ → Section → ℕ → Mark
mark w s a = record { name = w; section = s; address = a }

-- a unit: its name, its entry (0 until the sections are laid out), its argument and result cells
pub record Entry : Type 0 where
  pub name : List ℕ
  pub entry : ℕ
  pub arguments : ℕ
  pub results : ℕ

abbrev pub entry : List ℕ → ℕ → ℕ → ℕ → Entry
entry w e m r = record { name = w; entry = e; arguments = m; results = r }

-- what a slot holds
abbrev pub mark_of : Label → Mark
mark_of l = mark (name_of l.name) l.section l.address

abbrev pub entry_of : UnitRecord → Entry
entry_of u = entry (name_of u.name) u.entry u.arguments u.results

-- what a slot of zeros holds
abbrev pub no_mark : Mark
no_mark = mark [] Code 0

abbrev pub no_entry : Entry
no_entry = entry [] 0 0 0

-- is a word among names?
abbrev pub has : List ℕ → List (List ℕ) → Bool
has w [] = false
has w (v ∷ vs) = elim (same w v) [ true ↦ true | false ↦ has w vs ]

-- the address of the label of that name
abbrev pub find : List ℕ → List Mark → Option ℕ
find w [] = None
find w (l ∷ ls) = elim (same w l.name) [ true ↦ Some l.address | false ↦ find w ls ]

-- The cells of a program, once its labels have addresses.
use Rattle.std.specs.Prelude.{ℕ, suc, ◌+◌, ◌^◌, Bool, true, false, List, [], ◌∷◌, ◌++◌, ℤ, pos, Some, None, Option, is_some, unwrap_or, nat_lt}
use Rattle.std.specs.List.{list_all}
use Rattle.program.specs.Names.{smalls}
use Rattle.program.specs.declared.section.Section.{Section}
use Rattle.program.specs.declared.section.Section.TheVariants.{Code, Data, Heap}
use Rattle.decimal.specs.Numbers.{cell_range}
use Rattle.syntax.specs.Forms.{Item, value, at, byte, Form, foul, unfit, empty, section, unit, instruction, words, copies}
use Rattle.syntax.specs.Cells.{cells, items}
use Rattle.assembler.specs.declared.tally.Tally.{Tally}
use Rattle.assembler.specs.Marks.{Mark, mark, Entry, entry, find}

-- where a section begins: code, then data, then heap
abbrev pub base : Tally → Section → ℕ
base t Code = 0
base t Data = t.code
base t Heap = t.code + t.«data»

-- an address of 32 bits, as every address of a program is
abbrev pub word : ℕ → ℕ
word n = elim (nat_lt n (2 ^ 32)) [ true ↦ n | false ↦ 0 ]

-- a label with its address in memory
abbrev pub laid : Tally → Mark → Mark
laid t l = mark l.name l.section (word (base t l.section + l.address))

-- a cell: every number and address of a program is in its range
abbrev pub in_cell : ℤ → ℤ
in_cell z = elim (cell_range z) [ true ↦ z | false ↦ pos 0 ]

module _ (ls : List Mark) where
  -- a unit with its entry: the address of the label of its name, which stands in small letters; 0 if there is none
  abbrev pub opening : Entry → Entry
  opening u = entry u.name (unwrap_or (find (smalls u.name) ls) 0) u.arguments u.results

  -- has an item's name a label?
  abbrev pub known : Item → Bool
  known (value z) = true
  known (at w) = is_some (find w ls)
  known (byte c) = true

  abbrev pub all_known : List Item → Bool
  all_known is = list_all known is

  -- have all names that a line uses a label?
  abbrev pub resolved : Form → Bool
  resolved foul = true
  resolved unfit = true
  resolved empty = true
  resolved (section p) = true
  resolved (unit w m r) = is_some (find w ls)
  resolved (instruction l op is) = all_known is
  resolved (words l ts) = all_known (items ts)
  resolved (copies l k z) = true

  -- the first line with a name that has no label; the next line has the number k
  abbrev pub unresolved : ℕ → List Form → Option ℕ
  unresolved k [] = None
  unresolved k (f ∷ fs) = elim (resolved f) [ true ↦ unresolved (suc k) fs | false ↦ Some k ]

  -- the cell that an item becomes; 0 for a name that no label has
  abbrev pub cell : Item → ℤ
  cell (value z) = in_cell z
  cell (at w) = in_cell (pos (unwrap_or (find w ls) 0))
  cell (byte c) = pos c

-- the section of the lines after a line
abbrev pub following_section : Section → Form → Section
following_section p foul = p
following_section p unfit = p
following_section p empty = p
following_section p (section q) = q
following_section p (unit w m r) = p
following_section p (instruction l op is) = p
following_section p (words l ts) = p
following_section p (copies l k z) = p

abbrev pub same_section : Section → Section → Bool
same_section Code Code = true
same_section Code Data = false
same_section Code Heap = false
same_section Data Code = false
same_section Data Data = true
same_section Data Heap = false
same_section Heap Code = false
same_section Heap Data = false
same_section Heap Heap = true

-- the items of one section, of lines that begin in the section p
abbrev pub items_in : Section → Section → List Form → List Item
items_in want p [] = []
items_in want p (f ∷ fs) = elim (same_section want p) [ true ↦ cells f ++ items_in want (following_section p f) fs | false ↦ items_in want (following_section p f) fs ]

-- the items of one section in both texts, each of which begins in .CODE
abbrev pub both : Section → List Form → List Form → List Item
both want site library = items_in want Code site ++ items_in want Code library

-- the parts of a section join in order, and the sections follow one another
abbrev pub all : List Form → List Form → List Item
all site library = both Code site library ++ (both Data site library ++ both Heap site library)

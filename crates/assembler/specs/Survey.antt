-- What the lines of both texts declare, and the first faulty line.
use Rattle.std.specs.Prelude.{ℕ, suc, ◌+◌, Bool, true, false, not, List, [], ◌∷◌, ◌++◌, map, length, ℤ, pos, negsuc, Some, None, Option, nat_le, nat_lt}
use Rattle.program.specs.declared.fault.AssemblyCause.{AssemblyCause}
use Rattle.program.specs.declared.fault.AssemblyCause.TheVariants.{LineBytes, NoForm, NumberRange, LateUnit, WrongSection, GivenTwice, ListFull}
use Rattle.program.specs.declared.section.Section.{Section}
use Rattle.program.specs.declared.section.Section.TheVariants.{Code, Data, Heap}
use Rattle.syntax.specs.Forms.{Form, foul, unfit, empty, section, unit, instruction, words, copies}
use Rattle.syntax.specs.Cells.{cells}
use Rattle.syntax.specs.Ranges.{range}
use Rattle.assembler.specs.declared.tally.Tally.{Tally}
use Rattle.assembler.specs.Marks.{Mark, mark, Entry, entry, has}

-- how far the lines have come, and the labels and units so far, in line order
pub record Survey : Type 0 where
  pub tally : Tally
  pub labels : List Mark
  pub units : List Entry

abbrev pub surveyed : Tally → List Mark → List Entry → Survey
surveyed t ls us = record { tally = t; labels = ls; units = us }

-- a line is taken, or is at fault
pub data Step : Type 0 where
  go : Survey → Step
  stop : AssemblyCause → Step

-- what has to hold, or else the cause
abbrev pub demand : Bool → AssemblyCause → Step → Step
demand true c s = s
demand false c s = stop c

abbrev pub is_code : Section → Bool
is_code Code = true
is_code Data = false
is_code Heap = false

-- how many cells a section has
abbrev pub extent : Tally → Section → ℕ
extent t Code = t.code
extent t Data = t.«data»
extent t Heap = t.heap

-- n more cells in a section
abbrev pub grown_by : Section → Tally → ℕ → Tally
grown_by Code t n = record { section = Code; begun = true; code = t.code + n; «data» = t.«data»; heap = t.heap }
grown_by Data t n = record { section = Data; begun = true; code = t.code; «data» = t.«data» + n; heap = t.heap }
grown_by Heap t n = record { section = Heap; begun = true; code = t.code; «data» = t.«data»; heap = t.heap + n }

-- n more cells in the section at hand
abbrev pub grown : Tally → ℕ → Tally
grown t n = grown_by t.section t n

-- the lines after a section word
abbrev pub entered : Tally → Section → Tally
entered t s = record { section = s; begun = true; code = t.code; «data» = t.«data»; heap = t.heap }

-- each text begins in .CODE, and its .UNIT lines come first
abbrev pub opened : Tally → Tally
opened t = record { section = Code; begun = false; code = t.code; «data» = t.«data»; heap = t.heap }

-- before the first line
abbrev pub fresh : Survey
fresh = surveyed (record { section = Code; begun = false; code = 0; «data» = 0; heap = 0 }) [] []

-- the number of a .UNIT line, which its range keeps below 256
abbrev pub octet : ℤ → ℕ
octet (pos n) = elim (nat_le n 255) [ true ↦ n | false ↦ 0 ]
octet (negsuc n) = 0

-- one more in a list of so much room, by the names of what it has: no name twice (8), and not full (9)
abbrev pub adding : {X : Type 0} → ℕ → List (List ℕ) → List X → List ℕ → X → (List X → Step) → Step
adding room names xs w x on = demand (not (has w names)) GivenTwice (demand (nat_lt (length xs) room) ListFull (on (xs ++ x ∷ [])))

module _ (label_room unit_room : ℕ) where
  -- n cells, at a label or not
  abbrev pub putting : Survey → Option (List ℕ) → ℕ → Step
  putting s None n = go (surveyed (grown s.tally n) s.labels s.units)
  putting s (Some w) n =
      adding label_room (map (λ l. l.name) s.labels) s.labels w (mark w s.tally.section (extent s.tally s.tally.section)) λ ls.
      go (surveyed (grown s.tally n) ls s.units)

  -- one more unit
  abbrev pub declaring : Survey → List ℕ → ℕ → ℕ → Step
  declaring s w m r = adding unit_room (map (λ u. u.name) s.units) s.units w (entry w 0 m r) λ us. go (surveyed s.tally s.labels us)

  -- a line whose numbers are in range: .UNIT comes late (6), code or data in the wrong section (7)
  abbrev pub taken : Survey → Form → Step
  taken s foul = stop LineBytes
  taken s unfit = stop NoForm
  taken s empty = go s
  taken s (section p) = go (surveyed (entered s.tally p) s.labels s.units)
  taken s (unit w m r) = demand (not s.tally.begun) LateUnit (declaring s w (octet m) (octet r))
  taken s (instruction l op is) = demand (is_code s.tally.section) WrongSection (putting s l (length (cells (instruction l op is))))
  taken s (words l ts) = demand (not (is_code s.tally.section)) WrongSection (putting s l (length (cells (words l ts))))
  taken s (copies l k z) = demand (not (is_code s.tally.section)) WrongSection (putting s l (length (cells (copies l k z))))

  -- one line: bytes (3), form (4), numbers (5), and then its place and names
  abbrev pub step : Survey → Form → Step
  step s f = demand (range f) NumberRange (taken s f)

-- all lines are taken, or the first faulty one: its number and its cause
pub data Surveyed : Type 0 where
  done : Survey → Surveyed
  fault : ℕ → AssemblyCause → Surveyed

module _ (label_room unit_room : ℕ) where
  -- lines, the next of which has the number k
  abbrev pub survey : ℕ → Survey → List Form → Surveyed
  survey k s [] = done s
  survey k s (f ∷ fs) = elim (step label_room unit_room s f) [ go t ↦ survey (suc k) t fs | stop c ↦ fault k c ]

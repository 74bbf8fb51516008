-- What no line exceeds.
use Rattle.std.specs.Prelude.{ℕ, ◌≤◌, List, length, Some, None, Option}
use Rattle.syntax.specs.Forms.{Form, foul, unfit, empty, section, unit, instruction, words, copies}
use Rattle.syntax.specs.Cells.{cells}

-- a label has at most 31 bytes
abbrev pub ShortLabel : Option (List ℕ) → Type 0
ShortLabel None = Unit {0}
ShortLabel (Some w) = length w ≤ 31

-- so has the name that a line gives to a label or a unit
abbrev pub ShortName : Form → Type 0
ShortName foul = Unit {0}
ShortName unfit = Unit {0}
ShortName empty = Unit {0}
ShortName (section s) = Unit {0}
ShortName (unit w m r) = length w ≤ 31
ShortName (instruction l op is) = ShortLabel l
ShortName (words l ts) = ShortLabel l
ShortName (copies l k z) = ShortLabel l

-- a line gives a short name, and takes at most 1,000 cells
pub record Limited (f : Form) : Type 0 where
  pub name : ShortName f
  pub cells : length (cells f) ≤ 1000

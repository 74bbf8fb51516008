-- The ranges of the numbers in a line.
use Rattle.std.specs.Prelude.{Bool, true, ◌&&◌, List, ℤ, pos, int_le}
use Rattle.std.specs.List.{list_all}
use Rattle.decimal.specs.Numbers.{cell_range}
use Rattle.isa.specs.Table.{operand}
use Rattle.isa.specs.declared.opcode.Operand.{Operand}
use Rattle.isa.specs.declared.opcode.Operand.TheVariants.{Absent, Value, Target, Count, Number}
use Rattle.syntax.specs.Tokens.{Tok, name, number, character, text, sign}
use Rattle.syntax.specs.Forms.{Item, value, at, byte, Form, foul, unfit, empty, section, unit, instruction, words, copies}

abbrev pub within : ℤ → ℤ → ℤ → Bool
within low high z = int_le low z && int_le z high

-- a count goes from 0 to 1,000; any other number has 32 signed bits
abbrev pub number_range : Operand → ℤ → Bool
number_range Absent z = cell_range z
number_range Value z = cell_range z
number_range Target z = cell_range z
number_range Count z = within (pos 0) (pos 1000) z
number_range Number z = cell_range z

abbrev pub item_range : Operand → Item → Bool
item_range o (value z) = number_range o z
item_range o (at w) = true
item_range o (byte c) = true

abbrev pub items_range : Operand → List Item → Bool
items_range o is = list_all (item_range o) is

-- a token of DW that is a number
abbrev pub figure_range : Tok → Bool
figure_range (name w) = true
figure_range (number z) = cell_range z
figure_range (character c) = true
figure_range (text s) = true
figure_range (sign c) = true

abbrev pub figures_range : List Tok → Bool
figures_range ts = list_all figure_range ts

-- are all numbers of a line in range?
abbrev pub range : Form → Bool
range foul = true
range unfit = true
range empty = true
range (section s) = true
range (unit w m r) = within (pos 0) (pos 255) m && within (pos 0) (pos 1) r
range (instruction l op is) = items_range (operand op) is
range (words l ts) = figures_range ts
range (copies l k z) = within (pos 1) (pos 1000) k && cell_range z

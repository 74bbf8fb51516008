-- The cells that a form takes.
use Rattle.std.specs.Prelude.{ℕ, true, false, List, [], ◌∷◌, map, length, replicate, ℤ, pos, negsuc, nat_le}
use Rattle.std.specs.List.{flat_map, sum_by}
use Rattle.isa.specs.Table as isa
use Rattle.syntax.specs.Tokens.{Tok, name, number, character, text, sign}
use Rattle.syntax.specs.Forms.{Item, value, at, byte, Form, foul, unfit, empty, section, unit, instruction, words, copies}

-- the items of one token of DW; a comma has none
abbrev pub items_of : Tok → List Item
items_of (name w) = at w ∷ []
items_of (number z) = value z ∷ []
items_of (character c) = byte c ∷ []
items_of (text s) = map byte s
items_of (sign c) = []

abbrev pub items : List Tok → List Item
items ts = flat_map items_of ts

-- how often k DUP(n) gives n: up to 1,000 times, and never where k is out of range
abbrev pub times : ℤ → ℕ
times (pos k) = elim (nat_le k 1000) [ true ↦ k | false ↦ 0 ]
times (negsuc k) = 0

-- the cells of a form: an instruction's opcode and argument, the items of DW
abbrev pub cells : Form → List Item
cells foul = []
cells unfit = []
cells empty = []
cells (section s) = []
cells (unit w m r) = []
cells (instruction l op is) = value (pos (isa.number op)) ∷ is
cells (words l ts) = items ts
cells (copies l k z) = replicate (times k) (value z)

-- how many cells a token of DW takes
abbrev pub span : Tok → ℕ
span (name w) = 1
span (number z) = 1
span (character c) = 1
span (text s) = length s
span (sign c) = 0

abbrev pub spans : List Tok → ℕ
spans ts = sum_by span ts

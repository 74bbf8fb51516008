-- The instruction set: one row an opcode (docs/MACHINE.md).
use Rattle.std.specs.Prelude.{ℕ, zero, suc, List, [], ◌∷◌, map, ℤ, pos, negsuc, Some, None, codes, Option, position, slice_get}
use Rattle.program.specs.Names.{same}
use Rattle.isa.specs.declared.opcode.Opcode.{Opcode}
use Rattle.isa.specs.declared.opcode.Opcode.TheVariants.{Push, Add, Sub, Mul, Div, Mod, Neg, And, Or, Not, Eq, Ne, Lt, Gt, Le, Ge, Dup, Pop, Swap, Jump, Bf, Bt, Nop, Read, Bprint, Cprint, Iprint, Sprint, Prnln, Load, Store, Loadref, Storeref, Deref, Call, Loadfp, Loadsp, Storefp, Rmem, Fmem, Ret, Halt, Loadpc, Storepc, Storesp, Loadhp, Storehp, Loadhl, Storehl}
use Rattle.isa.specs.declared.opcode.Operand.{Operand}
use Rattle.isa.specs.declared.opcode.Operand.TheVariants.{Absent, Value, Target, Count, Number}

-- an instruction's opcode number, its mnemonic in small letters, and what it takes
pub record Row : Type 0 where
  pub number : ℕ
  pub mnemonic : List ℕ
  pub operand : Operand

abbrev pub row : ℕ → List ℕ → Operand → Row
row n w o = record { number = n; mnemonic = w; operand = o }

abbrev pub table : Opcode → Row
table Push = row 1 (codes "push") Value
table Add = row 2 (codes "add") Absent
table Sub = row 3 (codes "sub") Absent
table Mul = row 4 (codes "mul") Absent
table Div = row 5 (codes "div") Absent
table Mod = row 6 (codes "mod") Absent
table Neg = row 7 (codes "neg") Absent
table And = row 8 (codes "and") Absent
table Or = row 9 (codes "or") Absent
table Not = row 10 (codes "not") Absent
table Eq = row 11 (codes "eq") Absent
table Ne = row 12 (codes "ne") Absent
table Lt = row 13 (codes "lt") Absent
table Gt = row 14 (codes "gt") Absent
table Le = row 15 (codes "le") Absent
table Ge = row 16 (codes "ge") Absent
table Dup = row 17 (codes "dup") Absent
table Pop = row 18 (codes "pop") Absent
table Swap = row 19 (codes "swap") Absent
table Jump = row 20 (codes "jump") Target
table Bf = row 21 (codes "bf") Target
table Bt = row 22 (codes "bt") Target
table Nop = row 23 (codes "nop") Absent
table Read = row 24 (codes "read") Absent
table Bprint = row 25 (codes "bprint") Absent
table Cprint = row 26 (codes "cprint") Absent
table Iprint = row 27 (codes "iprint") Absent
table Sprint = row 28 (codes "sprint") Absent
table Prnln = row 29 (codes "prnln") Absent
table Load = row 30 (codes "load") Number
table Store = row 31 (codes "store") Number
table Loadref = row 32 (codes "loadref") Number
table Storeref = row 33 (codes "storeref") Number
table Deref = row 34 (codes "deref") Absent
table Call = row 35 (codes "call") Absent
table Loadfp = row 36 (codes "loadfp") Absent
table Loadsp = row 37 (codes "loadsp") Absent
table Storefp = row 38 (codes "storefp") Absent
table Rmem = row 39 (codes "rmem") Count
table Fmem = row 40 (codes "fmem") Count
table Ret = row 41 (codes "ret") Count
table Halt = row 42 (codes "halt") Absent
table Loadpc = row 43 (codes "loadpc") Absent
table Storepc = row 44 (codes "storepc") Absent
table Storesp = row 45 (codes "storesp") Absent
table Loadhp = row 46 (codes "loadhp") Absent
table Storehp = row 47 (codes "storehp") Absent
table Loadhl = row 48 (codes "loadhl") Absent
table Storehl = row 49 (codes "storehl") Absent

abbrev pub number : Opcode → ℕ
number op = (table op).number

abbrev pub mnemonic : Opcode → List ℕ
mnemonic op = (table op).mnemonic

abbrev pub operand : Opcode → Operand
operand op = (table op).operand

-- cells that an argument takes
abbrev pub operand_cells : Operand → ℕ
operand_cells Absent = 0
operand_cells Value = 1
operand_cells Target = 1
operand_cells Count = 1
operand_cells Number = 1

-- cells that an instruction takes: its opcode, and its argument if it has one
abbrev pub size : Opcode → ℕ
size op = suc (operand_cells (operand op))

-- all opcodes, by number
abbrev pub order : List Opcode
order = Push ∷ Add ∷ Sub ∷ Mul ∷ Div ∷ Mod ∷ Neg ∷ And ∷ Or ∷ Not ∷ Eq ∷ Ne ∷ Lt ∷ Gt ∷ Le ∷ Ge ∷ Dup ∷ Pop ∷ Swap ∷ Jump ∷ Bf ∷ Bt ∷ Nop ∷ Read ∷ Bprint ∷ Cprint ∷ Iprint ∷ Sprint ∷ Prnln ∷ Load ∷ Store ∷ Loadref ∷ Storeref ∷ Deref ∷ Call ∷ Loadfp ∷ Loadsp ∷ Storefp ∷ Rmem ∷ Fmem ∷ Ret ∷ Halt ∷ Loadpc ∷ Storepc ∷ Storesp ∷ Loadhp ∷ Storehp ∷ Loadhl ∷ Storehl ∷ []

-- the element at a place counted from 0
abbrev pub nth : {X : Type 0} → List X → ℕ → Option X
nth xs n = slice_get xs n

-- the element at a place counted from 1
abbrev pub picked : {X : Type 0} → List X → ℤ → Option X
picked xs (pos zero) = None
picked xs (pos (suc n)) = nth xs n
picked xs (negsuc n) = None

-- the opcode that a cell holds
abbrev pub decoded : ℤ → Option Opcode
decoded z = picked order z

abbrev pub mnemonics : List (List ℕ)
mnemonics = map mnemonic order

-- the place of a word among the mnemonics, counted from 0
abbrev pub mnemonic_place : List ℕ → Option ℕ
mnemonic_place w = position (same w) mnemonics

-- the opcode at a place, where there is a place
abbrev pub opcode_there : Option ℕ → Option Opcode
opcode_there None = None
opcode_there (Some n) = nth order n

-- the opcode whose mnemonic is a word
abbrev pub named : List ℕ → Option Opcode
named w = opcode_there (mnemonic_place w)

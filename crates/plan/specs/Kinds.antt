-- What each instruction asks of the depth: one row an opcode (docs/CHECK.md).
use Rattle.std.specs.Prelude.{ℕ, ℤ, pos, negsuc}
use Rattle.isa.specs.declared.opcode.Opcode.{Opcode}
use Rattle.isa.specs.declared.opcode.Opcode.TheVariants.{Push, Add, Sub, Mul, Div, Mod, Neg, And, Or, Not, Eq, Ne, Lt, Gt, Le, Ge, Dup, Pop, Swap, Jump, Bf, Bt, Nop, Read, Bprint, Cprint, Iprint, Sprint, Prnln, Load, Store, Loadref, Storeref, Deref, Call, Loadfp, Loadsp, Storefp, Rmem, Fmem, Ret, Halt, Loadpc, Storepc, Storesp, Loadhp, Storehp, Loadhl, Storehl}
use Rattle.isa.specs.declared.instruction.Instruction.{Instruction}
use Rattle.plan.specs.declared.row.Row.{Row}
use Rattle.plan.specs.declared.kind.Kind.{Kind}
use Rattle.plan.specs.declared.kind.Kind.TheVariants.{Moves, Ruleless, Pushes, Ends, Halts, Jumps, Branches, Frames, Counts}

-- the top cells that an instruction uses, the cells that come in their place, and which rule it has
abbrev pub row : ℕ → ℕ → Kind → Row
row u g k = record { uses = u; gives = g; kind = k }

-- the row of an opcode, with n the count in its argument; rows without a rule have no cells
abbrev pub table : Opcode → ℕ → Row
table Push n = row 0 1 Pushes
table Add n = row 2 1 Moves
table Sub n = row 2 1 Moves
table Mul n = row 2 1 Moves
table Div n = row 2 1 Moves
table Mod n = row 2 1 Moves
table Neg n = row 1 1 Moves
table And n = row 2 1 Moves
table Or n = row 2 1 Moves
table Not n = row 1 1 Moves
table Eq n = row 2 1 Moves
table Ne n = row 2 1 Moves
table Lt n = row 2 1 Moves
table Gt n = row 2 1 Moves
table Le n = row 2 1 Moves
table Ge n = row 2 1 Moves
table Dup n = row 1 2 Moves
table Pop n = row 1 0 Moves
table Swap n = row 2 2 Moves
table Jump n = row 0 0 Jumps
table Bf n = row 1 0 Branches
table Bt n = row 1 0 Branches
table Nop n = row 0 0 Moves
table Read n = row 0 1 Moves
table Bprint n = row 1 0 Moves
table Cprint n = row 1 0 Moves
table Iprint n = row 1 0 Moves
table Sprint n = row 1 0 Moves
table Prnln n = row 0 0 Moves
table Load n = row 0 1 Frames
table Store n = row 1 0 Frames
table Loadref n = row 1 1 Moves
table Storeref n = row 2 0 Moves
table Deref n = row 1 1 Moves
table Call n = row 0 0 Ruleless
table Loadfp n = row 0 0 Ruleless
table Loadsp n = row 0 0 Ruleless
table Storefp n = row 0 0 Ends
table Rmem n = row 0 n Counts
table Fmem n = row n 0 Counts
table Ret n = row 0 0 Ruleless
table Halt n = row 0 0 Halts
table Loadpc n = row 0 0 Ruleless
table Storepc n = row 0 0 Ruleless
table Storesp n = row 0 0 Ruleless
table Loadhp n = row 0 1 Moves
table Storehp n = row 0 0 Ruleless
table Loadhl n = row 0 1 Moves
table Storehl n = row 1 0 Moves

-- the count in an argument cell; a negative number counts nothing
abbrev pub count : ℤ → ℕ
count (pos n) = n
count (negsuc n) = 0

-- the top cells that an instruction uses or releases
abbrev pub uses : Instruction → ℕ
uses i = (table i.op (count i.argument)).uses

-- the cells that come in their place
abbrev pub gives : Instruction → ℕ
gives i = (table i.op (count i.argument)).gives

-- which rule an opcode has
abbrev pub kind : Opcode → Kind
kind op = (table op 0).kind

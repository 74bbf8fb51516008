-- The instruction that stands at an address of the code.
use Rattle.std.specs.Prelude.{◌≡◌, ℕ, ◌+◌, cond, List, length, ℤ, pos, Some, None, Option, nat_le, nat_lt, slice_index_or}
use Rattle.isa.specs.declared.opcode.Opcode.{Opcode}
use Rattle.isa.specs.declared.opcode.Operand.{Operand}
use Rattle.isa.specs.declared.opcode.Operand.TheVariants.{Absent, Value, Target, Count, Number}
use Rattle.isa.specs.declared.instruction.Instruction.{Instruction}
use Rattle.isa.specs.Table.{operand_cells, decoded, operand, size}

-- the argument of an instruction at an address
abbrev pub argument : Operand → List ℤ → ℕ → ℤ
argument Absent code a = pos 0
argument Value code a = slice_index_or code (a + 1) (pos 0)
argument Target code a = slice_index_or code (a + 1) (pos 0)
argument Count code a = slice_index_or code (a + 1) (pos 0)
argument Number code a = slice_index_or code (a + 1) (pos 0)

-- whole within code, if an opcode stands there
abbrev pub whole : List ℤ → ℕ → Option Opcode → Option Instruction
whole code a None = None
whole code a (Some op) = cond (nat_le (a + 1 + operand_cells (operand op)) (length code)) (Some (record { op = op; argument = argument (operand op) code a })) None

-- the instruction at an address of the code's cells
abbrev pub instruction : List ℤ → ℕ → Option Instruction
instruction code a = cond (nat_lt a (length code)) (whole code a (decoded (slice_index_or code a (pos 0)))) None

-- the division of the code from 0 comes to an address: to 0, and from each whole instruction to its end
pub data Divides (code : List ℤ) : ℕ → Type 0 where
  first : Divides code 0
  next : (a : ℕ) (i : Instruction) → Divides code a → instruction code a ≡ Some i → Divides code (a + size i.op)

-- the code divides into instructions from 0, to its end
abbrev pub Divided : List ℤ → Type 0
Divided code = Divides code (length code)

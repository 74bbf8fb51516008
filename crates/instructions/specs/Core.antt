-- Registers and memory, and what an instruction comes to.
use Rattle.std.specs.Prelude.{ℕ, ◌+◌, ◌≤◌, List, ℤ, pos, slice_index_or}
use Rattle.program.specs.declared.fault.MachineCause.{MachineCause}
use Rattle.instructions.specs.declared.registers.Registers.{Registers}

pub record Core : Type 0 where
  pub reg : Registers
  pub mem : List ℤ

-- The instruction is done; it stops the machine; it takes a reading, to be pushed; it shows bytes; it is at fault.
pub data Next : Type 0 where
  goes : Core → Next
  halts : Core → Next
  takes : Core → Next
  shows : List ℕ → Core → Next
  faults : MachineCause → Core → Next

abbrev pub Act : Type 0
Act = Core → Next

abbrev pub core : Registers → List ℤ → Core
core r m = record { reg = r; mem = m }

abbrev pub cell : Core → ℕ → ℤ
cell c a = slice_index_or c.mem a (pos 0)

abbrev pub top : Core → ℤ
top c = cell c c.reg.sp

abbrev pub under : Core → ℤ
under c = cell c (c.reg.sp + 1)

-- what every machine keeps: hl < sp, and sp is at most the number of cells
pub record Sound (r : Registers) (n : ℕ) : Type 0 where
  pub few : n ≤ 65536
  pub high : r.sp ≤ n
  pub low : r.limit ≤ r.sp

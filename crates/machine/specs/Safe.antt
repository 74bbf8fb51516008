-- What a machine keeps from its start on.
use Rattle.std.specs.Prelude.{◌≡◌, ℕ, ◌≤◌, List, length, take, ℤ}
use Rattle.instructions.specs.declared.layout.Layout.{Layout}
use Rattle.instructions.specs.declared.registers.Registers.{Registers}
use Rattle.instructions.specs.Core.{Core, Sound}

-- the registers are sound, and the code lies in memory
abbrev pub Fits : Layout → Registers → ℕ → Type 0
Fits lay r n = Sound r n × (lay.code ≤ n)

-- code lies below the floor, the floor is at most the heap's end, the heap ends below the stack, and the stack within
-- memory; the code's cells are those of the start, and memory is as long
pub record Safe (lay : Layout) (start c : Core) : Type 0 where
  pub ordered : lay.code ≤ lay.floor
  pub floor : lay.floor ≤ c.reg.limit
  pub low : c.reg.limit ≤ c.reg.sp
  pub high : c.reg.sp ≤ length c.mem
  pub code : take lay.code c.mem ≡ take lay.code start.mem
  pub long : length c.mem ≡ length start.mem

-- where the heap begins past code and data, a run leaves it so, and no cell of the code changes
abbrev pub Kept : Layout → Registers → List ℤ → Registers → List ℤ → Type 0
Kept lay r memory r' memory' = lay.code ≤ lay.floor → lay.floor ≤ r.limit → (lay.floor ≤ r'.limit) × (take lay.code memory' ≡ take lay.code memory)

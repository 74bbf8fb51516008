-- The whole instruction at pc, if code has one there.
use Rattle.std.specs.Prelude.{ℕ, ◌+◌, List, ℤ, pos, negsuc, Some, None, Option}
use Rattle.isa.specs.declared.instruction.Instruction.{Instruction}
use Rattle.isa.specs.Code.{instruction}
use Rattle.isa.specs.Table.{size}
use Rattle.machine.specs.declared.fetch.Fetched.{Fetched}

-- with the address after it
abbrev pub followed : ℕ → Option Instruction → Option Fetched
followed a None = None
followed a (Some i) = Some (record { instruction = i; next = pos (a + size i.op) })

-- an address below 0 is not code
abbrev pub fetched : List ℤ → ℤ → Option Fetched
fetched code (pos a) = followed a (instruction code a)
fetched code (negsuc a) = None

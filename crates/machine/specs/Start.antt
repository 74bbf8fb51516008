-- A program at its start.
use Rattle.std.specs.Prelude.{◌≡◌, ◌+◌, List, length, ℤ, pos, ◌-ℤ◌, Ok, Err, Result, ◌≢◌}
use Rattle.program.specs.declared.counts.Counts.{Counts}
use Rattle.program.specs.declared.assembled.Assembled.{Assembled}
use Rattle.program.specs.declared.refused.Refused.{Refused}
use Rattle.program.specs.declared.fault.Place.TheVariants.{Nowhere}
use Rattle.program.specs.Faults.{refusal, refused}
use Rattle.instructions.specs.declared.layout.Layout.{Layout}
use Rattle.instructions.specs.declared.registers.Registers.{Registers}
use Rattle.machine.specs.declared.state.Machine.{Machine}
use Rattle.machine.specs.declared.state.Status.TheVariants.{Live}

-- code from address 0, then data up to floor
abbrev pub layout_of : Counts → Layout
layout_of c = record { code = c.code; floor = c.code + c.«data» }

-- pc = 0, sp = n, fp = n - 1, hp = C + D, hl = C + D + H - 1 (limit is one more than hl)
abbrev pub initial : Counts → Registers
initial c = record { pc = pos 0; sp = c.cells; fp = pos c.cells -ℤ pos 1; hp = pos (c.code + c.«data»); limit = c.code + c.«data» + c.heap }

-- a live machine at its initial registers
pub record Begun (c : Counts) (m : Machine) : Type 0 where
  pub layout : m.layout ≡ layout_of c
  pub cells : m.cells ≡ c.cells
  pub registers : m.registers ≡ initial c
  pub status : m.status ≡ Live

-- a start over a memory: refusal 21, which gives the program back, exactly where the memory's length is another
abbrev pub Started : Counts → List ℤ → Result Machine (Refused Assembled) → Type 0
Started c memory (Ok m) = (length memory ≡ c.cells) × Begun c m
Started c memory (Err e) = (length memory ≢ c.cells) × (e.program.counts ≡ c) × (refusal e.fault ≡ refused 21 Nowhere)

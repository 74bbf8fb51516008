-- A program as the check sees it: its code, how the code divides into instructions, and its units.
use Rattle.std.specs.Prelude.{◌≡◌, ℕ, ◌+◌, ◌<◌, ◌≤◌, List, length, take, ℤ, Some, None, Option, slice_index_or}
use Rattle.program.specs.declared.counts.Counts.{Counts}
use Rattle.program.specs.declared.unit.Unit.{Unit as UnitRecord}
use Rattle.isa.specs.declared.opcode.Opcode.{Opcode}
use Rattle.isa.specs.declared.opcode.Opcode.TheVariants.{Loadfp, Loadsp, Storefp}
use Rattle.isa.specs.declared.instruction.Instruction.{Instruction}
use Rattle.isa.specs.Code.{instruction, Divides}
use Rattle.plan.specs.declared.coded.Coded.{Coded}

-- the cells of its code, and its units in their order
pub record Program : Type 0 where
  pub code : List ℤ
  pub units : List UnitRecord

abbrev pub coded : List ℤ → List UnitRecord → Program
coded code us = record { code = code; units = us }

-- the program whose code and units are lent
abbrev pub seen : Coded → Program
seen p = coded p.code.now p.units.now

-- the program with these counts, in the memory and the unit table that are handed over
abbrev pub program_of : Counts → List ℤ → List UnitRecord → Program
program_of c memory us = coded (take c.code memory) (take c.units us)

abbrev pub opcode_of : Option Instruction → Option Opcode
opcode_of None = None
opcode_of (Some i) = Some i.op

-- the opcode of the whole instruction at an address of the code
abbrev pub opcode_in : List ℤ → ℕ → Option Opcode
opcode_in code a = opcode_of (instruction code a)

-- the division stops at a: it comes there, within the code, and finds no whole instruction
pub record Stops (code : List ℤ) (a : ℕ) : Type 0 where
  pub divides : Divides code a
  pub inside : a < length code
  pub none : instruction code a ≡ None

-- v is unit k + 1, the k-th counted from 0
abbrev pub Listed : List UnitRecord → ℕ → UnitRecord → Type 0
Listed us k v = (k < length us) × (slice_index_or us k v ≡ v)

-- an address in the opening of a unit: its first three cells
abbrev pub InOpening : List UnitRecord → ℕ → Type 0
InOpening us a = (k : ℕ) × (v : UnitRecord) × Listed us k v × (v.entry ≤ a) × (a < v.entry + 3)

-- LOADFP, LOADSP and STOREFP stand at e, e + 1 and e + 2
pub record OpeningAt (code : List ℤ) (e : ℕ) : Type 0 where
  pub one : opcode_in code e ≡ Some Loadfp
  pub two : opcode_in code (e + 1) ≡ Some Loadsp
  pub three : opcode_in code (e + 2) ≡ Some Storefp

-- no unit but the k-th has the entry e
abbrev pub Alone : List UnitRecord → ℕ → ℕ → Type 0
Alone us k e = (j : ℕ) (w : UnitRecord) → Listed us j w → w.entry ≡ e → j ≡ k

-- the k-th unit, v, is good: its entry begins an instruction, holds the opening, and is no other unit's
pub record Opens (P : Program) (k : ℕ) (v : UnitRecord) : Type 0 where
  pub divides : Divides P.code v.entry
  pub opening : OpeningAt P.code v.entry
  pub alone : Alone P.units k v.entry

-- every unit is good
abbrev pub Opened : Program → Type 0
Opened P = (k : ℕ) (v : UnitRecord) → Listed P.units k v → Opens P k v

-- an address that may have a place: it begins an instruction, outside all openings
pub record Sits (P : Program) (a : ℕ) : Type 0 where
  pub divides : Divides P.code a
  pub inside : a < length P.code
  pub out : InOpening P.units a → ⊥

-- The number of every cause, and where a fault stands (docs/REFUSALS.md).
use Rattle.std.specs.Prelude.{ℕ, ℤ, pos}
use Rattle.program.specs.declared.fault.Place.{Place}
use Rattle.program.specs.declared.fault.Place.TheVariants.{Nowhere, Line, Address, Counter}
use Rattle.program.specs.declared.fault.AssemblyCause.{AssemblyCause}
use Rattle.program.specs.declared.fault.AssemblyCause.TheVariants.{MemorySize, TextLength, LineBytes, NoForm, NumberRange, LateUnit, WrongSection, GivenTwice, ListFull, ProgramSize, NoLabel}
use Rattle.program.specs.declared.fault.CheckCause.{CheckCause}
use Rattle.program.specs.declared.fault.CheckCause.TheVariants as C
use Rattle.program.specs.declared.fault.MachineCause.{MachineCause}
use Rattle.program.specs.declared.fault.MachineCause.TheVariants as M
use Rattle.program.specs.declared.fault.PortCause.{PortCause}
use Rattle.program.specs.declared.fault.PortCause.TheVariants.{NoOpening, NoSpace}
use Rattle.program.specs.declared.fault.Fault.{Fault}
use Rattle.program.specs.declared.fault.Fault.TheVariants.{Assembly, Check, Machine, Port}

-- texts, memory and slots handed to assemble
abbrev pub assembly_number : AssemblyCause → ℕ
assembly_number MemorySize = 1
assembly_number TextLength = 2
assembly_number LineBytes = 3
assembly_number NoForm = 4
assembly_number NumberRange = 5
assembly_number LateUnit = 6
assembly_number WrongSection = 7
assembly_number GivenTwice = 8
assembly_number ListFull = 9
assembly_number ProgramSize = 10
assembly_number NoLabel = 11

-- programs and tables handed to check
abbrev pub check_number : CheckCause → ℕ
check_number C.TableSize = 12
check_number C.MemoryLength = 21
check_number C.NoDivision = 13
check_number C.BadEntry = 14
check_number C.NoInstruction = 15
check_number C.NoRule = 16
check_number C.ShallowDepth = 17
check_number C.OutsideFrame = 18
check_number C.TooDeep = 19
check_number C.DifferentWays = 20

-- memory handed to a machine, and the faults of its instructions in the order of their tests
abbrev pub machine_number : MachineCause → ℕ
machine_number M.MemoryLength = 21
machine_number M.NoInstruction = 22
machine_number M.NegativeCount = 23
machine_number M.StackUnderflow = 24
machine_number M.OutsideStack = 25
machine_number M.StackPointer = 26
machine_number M.StackMeetsHeap = 27
machine_number M.NullReference = 28
machine_number M.ReferenceRange = 29
machine_number M.DivisorZero = 30
machine_number M.Overflow = 31
machine_number M.NoCharacter = 32
machine_number M.HeapLimit = 33

-- a port with no opening, or with no space
abbrev pub port_number : PortCause → ℕ
port_number NoOpening = 34
port_number NoSpace = 35

-- a refusal: its number and its place
pub record Refusal : Type 0 where
  pub number : ℕ
  pub place : Place

abbrev pub refused : ℕ → Place → Refusal
refused n p = record { number = n; place = p }

-- what a fault says
abbrev pub refusal : Fault → Refusal
refusal (Assembly c p) = refused (assembly_number c) p
refusal (Check c p) = refused (check_number c) p
refusal (Machine c p) = refused (machine_number c) p
refusal (Port c p) = refused (port_number c) p

-- the place as one number: the line, the address, pc, or 0
abbrev pub place_number : Place → ℤ
place_number Nowhere = pos 0
place_number (Line t n) = pos n
place_number (Address a) = a
place_number (Counter a) = a

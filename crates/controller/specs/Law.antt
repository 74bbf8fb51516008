-- The three laws of a controller whose program has a lawful plan.
use Rattle.std.specs.Prelude.{◌≡◌, ℕ, zero, suc, ◌+◌, ◌<◌, ◌≤◌, cond, ◌⊎◌, List, take, pos, ◌+ℤ◌, Some, None, Ok, Err, Option, Result, ◌==◌, slice_index_or}
use Rattle.std.specs.List.{AllByRecursion}
use Rattle.program.specs.declared.fault.Fault.{Fault}
use Rattle.program.specs.declared.unit.Unit.{Unit as UnitRecord}
use Rattle.program.specs.Faults.{refusal}
use Rattle.isa.specs.declared.opcode.Opcode.{Opcode}
use Rattle.isa.specs.declared.opcode.Opcode.TheVariants.{Push, Call, Ret}
use Rattle.isa.specs.Table.{number}
use Rattle.instructions.specs.declared.layout.Layout.{Layout}
use Rattle.instructions.specs.Core.{Core, cell}
use Rattle.machine.specs.declared.fetch.Fetched.{Fetched}
use Rattle.machine.specs.declared.outcome.Outcome.{Outcome}
use Rattle.machine.specs.declared.outcome.Outcome.TheVariants as V
use Rattle.machine.specs.declared.outcome.Report.{Report}
use Rattle.machine.specs.Fetch.{fetched}
use Rattle.machine.specs.Start.{layout_of}
use Rattle.plan.specs.Programs.{Listed}
use Rattle.plan.specs.Lawful.{Plan, Lawful}
use Rattle.controller.specs.Lives as L
use Rattle.controller.specs.Lives.{Handed, program_in, Controller, New, Life, newborn, Lived, steps, given, states}

-- the number of the fault that an outcome is, or 0
abbrev pub fault_of : Outcome → ℕ
fault_of V.Spent = 0
fault_of V.Halted = 0
fault_of V.Reading = 0
fault_of V.Space = 0
fault_of (V.Fault f) = (refusal f).number

-- the number of the fault that a run answered, or 0
abbrev pub fault_in : Result Report Fault → ℕ
fault_in (Ok r) = fault_of r.outcome
fault_in (Err f) = (refusal f).number

-- no run answered a fault from 22 to 26
abbrev pub Unfaulted : Life → Type 0
Unfaulted l = AllByRecursion (λ (a : Result Report Fault). (fault_in a < 22) ⊎ (26 < fault_in a)) l.answers

-- the instruction that the step from c does
abbrev pub doing : Layout → Core → Option Fetched
doing lay c = fetched (take lay.code c.mem) c.reg.pc

-- 1 if it has the opcode op, else 0
abbrev pub is_op : Opcode → Option Fetched → ℕ
is_op op None = 0
is_op op (Some f) = cond (number f.instruction.op == number op) 1 0

-- how many of the k steps from the i-th on have the opcode op; xs are registers and memory before each step
unfoldable pub times : Opcode → Layout → List Core → Core → ℕ → ℕ → ℕ
times op lay xs d i zero = 0
times op lay xs d i (suc k) = is_op op (doing lay (slice_index_or xs (i + k) d)) + times op lay xs d i k

-- of a call whose CALL is the step i + 1: up to k steps later RET has never outnumbered CALL
abbrev pub Open : Layout → List Core → Core → ℕ → ℕ → Type 0
Open lay xs d i k = (j : ℕ) → j ≤ k → times Ret lay xs d (i + 2) j ≤ times Call lay xs d (i + 2) j

-- its return is the step i + 2 + k: the first by which RET outnumbers CALL
abbrev pub Returns : Layout → List Core → Core → ℕ → ℕ → Type 0
Returns lay xs d i k = Open lay xs d i k × (times Call lay xs d (i + 2) (suc k) < times Ret lay xs d (i + 2) (suc k))

-- y has the cells of x above the arguments and the result cell of v
abbrev pub SameAbove : Core → Core → UnitRecord → Type 0
SameAbove x y v = (a : ℕ) → x.reg.sp + v.arguments + v.results ≤ a → cell y a ≡ cell x a

-- y is x as a call of v gives it back: without the arguments, with its frame pointer, after PUSH and CALL
pub record Restored (x y : Core) (v : UnitRecord) : Type 0 where
  pub cells : SameAbove x y v
  pub sp_is : y.reg.sp ≡ x.reg.sp + v.arguments
  pub fp_is : y.reg.fp ≡ x.reg.fp
  pub pc_is : y.reg.pc ≡ x.reg.pc +ℤ pos 3

-- what a call of v keeps, and what its return gives back; x is before the PUSH, which is the step i of n
pub record Kept (lay : Layout) (xs : List Core) (n i : ℕ) (x : Core) (v : UnitRecord) : Type 0 where
  pub pushed : SameAbove x (slice_index_or xs (suc i) x) v
  pub keeps : (k : ℕ) → i + 2 + k ≤ n → Open lay xs x i k → SameAbove x (slice_index_or xs (i + 2 + k) x) v
  pub gives : (k : ℕ) → i + 2 + k < n → Returns lay xs x i k → Restored x (slice_index_or xs (i + 3 + k) x) v

-- each PUSH step with the CALL step next pushes the entry of a unit, and that call keeps and gives back
abbrev pub Calling : Handed → Life → Type 0
Calling P l =
    (i : ℕ) (f g : Fetched) (d : Core) → suc i < steps l →
    doing (layout_of P.counts) (slice_index_or (states l) i d) ≡ Some f → f.instruction.op ≡ Push →
    doing (layout_of P.counts) (slice_index_or (states l) (suc i) d) ≡ Some g → g.instruction.op ≡ Call →
    (k : ℕ) × (v : UnitRecord) × Listed (program_in P).units k v × (f.instruction.argument ≡ pos v.entry) × Kept (layout_of P.counts) (states l) (steps l) i (slice_index_or (states l) i d) v

-- any other life of a controller with the same program that accepted the same readings and did as many steps: equal
-- registers and memory, and equal bytes given out
abbrev pub Alike : Handed → Life → Type 0
Alike P l =
    (k : Controller) (cs : List L.Call) (m : Life) → New P k → Lived cs (newborn k) m → m.accepted ≡ l.accepted → steps m ≡ steps l →
    (m.control.machine.registers ≡ l.control.machine.registers) × (m.control.memory ≡ l.control.memory) × (given m ≡ given l)

-- the three laws, of a new controller with this program, after every list of calls
abbrev pub Obeyed : Handed → Type 0
Obeyed P = (k : Controller) → New P k → (cs : List L.Call) (l : Life) → Lived cs (newborn k) l → Unfaulted l × Calling P l × Alike P l

-- they hold for every program with a lawful plan
abbrev pub Laws : Type 0
Laws = (P : Handed) (p : Plan) → Lawful (program_in P) p → Obeyed P

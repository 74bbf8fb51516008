-- A call of run, whatever the machine came to before.
use Rattle.std.specs.Prelude.{◌≡◌, ℕ, ◌≤◌, List, length, take, ℤ, Ok, Err, Result}
use Rattle.program.specs.declared.fault.Fault.{Fault}
use Rattle.program.specs.declared.fault.Place.TheVariants.{Nowhere}
use Rattle.program.specs.Faults.{refusal, refused}
use Rattle.port.specs.Meaning.{Meaning}
use Rattle.instructions.specs.declared.layout.Layout.{Layout}
use Rattle.instructions.specs.Core.{Core, core}
use Rattle.machine.specs.declared.outcome.Outcome.{Outcome}
use Rattle.machine.specs.declared.outcome.Outcome.TheVariants as V
use Rattle.machine.specs.declared.outcome.Report.{Report}
use Rattle.machine.specs.declared.state.Machine.{Machine}
use Rattle.machine.specs.declared.state.Status.{Status}
use Rattle.machine.specs.declared.state.Status.TheVariants.{Live, Halted, Faulted}
use Rattle.machine.specs.Console.{Console, console}
use Rattle.machine.specs.Run.{Ran, ran, runs}

-- the status that an outcome leaves
abbrev pub marked : Outcome → Status
marked V.Spent = Live
marked V.Halted = Halted
marked V.Reading = Live
marked V.Space = Live
marked (V.Fault f) = Faulted f

-- a halted or faulted machine answers the same again, with no step
abbrev pub rerun : Status → Layout → ℕ → Core → Console → Ran
rerun Live lay allowance c w = runs lay 0 allowance c w
rerun Halted lay allowance c w = ran 0 V.Halted c w
rerun (Faulted f) lay allowance c w = ran 0 (V.Fault f) c w

module _ (allowance : ℕ) (before after : Machine) (memory memory' : List ℤ) (port port' : Meaning) where
  -- a run over a memory of the program's length: steps, outcome, registers, mark, cells, readings, bytes and space
  -- are those of the machine, openings do not fall, and no cell of the code changes
  pub record Done (steps : ℕ) (outcome : Outcome) : Type 0 where
    pub long : length memory ≡ before.cells
    pub layout : after.layout ≡ before.layout
    pub cells : after.cells ≡ before.cells
    pub runs : ran steps outcome (core after.registers memory') (console port') ≡ rerun before.status before.layout allowance (core before.registers memory) (console port)
    pub status : after.status ≡ marked outcome
    pub openings : port.openings ≤ port'.openings
    pub code : take before.layout.code memory' ≡ take before.layout.code memory

  -- refusal 21: the memory has another length, and nothing changes
  pub record Unfit (f : Fault) : Type 0 where
    pub long : length memory ≡ before.cells → ⊥
    pub fault : refusal f ≡ refused 21 Nowhere
    pub layout : after.layout ≡ before.layout
    pub cells : after.cells ≡ before.cells
    pub registers : after.registers ≡ before.registers
    pub status : after.status ≡ before.status
    pub memory_is : memory' ≡ memory
    pub port_is : port' ≡ port

  -- what a call of run answers
  abbrev pub Answered : Result Report Fault → Type 0
  Answered (Ok a) = Done a.steps a.outcome
  Answered (Err f) = Unfit f

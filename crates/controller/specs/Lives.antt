-- A controller, and its life: a list of calls, with what each of them answered and left.
use Rattle.std.specs.Prelude.{◌≡◌, ℕ, zero, suc, ◌+◌, List, [], ◌∷◌, ◌++◌, length, ℤ, Ok, Err, Result}
use Rattle.program.specs.declared.counts.Counts.{Counts}
use Rattle.program.specs.declared.unit.Unit.{Unit as UnitRecord}
use Rattle.program.specs.declared.fault.Fault.{Fault}
use Rattle.port.specs.declared.reading.Reading.{Reading}
use Rattle.port.specs.Meaning.{Meaning, Offered, Cleared}
use Rattle.instructions.specs.Core.{Core, core}
use Rattle.machine.specs.declared.outcome.Report.{Report}
use Rattle.machine.specs.declared.state.Machine.{Machine}
use Rattle.machine.specs.Console.{console}
use Rattle.machine.specs.Start.{Begun}
use Rattle.machine.specs.Turns.{Answered, rerun}
use Rattle.plan.specs.Programs.{Program, program_of}

-- a program as the check was handed it: its counts, the cells of its memory, and the table of its units
pub record Handed : Type 0 where
  pub counts : Counts
  pub cells : List ℤ
  pub units : List UnitRecord

-- the program that a plan is for
abbrev pub program_in : Handed → Program
program_in P = program_of P.counts P.cells P.units

-- a machine with its memory and its port
pub record Controller : Type 0 where
  pub machine : Machine
  pub memory : List ℤ
  pub port : Meaning

-- registers and memory
abbrev pub core_of : Controller → Core
core_of k = core k.machine.registers k.memory

-- the program started in the memory that the check left, on a new port, which shows nothing
pub record New (P : Handed) (k : Controller) : Type 0 where
  pub long : length P.cells ≡ P.counts.cells
  pub begun : Begun P.counts k.machine
  pub memory_is : k.memory ≡ P.cells
  pub nothing : k.port.shown ≡ []

-- a call of a controller
pub data Call : Type 0 where
  run : (allowance : ℕ) → Call
  offer : Reading → Call
  clear : Call
  question : Call

-- a life up to now: the controller, its registers and memory before each step of all runs, what the runs answered
-- (newest first), the readings accepted, and the bytes that clears emptied
pub record Life : Type 0 where
  pub control : Controller
  pub past : List Core
  pub answers : List (Result Report Fault)
  pub accepted : List Reading
  pub emptied : List ℕ

-- what waits in a new port was accepted first
abbrev pub newborn : Controller → Life
newborn k = record { control = k; past = []; answers = []; accepted = k.port.waiting; emptied = [] }

-- registers and memory after j steps of a run: those that a run with the allowance j leaves
abbrev pub after_steps : Controller → ℕ → Core
after_steps k j = (rerun k.machine.status k.machine.layout j (core_of k) (console k.port)).core

-- the first n of a sequence
abbrev pub first : (ℕ → Core) → ℕ → List Core
first at zero = []
first at (suc n) = first at n ++ at n ∷ []

-- registers and memory before each step of a run that answered a; a refused run does none
abbrev pub trail : Result Report Fault → Controller → List Core
trail (Ok r) k = first (after_steps k) r.steps
trail (Err f) k = []

-- after a run that answered a and left the controller k
abbrev pub after_run : Result Report Fault → Controller → Life → Life
after_run a k l = record { control = k; past = l.past ++ trail a l.control; answers = a ∷ l.answers; accepted = l.accepted; emptied = l.emptied }

-- a reading is accepted unless it is refused
abbrev pub joining : {U : Type 0} → Result U Fault → Reading → List Reading → List Reading
joining (Ok u) x xs = xs ++ x ∷ []
joining (Err f) x xs = xs

-- with the port q, and all else as it was
abbrev pub with_port : Meaning → Controller → Controller
with_port q k = record { machine = k.machine; memory = k.memory; port = q }

-- after an offer that answered a and left the port q
abbrev pub after_offer : Reading → Result (Unit {0}) Fault → Meaning → Life → Life
after_offer x a q l = record { control = with_port q l.control; past = l.past; answers = l.answers; accepted = joining a x l.accepted; emptied = l.emptied }

-- after a clear that left the port q: the bytes that were shown are given out
abbrev pub after_clear : Meaning → Life → Life
after_clear q l = record { control = with_port q l.control; past = l.past; answers = l.answers; accepted = l.accepted; emptied = l.emptied ++ l.control.port.shown }

-- what a call may make of a life: whatever the contracts of run, offer and clear allow (how far openings rise in a run,
-- and space at a clear, is the port's affair); a question alters nothing
abbrev pub Called : Call → Life → Life → Type 0
Called (run allowance) l m = (a : Result Report Fault) × (k : Controller) × Answered allowance l.control.machine k.machine l.control.memory k.memory l.control.port k.port a × (m ≡ after_run a k l)
Called (offer x) l m = (a : Result (Unit {0}) Fault) × (q : Meaning) × Offered l.control.port x a q × (m ≡ after_offer x a q l)
Called clear l m = (q : Meaning) × Cleared l.control.port q × (m ≡ after_clear q l)
Called question l m = m ≡ l

-- what a list of calls may make of it
abbrev pub Lived : List Call → Life → Life → Type 0
Lived [] l m = m ≡ l
Lived (c ∷ cs) l m = (n : Life) × Called c l n × Lived cs n m

-- the steps that a run answered
abbrev pub steps_of : Result Report Fault → ℕ
steps_of (Ok r) = r.steps
steps_of (Err f) = 0

-- the sum of the steps that runs answered
abbrev pub total : List (Result Report Fault) → ℕ
total [] = 0
total (a ∷ as') = steps_of a + total as'

-- all steps of a life
abbrev pub steps : Life → ℕ
steps l = total l.answers

-- the bytes given out: those that clears emptied, then those still shown
abbrev pub given : Life → List ℕ
given l = l.emptied ++ l.control.port.shown

-- registers and memory after 0, 1, .. steps
abbrev pub states : Life → List Core
states l = l.past ++ core_of l.control ∷ []

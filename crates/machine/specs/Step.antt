-- One step: an instruction, and what the port gives or takes for it.
use Rattle.std.specs.Prelude.{cond, List, [], ◌∷◌, length, take, Some, None, Option, nat_le}
use Rattle.program.specs.declared.fault.MachineCause.TheVariants.{NoInstruction}
use Rattle.program.specs.declared.fault.Fault.TheVariants as F
use Rattle.program.specs.declared.fault.Place.TheVariants.{Counter}
use Rattle.port.specs.declared.reading.Reading.{Reading as PortReading}
use Rattle.machine.specs.declared.fetch.Fetched.{Fetched}
use Rattle.machine.specs.declared.outcome.Outcome.{Outcome}
use Rattle.machine.specs.declared.outcome.Outcome.TheVariants.{Reading, Space, Fault}
use Rattle.instructions.specs.Core.{Core, Next, Act, goes, halts, takes, shows, faults}
use Rattle.instructions.specs.declared.layout.Layout.{Layout}
use Rattle.instructions.specs.Moves.{at_pc, pushed}
use Rattle.instructions.specs.Exec.{exec}
use Rattle.machine.specs.Fetch.{fetched}
use Rattle.machine.specs.Console.{Console, showing}

-- the step is done; it was HALT; it was none, for the reason given
pub data Stepped : Type 0 where
  moved : Core → Console → Stepped
  ended : Core → Console → Stepped
  stopped : Outcome → Core → Console → Stepped

-- a reading that waits is pushed
abbrev pub reading : List PortReading → Core → Core → Console → Stepped
reading [] to c w = stopped Reading c w
reading (x ∷ xs) to c w = moved (pushed x.value to) (record { waiting = xs; shown = w.shown; space = w.space })

-- what an instruction comes to with the port at hand: a print that is longer than the space, a READ with nothing
-- waiting and a fault are no step, and leave everything as it was
abbrev pub answered : Next → Core → Console → Stepped
answered (goes to) c w = moved to w
answered (halts to) c w = ended c w
answered (takes to) c w = reading w.waiting to c w
answered (shows bs to) c w = cond (nat_le (length bs) w.space) (moved to (showing bs w)) (stopped Space c w)
answered (faults f to) c w = stopped (Fault (F.Machine f (Counter c.reg.pc))) c w

-- the instruction at pc, from past it
abbrev pub does : Layout → Option Fetched → Act
does lay None c = faults NoInstruction c
does lay (Some f) c = exec lay c.reg.pc f.instruction.op f.instruction.argument (at_pc f.next c)

-- code is the first cells of memory
unfoldable pub performed : Layout → Act
performed lay c = does lay (fetched (take lay.code c.mem) c.reg.pc) c

-- one step of the machine
unfoldable pub step : Layout → Core → Console → Stepped
step lay c w = answered (performed lay c) c w

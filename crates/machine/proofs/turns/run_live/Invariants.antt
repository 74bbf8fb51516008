use Rattle.std.proofs.Common.{◌≡◌, ◌-◌, ◌≤◌, length}
use Rattle.instructions.specs.Core.{Sound, core}
use Rattle.machine.specs.Console.{console}
use Rattle.machine.specs.Run.{runs}
use Rattle.machine.proofs.turns.run_live.Given as goal

abbrev pub invariant-loop-done : goal.invariant-loop-done
invariant-loop-done g l =
    (runs l.layout l.done (l.allowance - l.done) (core l.r l.memory) (console (g.P.Port.meaning l.port))
    ≡ runs l.layout 0 l.allowance (core l.initial.r l.initial.memory) (console (g.P.Port.meaning l.initial.port)))
    × Sound l.r (length l.memory)
    × ((g.P.Port.meaning l.initial.port).openings ≤ (g.P.Port.meaning l.port).openings)

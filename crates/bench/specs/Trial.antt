-- A program run once on the bench.
use Rattle.std.specs.Prelude.{ℕ, List, [], take, ℤ}
use Rattle.program.specs.declared.counts.Counts.{Counts}
use Rattle.instructions.specs.Core.{core}
use Rattle.port.specs.declared.reading.Reading.{Reading}
use Rattle.machine.specs.Console.{Console}
use Rattle.machine.specs.Run.{Ran, runs}
use Rattle.machine.specs.Start.{layout_of, initial}
use Rattle.bench.specs.Output.{ran_report}

-- the bench's port, to which the readings were offered: the first 64 wait, and there is space for 4,096 bytes
abbrev pub offered : List Reading → Console
offered xs = record { waiting = take 64 xs; shown = []; space = 4096 }

-- what is reported of a run
abbrev pub reported : Ran → List ℕ
reported r = ran_report r.console.shown r.outcome r.steps r.core.reg.pc

-- a program of those counts and cells, run for at most 100,000 steps from its start
abbrev pub trial : Counts → List ℤ → Console → List ℕ
trial c cells w = reported (runs (layout_of c) 0 100000 (core (initial c) cells) w)

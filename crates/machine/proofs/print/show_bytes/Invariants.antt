use Rattle.std.proofs.Common.{◌≡◌, take}
use Rattle.machine.specs.Console.{console, showing}
use Rattle.machine.proofs.print.show_bytes.Given as goal

abbrev pub invariant-loop-byte : goal.invariant-loop-byte
invariant-loop-byte g l =
    (console (g.P.Port.meaning l.port) ≡ showing (take l.byte-index l.bytes) (console (g.P.Port.meaning l.initial.port)))
    × ((g.P.Port.meaning l.port).openings ≡ (g.P.Port.meaning l.initial.port).openings)

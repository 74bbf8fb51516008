use Rattle.std.proofs.Common.{◌≡◌, ◌++◌, take}
use Rattle.syntax.specs.Left.{lines_left}
use Rattle.bench.specs.Input.{numbers, readings_of}
use Rattle.bench.proofs.readings.offer_readings.Given as goal

abbrev pub invariant-loop-line : goal.invariant-loop-line
invariant-loop-line g l =
    (goal.iterator-loop-line g).can_next l.line-iterator
    × (goal.iterator-loop-line g).is_finite l.line-iterator
    × ((g.P.Port.meaning l.port).waiting ++ take (g.P.Port.meaning l.port).openings (numbers (lines_left l.line-iterator))
    ≡ (g.P.Port.meaning l.initial.port).waiting ++ take (g.P.Port.meaning l.initial.port).openings (readings_of l.input))
    × ((g.P.Port.meaning l.port).shown ≡ (g.P.Port.meaning l.initial.port).shown)
    × ((g.P.Port.meaning l.port).space ≡ (g.P.Port.meaning l.initial.port).space)

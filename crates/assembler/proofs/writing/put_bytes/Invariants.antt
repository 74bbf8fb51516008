use Rattle.std.proofs.Common.{◌≡◌, map, drop, pos}
use Rattle.assembler.specs.Progress.{Kept, clipped}
use Rattle.assembler.proofs.writing.put_bytes.Given as goal

abbrev pub invariant-loop-b : goal.invariant-loop-b
invariant-loop-b l =
    (clipped l.written (map pos (drop l.b-index l.text)) ≡ clipped l.initial.written (map pos l.text))
    × Kept l.initial.written l.written

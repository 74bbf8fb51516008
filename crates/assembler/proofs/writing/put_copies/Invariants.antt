use Rattle.std.proofs.Common.{◌≡◌, ◌-◌, replicate}
use Rattle.assembler.specs.Progress.{Kept, clipped}
use Rattle.assembler.proofs.writing.put_copies.Given as goal

abbrev pub invariant-loop-i : goal.invariant-loop-i
invariant-loop-i l =
    (clipped l.written (replicate (l.count - l._i) l.value) ≡ clipped l.initial.written (replicate l.count l.value))
    × Kept l.initial.written l.written

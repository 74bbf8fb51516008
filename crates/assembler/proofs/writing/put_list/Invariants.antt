use Rattle.std.proofs.Common.{◌≡◌, map}
use Rattle.syntax.specs.Cells.{items}
use Rattle.syntax.specs.Left.{tokens_left}
use Rattle.syntax.specs.Tokens.{tokens}
use Rattle.assembler.specs.Cells.{cell}
use Rattle.assembler.specs.Marks.{mark_of}
use Rattle.assembler.specs.Progress.{Kept, clipped}
use Rattle.assembler.proofs.writing.put_list.Given as goal

abbrev pub invariant-loop-token : goal.invariant-loop-token
invariant-loop-token l =
    (goal.iterator-loop-token).can_next l.token-iterator
    × (goal.iterator-loop-token).is_finite l.token-iterator
    × (clipped l.written (map (cell (map mark_of l.labels)) (items (tokens_left l.token-iterator))) ≡ clipped l.initial.written (map (cell (map mark_of l.labels)) (items (tokens l.list))))
    × Kept l.initial.written l.written

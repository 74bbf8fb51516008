use Rattle.std.proofs.Common.{◌≡◌, map}
use Rattle.program.specs.declared.section.Section.TheVariants.{Code}
use Rattle.syntax.specs.Forms.{form}
use Rattle.syntax.specs.Left.{lines_left}
use Rattle.assembler.specs.Assembly.{forms}
use Rattle.assembler.specs.Cells.{cell, items_in}
use Rattle.assembler.specs.Marks.{mark_of}
use Rattle.assembler.specs.Progress.{Kept, clipped}
use Rattle.assembler.proofs.writing.write_section.Given as goal

abbrev pub invariant-loop-line : goal.invariant-loop-line
invariant-loop-line l =
    (goal.iterator-loop-line).can_next l.line-iterator
    × (goal.iterator-loop-line).is_finite l.line-iterator
    × (clipped l.written (map (cell (map mark_of l.labels)) (items_in l.want l.section (map form (lines_left l.line-iterator)))) ≡ clipped l.initial.written (map (cell (map mark_of l.labels)) (items_in l.want Code (forms l.text))))
    × Kept l.initial.written l.written

use Rattle.std.proofs.Common.{◌≡◌, map, drop}
use Rattle.std.specs.List.{flat_map}
use Rattle.assembler.specs.Assembly.{forms}
use Rattle.assembler.specs.Cells.{all, both, cell}
use Rattle.assembler.specs.Marks.{mark_of}
use Rattle.assembler.specs.Progress.{Kept, clipped}
use Rattle.assembler.proofs.writing.write_all.Given as goal

abbrev pub invariant-loop-want : goal.invariant-loop-want
invariant-loop-want l =
    (clipped l.written (map (cell (map mark_of l.labels)) (flat_map (λ q. both q (forms l.texts.site.now) (forms l.texts.library.now)) (drop l.want-index l.want-items))) ≡ clipped l.initial.written (map (cell (map mark_of l.labels)) (all (forms l.texts.site.now) (forms l.texts.library.now))))
    × Kept l.initial.written l.written

use Rattle.std.proofs.Common.{◌≡◌, ◌∷◌, cond, [], map, rules}
use Rattle.program.specs.declared.section.Section.TheVariants.{Code}
use Rattle.syntax.specs.Cells.{cells}
use Rattle.syntax.specs.Forms.{form}
use Rattle.syntax.specs.Left.{lines_left}
use Rattle.assembler.specs.Assembly.{forms}
use Rattle.assembler.specs.Cells.{cell, items_in}
use Rattle.assembler.specs.Marks.{mark_of}
use Rattle.assembler.proofs.Clips.{kept_then, left_then}
use Rattle.assembler.proofs.Taking.{same_section_eq}
use Rattle.assembler.proofs.Written.{items_more}
use Rattle.assembler.proofs.writing.write_section.Goals as goal

pub loop-line-preserved : goal.loop-line-preserved
loop-line-preserved c =
    let ls = map mark_of c.args.labels.now in
    let w = c.args.want in
    let p = c.put_line-section.ensures.cells in
    let line = c.in-Some.line.now in
    let rest = lines_left c.loop-line.line-iterator in
    let after = lines_left c.next.new.self in
    let h : rest ≡ line ∷ after = rw c.in-Some.is at c.next.ensures.steps in (
      search rules,
      search rules,
      left_then c.args.written.now c.loop-line.written c.put_line-section.new.written
          (map (cell ls) (cond c.eq.result (cells (form line)) []))
          (map (cell ls) (items_in w c.loop-line.section (map form rest)))
          (map (cell ls) (items_in w Code (forms c.args.text.now)))
          (map (cell ls) (items_in w c.put_line-section.result (map form after)))
          c.loop-line.invariant.2
          (items_more ls w c.loop-line.section c.put_line-section.result c.eq.result rest line after h (same_section_eq c.loop-line.section w c.eq.result c.eq.ensures) c.put_line-section.ensures.section)
          p,
      kept_then c.args.written.now c.loop-line.written c.put_line-section.new.written c.loop-line.invariant.3 p.kept,
    )

use Rattle.std.proofs.Common.{map, pos, sym, ap, ◌∙◌}
use Rattle.syntax.specs.Cells.{items_of}
use Rattle.syntax.specs.Meant.{meant}
use Rattle.assembler.specs.Cells.{cell}
use Rattle.assembler.specs.Marks.{mark_of}
use Rattle.assembler.proofs.Clips.{puts_as}
use Rattle.assembler.proofs.Written.{cells_bytes}
use Rattle.assembler.proofs.writing.put_token.Goals as goal

pub returns-in-Text : goal.returns-in-Text
returns-in-Text c =
    let ls = map mark_of c.args.labels.now in
    puts_as c.args.written.now c.put_bytes.new.written (map pos c.in-Text.text.now) _ (cells_bytes ls c.in-Text.text.now ∙ sym (ap (λ t. map (cell ls) (items_of (meant t))) c.in-Text.is)) c.put_bytes.ensures

use Rattle.std.proofs.Common.{map, length, replicate, sym, ap, ◌∙◌, rules}
use Rattle.std.proofs.lemmas.List.{length-replicate}
use Rattle.std.proofs.lemmas.Int.{to_z-of_z}
use Rattle.decimal.specs.Numbers.{numeral}
use Rattle.syntax.specs.Cells.{cells, times}
use Rattle.syntax.specs.Forms.{value}
use Rattle.syntax.specs.Stated.{stated}
use Rattle.assembler.specs.Cells.{cell}
use Rattle.assembler.specs.Marks.{mark_of}
use Rattle.assembler.proofs.Clips.{puts_as}
use Rattle.assembler.proofs.Written.{copies_put}
use Rattle.assembler.proofs.writing.put_statement.Goals as goal

pub returns-in-Copies : goal.returns-in-Copies
returns-in-Copies c =
    let ls = map mark_of c.args.labels.now in
    let z = numeral c.in-Copies.number.now in
    let k = times (numeral c.in-Copies.field-1.now) in
    let e = ap (λ t. map (cell ls) (cells (stated t))) c.in-Copies.is in
    let n = c.cells_of.ensures ∙ ap (λ t. length (cells (stated t))) c.in-Copies.is ∙ length-replicate k (value z) in
    puts_as c.args.written.now c.put_copies.new.written (map (cell ls) (replicate k (value z))) _ (sym e)
    (copies_put ls c.args.written.now c.put_copies.new.written c.cells_of.result k _ z c.put_copies.ensures n (search (rules, to_z-of_z)))

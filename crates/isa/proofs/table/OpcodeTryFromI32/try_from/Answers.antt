use Rattle.std.proofs.lemmas.Int.{to_z-of_z}
use Rattle.isa.proofs.Decoding.{decodes}
use Rattle.isa.proofs.table.OpcodeTryFromI32.try_from.Goals as goal

pub returns : goal.returns
returns c =
    let f = c.ranges.cell in
    decodes c.args.cell c.opcode_at.result c.ok_or.result _ (simp to_z-of_z at c.if-cell-lt1.false) (simp to_z-of_z at c.opcode_at.ensures) c.ok_or.ensures.value

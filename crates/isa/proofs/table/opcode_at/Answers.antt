use Rattle.std.proofs.Common.{rules, ◌∙◌}
use Rattle.isa.proofs.Decoding.{of_lent, part_at}
use Rattle.isa.proofs.table.opcode_at.Goals as goal

pub returns : goal.returns
returns c =
    of_lent (λ row. row.1) c.get.result c.map.result _ c.map.ensures.cases (λ x y k. search rules)
    ∙ part_at (λ row. row.1) c.args.rows.now c.args.place c.get.result c.get.ensures.lookup

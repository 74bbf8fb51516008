use Rattle.std.proofs.Common.{rules}
use Rattle.slots.proofs.Changes.{map_changed}
use Rattle.assembler.specs.Cells.{laid}
use Rattle.assembler.specs.Marks.{mark_of}
use Rattle.assembler.proofs.layout.lay_out.Goals as goal

pub returns-clause-labels : goal.returns-clause-labels
returns-clause-labels c = map_changed _ mark_of (laid c.args.tally) (λ x y k. search rules) _ _ c.change_each.ensures.items

use Rattle.std.proofs.Common.{map, rules}
use Rattle.slots.proofs.Changes.{map_changed}
use Rattle.assembler.specs.Cells.{opening}
use Rattle.assembler.specs.Marks.{entry_of, mark_of}
use Rattle.assembler.proofs.layout.open_units.Goals as goal

pub returns-clause-units : goal.returns-clause-units
returns-clause-units c = map_changed _ entry_of (opening (map mark_of c.args.labels.now)) (λ x y k. search rules) _ _ c.change_each.ensures.items

use Rattle.std.proofs.Common.{rules}
use Rattle.syntax.proofs.Listed.{items_span}
use Rattle.syntax.proofs.extents.cells_of.Goals as goal

pub returns-in-Words : goal.returns-in-Words
returns-in-Words c = search (rules, items_span)

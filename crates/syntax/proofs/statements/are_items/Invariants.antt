use Rattle.std.proofs.Common.{◌≡◌}
use Rattle.syntax.specs.Forms.{is_list}
use Rattle.syntax.specs.Left.{tokens_left}
use Rattle.syntax.specs.Tokens.{tokens}
use Rattle.syntax.proofs.Listed.{list_due}
use Rattle.syntax.proofs.statements.are_items.Given as goal

abbrev pub invariant-loop-token : goal.invariant-loop-token
invariant-loop-token l =
    (goal.iterator-loop-token).can_next l.token-iterator
    × (goal.iterator-loop-token).is_finite l.token-iterator
    × (list_due l.item_due (tokens_left l.token-iterator) ≡ is_list (tokens l.line))

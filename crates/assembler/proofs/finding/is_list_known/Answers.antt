use borrow.Author.Tests.{tests}
use Rattle.std.proofs.Common.{map, ◌∙◌, rules}
use Rattle.std.proofs.lemmas.Iterator.Consumers.{YieldsList-from_first}
use Rattle.std.proofs.lemmas.Iterator.Search.{all_from_yields_List}
use Rattle.syntax.specs.Cells.{items_of}
use Rattle.syntax.specs.Left.{tokens_left}
use Rattle.syntax.specs.Meant.{meant}
use Rattle.syntax.specs.Tokens.{tokens}
use Rattle.assembler.specs.Cells.{all_known}
use Rattle.assembler.specs.Marks.{mark_of}
use Rattle.assembler.proofs.Searches.{known_tokens}
use Rattle.assembler.proofs.finding.is_list_known.Goals as goal

pub returns : goal.returns
returns c =
    let ls = map mark_of c.args.labels.now in
    all_from_yields_List (λ t. all_known ls (items_of t)) c.all.new.self _ _ c.all.ensures.ran (YieldsList-from_first meant tokens_left (tokens c.args.list.now) c.new.ensures.tokens) (λ x b q k. search (rules, tests))
    ∙ known_tokens ls (tokens c.args.list.now)

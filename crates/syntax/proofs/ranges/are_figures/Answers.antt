use borrow.Author.Tests.{tests}
use Rattle.std.proofs.Common.{rules}
use Rattle.std.proofs.lemmas.Iterator.Consumers.{YieldsList-from_first}
use Rattle.std.proofs.lemmas.Iterator.Search.{all_from_yields_List}
use Rattle.syntax.specs.Left.{tokens_left}
use Rattle.syntax.specs.Meant.{meant}
use Rattle.syntax.specs.Ranges.{figure_range}
use Rattle.syntax.proofs.ranges.are_figures.Goals as goal

pub returns : goal.returns
returns c = all_from_yields_List figure_range c.all.new.self _ _ c.all.ensures.ran (YieldsList-from_first meant tokens_left _ c.new.ensures.tokens) (λ x b q k. search (rules, tests))

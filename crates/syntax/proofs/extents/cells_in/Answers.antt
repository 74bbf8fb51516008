use borrow.Author.Tests.{tests}
use Rattle.std.proofs.Common.{◌≡◌, rules, arith}
use Rattle.std.proofs.lemmas.Iterator.{YieldsList-from_map}
use Rattle.std.proofs.lemmas.Iterator.Consumers.{YieldsList-at, YieldsList-from_first, sum_by_from_yields_List, fits_by_from_yields_list}
use Rattle.syntax.specs.Cells.{span, spans}
use Rattle.syntax.specs.Left.{tokens_left}
use Rattle.syntax.specs.Meant.{meant}
use Rattle.syntax.specs.Tokens.{tokens}
use Rattle.syntax.proofs.Bounds.{spans_le}
use Rattle.syntax.proofs.extents.cells_in.Goals as goal

pub sum-requires-clause-fits : goal.sum-requires-clause-fits
sum-requires-clause-fits c = fits_by_from_yields_list span (tokens c.args.list.now) _ _ (YieldsList-from_map _ span (YieldsList-at c.map.ensures.source (YieldsList-from_first meant tokens_left (tokens c.args.list.now) c.new.ensures.tokens)) c.map.ensures.closure (λ x r q k. search (rules, tests))) (omega (arith, spans_le c.args.list.now))

spans_summed : (c : goal.After-sum) → c.sum.result ≡ spans (tokens c.args.list.now)
spans_summed c = sum_by_from_yields_List span (tokens c.args.list.now) _ _ c.sum.ensures.ran (YieldsList-from_map _ span (YieldsList-at c.map.ensures.source (YieldsList-from_first meant tokens_left (tokens c.args.list.now) c.new.ensures.tokens)) c.map.ensures.closure (λ x r q k. search (rules, tests)))

pub returns-clause-is : goal.returns-clause-is
returns-clause-is c = spans_summed c

pub returns-clause-within : goal.returns-clause-within
returns-clause-within c = rw (spans_summed c) (spans_le c.args.list.now)

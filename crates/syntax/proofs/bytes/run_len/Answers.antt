use borrow.Author.Tests.{tests}
use Rattle.std.proofs.Common.{◌≡◌, ◌∙◌, rules}
use Rattle.std.proofs.lemmas.Iterator.{YieldsList-from_slice}
use Rattle.std.proofs.lemmas.Iterator.Consumers.{YieldsList-at, count_from_yields_List}
use Rattle.std.proofs.lemmas.Iterator.Search.{YieldsList-from_take_while}
use Rattle.std.proofs.lemmas.List.Folds.{length-prefix_len}
use Rattle.std.specs.List.{prefix_len}
use Rattle.syntax.proofs.Runs.{front_prefix, after_prefix}
use Rattle.syntax.proofs.bytes.run_len.Goals as goal

pub returns-clause-run : goal.returns-clause-run
returns-clause-run g c p h =
    let all = c.args.line.now in
    let n : c.count.result ≡ prefix_len p all =
    count_from_yields_List c.take_while.result _ c.count.ensures.ran (YieldsList-from_take_while _ p (YieldsList-at c.take_while.ensures.source (YieldsList-from_slice all c.iter.ensures.rest)) c.take_while.ensures.closure c.take_while.ensures.done (λ x b q k. search (rules, tests, h))) ∙ length-prefix_len p all in
    (rw n (front_prefix p all), rw n (after_prefix p all))

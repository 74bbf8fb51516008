use borrow.Author.Tests.{tests}
use Rattle.std.proofs.Common.{◌≡◌, rules, arith, not, length, ◌+◌, List, ℕ, ap, ◌∙◌, take}
use Rattle.std.proofs.lemmas.Iterator.{YieldsList-from_map}
use Rattle.std.proofs.lemmas.Iterator.Search.{YieldsList-from_take_while}
use Rattle.std.proofs.lemmas.Iterator.Consumers.{YieldsList-at, YieldsList-from_first, sum_by_from_yields_List, fits_by_from_yields_list}
use Rattle.syntax.specs.Left.{lines_left}
use Rattle.syntax.specs.Lines.{lines}
use Rattle.bench.specs.Input.{before, extent, is_dot_text}
use Rattle.bench.proofs.Cutting.{extent_before, take_min}
use Rattle.bench.proofs.input.site_text.Goals as goal

pub sum-extent-requires-clause-fits : goal.sum-extent-requires-clause-fits
sum-extent-requires-clause-fits c =
    let xs = c.args.input.now in
    fits_by_from_yields_list (λ (l : List ℕ). length l + 1) (before (lines xs)) _ _
    (YieldsList-from_map _ (λ (l : List ℕ). length l + 1) (YieldsList-at c.map.ensures.source (YieldsList-from_take_while _ (λ l. not (is_dot_text l)) (YieldsList-at c.take_while.ensures.source (YieldsList-from_first (λ l. l.now) lines_left (lines xs) c.new.ensures.lines)) c.take_while.ensures.closure c.take_while.ensures.done (λ x b q k. search (rules, tests)))) c.map.ensures.closure (λ x r q k. search (rules, tests)))
    (omega (arith, extent_before xs))

pub returns : goal.returns
returns c =
    let xs = c.args.input.now in
    let e : c.sum-extent.result ≡ extent (before (lines xs)) =
    sum_by_from_yields_List (λ (l : List ℕ). length l + 1) (before (lines xs)) _ _ c.sum-extent.ensures.ran
    (YieldsList-from_map _ (λ (l : List ℕ). length l + 1) (YieldsList-at c.map.ensures.source (YieldsList-from_take_while _ (λ l. not (is_dot_text l)) (YieldsList-at c.take_while.ensures.source (YieldsList-from_first (λ l. l.now) lines_left (lines xs) c.new.ensures.lines)) c.take_while.ensures.closure c.take_while.ensures.done (λ x b q k. search (rules, tests)))) c.map.ensures.closure (λ x r q k. search (rules, tests)))
    in
    ap (λ n. take n xs) c.min.ensures ∙ take_min c.sum-extent.result xs ∙ ap (λ n. take n xs) e

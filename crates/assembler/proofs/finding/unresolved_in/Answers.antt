use borrow.Author.Tests.{tests}
use Rattle.std.proofs.Common.{◌+◌, not, map, option_map, sym, ap, ◌∙◌, rules}
use Rattle.std.proofs.lemmas.Iterator.Consumers.{YieldsList-from_first}
use Rattle.std.proofs.lemmas.Iterator.Search.{position_from_yields_List}
use Rattle.syntax.specs.Forms.{form}
use Rattle.syntax.specs.Left.{lines_left}
use Rattle.syntax.specs.Lines.{lines}
use Rattle.assembler.specs.Cells.{resolved}
use Rattle.assembler.specs.Marks.{mark_of}
use Rattle.assembler.proofs.Searches.{unresolved_found}
use Rattle.assembler.proofs.finding.unresolved_in.Goals as goal

pub returns : goal.returns
returns c =
    let ls = map mark_of c.args.labels.now in
    let xs = lines c.args.text.now in
    ap (option_map (λ n. n + 1)) (sym c.in_ok-place.was)
    ∙ unresolved_found ls xs c.position.result (position_from_yields_List (λ l. not (resolved ls (form l))) c.position.new.self _ _ c.position.ensures.ran (YieldsList-from_first (λ l. l.now) lines_left xs c.new.ensures.lines) (λ x b q k. search (rules, tests)))

pub returns-in_err-place : goal.returns-in_err-place
returns-in_err-place c =
    let ls = map mark_of c.args.labels.now in
    let xs = lines c.args.text.now in
    c.from_residual.ensures
    ∙ ap (option_map (λ n. n + 1)) (sym c.in_err-place.was)
    ∙ unresolved_found ls xs c.position.result (position_from_yields_List (λ l. not (resolved ls (form l))) c.position.new.self _ _ c.position.ensures.ran (YieldsList-from_first (λ l. l.now) lines_left xs c.new.ensures.lines) (λ x b q k. search (rules, tests)))

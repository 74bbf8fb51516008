use borrow.Author.Tests.{tests}
use Rattle.std.proofs.Common.{rules, ap, ◌∙◌}
use Rattle.bench.specs.Input.{beyond}
use Rattle.bench.proofs.Finding.{found}
use Rattle.bench.proofs.input.reading_lines.Goals as goal

pub returns : goal.returns
returns c =
    let d = c.find.ensures.ran in
    found _ _ (λ x b q k. search (rules, tests)) d.0 c.new-lines.result d.2.0 c.find.new.self c.find.result d.1 d.2.1 d.2.2 d.3 d.4 ∙ ap beyond c.new-lines.ensures.lines

use borrow.Author.Tests.{tests}
use Rattle.std.proofs.Common.{rules}
use Rattle.std.proofs.lemmas.Iterator.{YieldsList-from_slice}
use Rattle.std.proofs.lemmas.Iterator.Search.{find_from_yields_List}
use Rattle.program.specs.Names.{name_of, same, smalls}
use Rattle.program.specs.declared.label.Label.{Label}
use Rattle.assembler.proofs.Searches.{found_address}
use Rattle.assembler.proofs.finding.find.Goals as goal

pub returns : goal.returns
returns c =
    let w = smalls c.args.word.now in
    let xs = c.args.labels.now in
    found_address w xs c.find.result c.map.result _
    (find_from_yields_List (λ (l : Label). same w (name_of l.name)) c.find.new.self _ c.find.result c.find.ensures.ran (YieldsList-from_slice xs cc) (λ x b q k. search (rules, tests)))
    c.map.ensures.cases (λ x a k. search rules)

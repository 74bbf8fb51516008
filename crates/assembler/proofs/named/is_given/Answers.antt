use borrow.Author.Tests.{tests}
use Rattle.std.proofs.Common.{◌∙◌, rules}
use Rattle.std.proofs.lemmas.Iterator.{YieldsList-from_slice}
use Rattle.std.proofs.lemmas.Iterator.Search.{any_from_yields_List}
use Rattle.program.specs.Names.{same, smalls}
use Rattle.assembler.proofs.Adding.{has_any}
use Rattle.assembler.proofs.named.is_given.Goals as goal

pub returns : goal.returns
returns g c =
    let w = smalls c.args.word.now in
    let xs = c.args.items.now in
    any_from_yields_List (λ x. same w (g.T.Named.named x)) c.any.new.self _ _ c.any.ensures.ran (YieldsList-from_slice xs cc) (λ x b q k. search (rules, tests))
    ∙ has_any g.T.Named.named w xs

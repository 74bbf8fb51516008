use Rattle.std.proofs.Common.{rules, ◌∙◌, ◌==◌}
use Rattle.std.proofs.lemmas.Iterator.{YieldsList-from_slice, YieldsList-from_zip}
use Rattle.std.proofs.lemmas.Iterator.Search.{all_from_yields_List}
use Rattle.program.specs.Names.{small}
use Rattle.program.proofs.Letters.{same_apart, same_each}
use Rattle.program.proofs.naming.is_word.Goals as goal

pub returns-then-word-name : goal.returns-then-word-name
returns-then-word-name c = same_apart c.args.word.now c.args.name.now c.if-word-name.true

pub returns : goal.returns
returns c =
    let pairs = YieldsList-from_zip {s = c.zip.result} (YieldsList-from_slice c.args.word.now cc) (YieldsList-from_slice c.args.name.now cc) in
    all_from_yields_List (λ p. small p.0 == p.1) c.all.new.self _ c.all.result c.all.ensures.ran pairs (λ x b q k. search rules)
    ∙ same_each c.args.word.now c.args.name.now c.if-word-name.false

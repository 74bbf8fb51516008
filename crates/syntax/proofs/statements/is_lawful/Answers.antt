use borrow.Author.Tests.{tests}
use Rattle.std.proofs.Common.{◌≡◌, ◌&&◌, length, sym, ap, ◌∙◌, arith, rules, ltb-true, ltb-false}
use Rattle.std.proofs.lemmas.Bool.{le-leb}
use Rattle.std.proofs.lemmas.Iterator.{YieldsList-from_slice}
use Rattle.std.proofs.lemmas.Iterator.Search.{all_from_yields_List}
use Rattle.syntax.specs.Bytes.{every, plain}
use Rattle.syntax.proofs.statements.is_lawful.Goals as goal

pub returns-then-line-le255 : goal.returns-then-line-le255
returns-then-line-le255 c =
    let e : c.all.result ≡ every plain c.args.line.now = all_from_yields_List plain c.all.new.self _ _ c.all.ensures.ran (YieldsList-from_slice c.args.line.now cc) (λ x b q k. search (rules, tests)) in
    e ∙ sym (ap (λ b. b && every plain c.args.line.now) (le-leb (length c.args.line.now) 255 (omega (arith, ltb-true, ltb-false))))

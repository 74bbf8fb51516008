use Rattle.std.proofs.Common.{ap, slice_get, ◌∙◌}
use Rattle.std.proofs.lemmas.Iterator.Consumers.{YieldsList-from_first, nth_from_yields_List}
use Rattle.syntax.specs.Left.{lines_left}
use Rattle.syntax.specs.Lines.{lines}
use Rattle.syntax.proofs.Counting.{looked_up, line_get}
use Rattle.syntax.proofs.lines.line_in.Goals as goal

pub returns : goal.returns
returns c =
    let ls = lines c.args.text.now in
    let at = c.in_ok-checked_sub.ensures in
    let got = nth_from_yields_List c.nth.result c.nth.new.self _ c.nth.ensures.ran (YieldsList-from_first (λ l. l.now) lines_left ls c.new.ensures.lines) in
    looked_up (λ l. l.now) c.nth.result _ (got ∙ ap (slice_get ls) at.1 ∙ line_get c.args.number ls at.0)

use Rattle.std.proofs.Common.{rules}
use Rattle.std.proofs.lemmas.Option.{IfSome_then}
use Rattle.syntax.proofs.Cuts.{lines_cut}
use Rattle.syntax.proofs.lines.next_line.Goals as goal

pub returns-clause-lines : goal.returns-clause-lines
returns-clause-lines c = lines_cut c.args.text.now c.is_empty.result c.then.result c.is_empty.ensures c.then.ensures.variant (IfSome_then c.then.result c.then.ensures.some (λ p k. search rules))

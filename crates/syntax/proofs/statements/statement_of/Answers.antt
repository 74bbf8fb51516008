use Rattle.std.proofs.Common.{◌≡◌, rules}
use Rattle.syntax.specs.Forms.{form}
use Rattle.syntax.specs.Stated.{line_form}
use Rattle.syntax.proofs.Bounds.{limited}
use Rattle.syntax.proofs.statements.statement_of.Goals as goal

pub returns-clause-limited : goal.returns-clause-limited
returns-clause-limited c =
    let e : line_form c.ok_or.result ≡ form c.args.line.now = search rules in
    rw e (limited c.args.line.now)

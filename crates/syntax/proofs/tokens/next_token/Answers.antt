use Rattle.syntax.specs.Meant.{meant}
use Rattle.syntax.proofs.Tokened.{tokens_read}
use Rattle.syntax.proofs.tokens.next_token.Goals as goal

pub returns-clause-tokens : goal.returns-clause-tokens
returns-clause-tokens c = tokens_read c.args.line.now c.first_token.result (λ p. meant p.0) (λ p. p.1.now) c.first_token.ensures

use Rattle.std.proofs.Common.{rules}
use Rattle.syntax.specs.Bytes.{continues}
use Rattle.syntax.proofs.tokens.name_token.Goals as goal

pub returns-then-word-le31 : goal.returns-then-word-le31
returns-then-word-le31 c =
    let run = c.run_len.ensures.run continues (λ byte r e. search rules) in
    search rules

pub returns-else-word-le31 : goal.returns-else-word-le31
returns-else-word-le31 c =
    let run = c.run_len.ensures.run continues (λ byte r e. search rules) in
    search rules

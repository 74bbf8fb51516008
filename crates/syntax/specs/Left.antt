-- What an iterator has left to give.
use Rattle.std.specs.Prelude.{ℕ, List}
use Rattle.syntax.specs.Lines.{lines}
use Rattle.syntax.specs.Tokens.{Tok, tokens}
use Rattle.syntax.specs.declared.lines.Lines.{Lines}
use Rattle.syntax.specs.declared.tokens.Tokens.{Tokens}

-- the tokens of what is left of a line
abbrev pub tokens_left : Tokens → List Tok
tokens_left s = tokens s.rest.now

-- the lines of what is left of a text
abbrev pub lines_left : Lines → List (List ℕ)
lines_left s = lines s.rest.now

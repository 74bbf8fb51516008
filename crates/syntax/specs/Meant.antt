-- What the tokens of the code mean.
use Rattle.std.specs.Prelude.{ℕ, List, [], ◌∷◌}
use Rattle.program.specs.Names.{smalls}
use Rattle.decimal.specs.Numbers.{numeral}
use Rattle.syntax.specs.Tokens.{Tok, name, number, character, text, sign, Read, read, token_of_bytes}
use Rattle.syntax.specs.declared.tokens.Token.{Token}
use Rattle.syntax.specs.declared.tokens.Token.TheVariants.{Name, Number, Character, Text, Sign}

abbrev pub meant : Token → Tok
meant (Name w) = name (smalls w.now)
meant (Number ds) = number (numeral ds.now)
meant (Character c) = character c
meant (Text s) = text s.now
meant (Sign c) = sign c

-- the token at the front of a list that is not empty
abbrev pub token_of : List ℕ → Read
token_of [] = read (sign 0) []
token_of (c ∷ cs) = token_of_bytes c cs

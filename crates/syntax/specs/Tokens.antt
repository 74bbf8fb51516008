-- The tokens of a line.
use Rattle.std.specs.Prelude.{ℕ, zero, suc, Bool, true, false, not, ◌&&◌, ◌||◌, List, [], ◌∷◌, length, ℤ, Some, None, Option, ◌==◌, nat_le}
use Rattle.program.specs.Names.{smalls}
use Rattle.decimal.specs.Numbers.{digit, numeral}
use Rattle.syntax.specs.Bytes.{blank, comment, starts, continues, front, after}

-- a name stands in small letters; a byte that begins nothing else is a sign
pub data Tok : Type 0 where
  name : List ℕ → Tok
  number : ℤ → Tok
  character : ℕ → Tok
  text : List ℕ → Tok
  sign : ℕ → Tok

-- a token, and the rest of the line
pub record Read : Type 0 where
  pub token : Tok
  pub rest : List ℕ

abbrev pub read : Tok → List ℕ → Read
read t bs = record { token = t; rest = bs }

-- is there a first byte, and does it pass?
abbrev pub begins : (ℕ → Bool) → List ℕ → Bool
begins p [] = false
begins p (c ∷ cs) = p c

abbrev pub not_quote : ℕ → Bool
not_quote c = not (c == 34)

-- after an apostrophe: the character, the apostrophe that closes it, and the rest
abbrev pub quoted : List ℕ → Read
quoted [] = read (sign 39) []
quoted (c ∷ []) = read (sign 39) (c ∷ [])
quoted (c ∷ d ∷ cs) = elim (d == 39) [ true ↦ read (character c) cs | false ↦ read (sign 39) (c ∷ d ∷ cs) ]

-- after a quotation mark, where `all` follows it: the text, and what follows the text
abbrev pub closed : List ℕ → List ℕ → List ℕ → Read
closed all body [] = read (sign 34) all
closed all body (c ∷ cs) = read (text body) cs

-- does a number begin at c? Its minus stands right before its digits
abbrev pub figures : ℕ → List ℕ → Bool
figures c cs = digit c || (c == 45 && begins digit cs)

-- a word of more than 31 bytes is no name, and no form has it
abbrev pub word : ℕ → List ℕ → Tok
word c w = elim (nat_le (length w) 31) [ true ↦ name (smalls w) | false ↦ sign c ]

-- the token that begins at the byte c, which is no blank, and the rest of the line
abbrev pub token_of_bytes : ℕ → List ℕ → Read
token_of_bytes c cs =
    elim (starts c) [
      | true ↦ read (word c (c ∷ front continues cs)) (after continues cs)
      | false ↦
          elim (figures c cs) [
            | true ↦ read (number (numeral (c ∷ front digit cs))) (after digit cs)
            | false ↦
                elim (c == 39) [
                  | true ↦ quoted cs
                  | false ↦
                      elim (c == 34) [
                        | true ↦ closed cs (front not_quote cs) (after not_quote cs)
                        | false ↦
                            read (sign c) cs
                      ]
                ]
          ]
    ]

-- at the first byte that is no blank: none at the line's end and at a comment
abbrev pub unblanked : List ℕ → Option Read
unblanked [] = None
unblanked (c ∷ cs) = elim (comment c) [ true ↦ None | false ↦ Some (token_of_bytes c cs) ]

-- the first token of what is left of a line, and the rest
abbrev pub next_read : List ℕ → Option Read
next_read bs = unblanked (after blank bs)

-- at most so many tokens
abbrev pub tokens_by : ℕ → List ℕ → List Tok
tokens_by zero bs = []
tokens_by (suc k) bs = elim (next_read bs) [ None ↦ [] | Some r ↦ r.token ∷ tokens_by k r.rest ]

-- all of them: a token takes at least a byte
abbrev pub tokens : List ℕ → List Tok
tokens bs = tokens_by (length bs) bs

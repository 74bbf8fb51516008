-- The tokens of a line: the first, then those of the rest.
use Rattle.std.proofs.Common.{◌≡◌, ℕ, zero, suc, ◌+◌, ◌<◌, ◌≤◌, Bool, true, false, eqb, leb, List, [], ◌∷◌, length, Some, None, Option, sym, refl, ap, ◌∙◌, arith, MatchOption}
use Rattle.std.proofs.lemmas.Bool.{leb-true}
use Rattle.std.proofs.lemmas.List.{length-map}
use Rattle.std.proofs.lemmas.Option.{none-some}
use Rattle.decimal.specs.Numbers.{digit}
use Rattle.syntax.specs.Bytes.{starts, comment, blank, continues, front, after}
use Rattle.syntax.specs.Tokens.{Tok, name, number, character, text, sign, Read, read, word, token_of_bytes, quoted, closed, figures, not_quote, unblanked, next_read, tokens_by, tokens}
use Rattle.syntax.specs.Cells.{span}
use Rattle.syntax.proofs.Runs.{front_at_yes, front_at_no, after_at_yes, after_at_no}

-- a name of at most 31 bytes
abbrev pub ShortTok : Tok → Type 0
ShortTok (name w) = length w ≤ 31
ShortTok (number z) = Unit {0}
ShortTok (character c) = Unit {0}
ShortTok (text s) = Unit {0}
ShortTok (sign c) = Unit {0}

-- read where n bytes follow the first: the rest is among them, the token takes no more cells than bytes, and it is short
abbrev Fair : ℕ → Read → Type 0
Fair n r = (length r.rest ≤ n) × (span r.token + length r.rest ≤ suc n) × ShortTok r.token

front_le : (p : ℕ → Bool) (xs : List ℕ) → length (front p xs) + length (after p xs) ≤ length xs
front_le p [] = omega arith
front_le p (c ∷ cs) = go (p c) refl (front_le p cs)
  where
    go : (b : Bool) → p c ≡ b → length (front p cs) + length (after p cs) ≤ length cs → length (front p (c ∷ cs)) + length (after p (c ∷ cs)) ≤ length (c ∷ cs)
    go true e ih = rw (front_at_yes p c cs e, after_at_yes p c cs e) (omega arith)
    go false e ih = rw (front_at_no p c cs e, after_at_no p c cs e) (omega arith)

word_fair : (c : ℕ) (w : List ℕ) → (span (word c w) ≤ 1) × ShortTok (word c w)
word_fair c w = go (leb (length w) 31) refl
  where
    go : (b : Bool) → leb (length w) 31 ≡ b → (span (word c w) ≤ 1) × ShortTok (word c w)
    go true e = rw (e, word) (omega arith, rw length-map (leb-true (length w) 31 e))
    go false e = rw (e, word) (omega arith, tt)

quoted_fair : (cs : List ℕ) → Fair (length cs) (quoted cs)
quoted_fair [] = (omega arith, omega arith, tt)
quoted_fair (c ∷ []) = (omega arith, omega arith, tt)
quoted_fair (c ∷ d ∷ cs) = go (eqb d 39) refl
  where
    go : (b : Bool) → eqb d 39 ≡ b → Fair (length (c ∷ d ∷ cs)) (quoted (c ∷ d ∷ cs))
    go true e = rw (e, quoted) (omega arith, omega arith, tt)
    go false e = rw (e, quoted) (omega arith, omega arith, tt)

closed_fair : (all body zs : List ℕ) → length body + length zs ≤ length all → Fair (length all) (closed all body zs)
closed_fair all body [] h = (omega arith, omega arith, tt)
closed_fair all body (z ∷ zs) h = (omega arith, omega arith, tt)

token_fair : (c : ℕ) (cs : List ℕ) → Fair (length cs) (token_of_bytes c cs)
token_fair c cs = go (starts c) (figures c cs) (eqb c 39) (eqb c 34) refl refl refl refl
  where
    go : (a b d q : Bool) → starts c ≡ a → figures c cs ≡ b → eqb c 39 ≡ d → eqb c 34 ≡ q → Fair (length cs) (token_of_bytes c cs)
    go true b d q e f g h =
        let w = word_fair c (c ∷ front continues cs) in
        rw (e, token_of_bytes) (omega (arith, front_le continues cs), omega (arith, front_le continues cs, w.0), w.1)
    go false true d q e f g h = rw (e, f, token_of_bytes) (omega (arith, front_le digit cs), omega (arith, front_le digit cs), tt)
    go false false true q e f g h = rw (e, f, g, token_of_bytes) (quoted_fair cs)
    go false false false true e f g h = rw (e, f, g, h, token_of_bytes) (closed_fair cs (front not_quote cs) (after not_quote cs) (front_le not_quote cs))
    go false false false false e f g h = rw (e, f, g, h, token_of_bytes) (omega arith, omega arith, tt)

unblanked_fair : (xs : List ℕ) (r : Read) → unblanked xs ≡ Some r → (length r.rest < length xs) × (span r.token + length r.rest ≤ length xs) × ShortTok r.token
unblanked_fair [] r e = absurd (none-some r e)
unblanked_fair (c ∷ cs) r e = go (comment c) refl
  where
    go : (b : Bool) → comment c ≡ b → (length r.rest < length (c ∷ cs)) × (span r.token + length r.rest ≤ length (c ∷ cs)) × ShortTok r.token
    go true f = let k : unblanked (c ∷ cs) ≡ None = rw (f, unblanked) refl in absurd (none-some r (sym k ∙ e))
    go false f =
        let k : unblanked (c ∷ cs) ≡ Some (token_of_bytes c cs) = rw (f, unblanked) refl in
        let z : r ≡ token_of_bytes c cs = cc in
        let t = token_fair c cs in
        rw z (omega (arith, t.0), t.1, t.2)

-- what is left of a line after a token, and the token
pub next_fair : (bs : List ℕ) (r : Read) → next_read bs ≡ Some r → (length r.rest < length bs) × (span r.token + length r.rest ≤ length bs) × ShortTok r.token
next_fair bs r e =
    let h = unblanked_fair (after blank bs) r e in
    (omega (arith, h.0, front_le blank bs), omega (arith, h.1, front_le blank bs), h.2)

by_none : (k : ℕ) (bs : List ℕ) → next_read bs ≡ None → tokens_by k bs ≡ []
by_none zero bs e = refl
by_none (suc k) bs e = rw (e, tokens_by) refl

by_some : (k : ℕ) (bs : List ℕ) (r : Read) → next_read bs ≡ Some r → tokens_by (suc k) bs ≡ r.token ∷ tokens_by k r.rest
by_some k bs r e = rw (e, tokens_by) refl

-- more turns than bytes give no more tokens
turns : (j k : ℕ) (bs : List ℕ) → length bs ≤ j → length bs ≤ k → tokens_by j bs ≡ tokens_by k bs
turns zero zero bs g h = refl
turns zero (suc k) [] g h = refl
turns zero (suc k) (b ∷ bs) g h = absurd (omega arith)
turns (suc j) zero [] g h = refl
turns (suc j) zero (b ∷ bs) g h = absurd (omega arith)
turns (suc j) (suc k) bs g h = go (next_read bs) refl (turns j k)
  where
    go : (o : Option Read) → next_read bs ≡ o → ((cs : List ℕ) → length cs ≤ j → length cs ≤ k → tokens_by j cs ≡ tokens_by k cs) → tokens_by (suc j) bs ≡ tokens_by (suc k) bs
    go None e ih = by_none (suc j) bs e ∙ sym (by_none (suc k) bs e)
    go (Some r) e ih =
        let l = (next_fair bs r e).0 in
        by_some j bs r e ∙ ap (λ ts. r.token ∷ ts) (ih r.rest (omega arith) (omega arith)) ∙ sym (by_some k bs r e)

by_count : (k : ℕ) (bs : List ℕ) → length (tokens_by k bs) ≤ k
by_count zero bs = omega arith
by_count (suc k) bs = go (next_read bs) refl (by_count k)
  where
    go : (o : Option Read) → next_read bs ≡ o → ((cs : List ℕ) → length (tokens_by k cs) ≤ k) → length (tokens_by (suc k) bs) ≤ suc k
    go None e h = rw (e, tokens_by) (omega arith)
    go (Some r) e h = rw (e, tokens_by) (omega (arith, h r.rest))

-- a line has at most as many tokens as bytes
pub tokens_count : (bs : List ℕ) → length (tokens bs) ≤ length bs
tokens_count bs = by_count (length bs) bs

tokens_none : (bs : List ℕ) → next_read bs ≡ None → tokens bs ≡ []
tokens_none bs e = by_none (length bs) bs e

tokens_some : (bs : List ℕ) (r : Read) → next_read bs ≡ Some r → tokens bs ≡ r.token ∷ tokens r.rest
tokens_some bs r e =
    let l = (next_fair bs r e).0 in
    turns (length bs) (suc (length bs)) bs (omega arith) (omega arith) ∙ by_some (length bs) bs r e ∙ ap (λ ts. r.token ∷ ts) (turns (length bs) (length r.rest) r.rest (omega arith) (omega arith))

-- what a reader of one token gives, as a step through the tokens
pub tokens_read : {P : Type 0} (bs : List ℕ) (r : Option P) (tok : P → Tok) (rest : P → List ℕ) → MatchOption r (next_read bs ≡ None) (λ p. next_read bs ≡ Some (read (tok p) (rest p))) → MatchOption r (tokens bs ≡ []) (λ p. (tokens bs ≡ tok p ∷ tokens (rest p)) × (length (rest p) < length bs) × (span (tok p) + length (rest p) ≤ length bs))
tokens_read bs None tok rest e = tokens_none bs e
tokens_read bs (Some p) tok rest e =
    let h = next_fair bs (read (tok p) (rest p)) e in
    (tokens_some bs (read (tok p) (rest p)) e, h.0, h.1)

-- The first line of a text, and the others.
use Rattle.std.proofs.Common.{◌≡◌, ℕ, suc, ◌<◌, ◌≤◌, Bool, true, false, eqb, List, [], ◌∷◌, length, drop, Some, None, MatchOption, IfSome, Option, Bor, is_some, nat_eq, not, sym, refl, ap, ◌∙◌, arith}
use Rattle.std.proofs.lemmas.Bool.{false≢true, eqb-true}
use Rattle.syntax.specs.Bytes.{front, after}
use Rattle.syntax.specs.Lines.{lines, onto, not_end}

-- a text that is not empty: its first line, and the lines after its byte 10
pub lines_first : (xs : List ℕ) → 0 < length xs → lines xs ≡ front not_end xs ∷ lines (drop 1 (after not_end xs))
lines_first [] h = absurd (omega arith)
lines_first (c ∷ []) h = go (eqb c 10) refl
  where
    go : (b : Bool) → eqb c 10 ≡ b → lines (c ∷ []) ≡ front not_end (c ∷ []) ∷ lines (drop 1 (after not_end (c ∷ [])))
    go true e = rw (e, lines, front, after) refl
    go false e = rw (e, lines, front, after) refl
lines_first (c ∷ d ∷ ds) h = go (eqb c 10) refl (lines_first (d ∷ ds) (omega arith))
  where
    go : (b : Bool) → eqb c 10 ≡ b → lines (d ∷ ds) ≡ front not_end (d ∷ ds) ∷ lines (drop 1 (after not_end (d ∷ ds))) → lines (c ∷ d ∷ ds) ≡ front not_end (c ∷ d ∷ ds) ∷ lines (drop 1 (after not_end (c ∷ d ∷ ds)))
    go true e ih = rw (e, lines, front, after) refl
    go false e ih = rw (e, lines, front, after) (ap (onto c) ih)

-- a text has at most as many lines as bytes
pub lines_count : (xs : List ℕ) → length (lines xs) ≤ length xs
lines_count [] = omega arith
lines_count (c ∷ cs) = go (eqb c 10) refl (lines_count cs)
  where
    onto_count : (ls : List (List ℕ)) → length (onto c ls) ≤ suc (length ls)
    onto_count [] = omega arith
    onto_count (l ∷ ls) = omega arith

    go : (b : Bool) → eqb c 10 ≡ b → length (lines cs) ≤ length cs → length (lines (c ∷ cs)) ≤ length (c ∷ cs)
    go true e h = rw (e, lines) (omega (arith, h))
    go false e h = rw (e, lines) (omega (arith, h, onto_count (lines cs)))

-- a text that is cut if it is not empty: the parts are its first line and the others
pub lines_cut : (xs : List ℕ) (b : Bool) (r : Option (Bor (List ℕ) × Bor (List ℕ))) → b ≡ nat_eq (length xs) 0 → is_some r ≡ not b → IfSome r (λ p. (p.0.now ≡ front not_end xs) × (p.1.now ≡ drop 1 (after not_end xs))) → MatchOption r (lines xs ≡ []) (λ p. lines xs ≡ p.0.now ∷ lines p.1.now)
lines_cut [] b None e f g = refl
lines_cut [] b (Some p) e f g = absurd (false≢true (sym (f ∙ ap not e)))
lines_cut (x ∷ xs) false None e f g = absurd (false≢true f)
lines_cut (x ∷ xs) true None e f g = let h = eqb-true (length (x ∷ xs)) 0 (sym e) in absurd (omega (arith, h))
lines_cut (x ∷ xs) b (Some p) e f g =
    lines_first (x ∷ xs) (omega arith)
    ∙ ap (λ l. l ∷ lines (drop 1 (after not_end (x ∷ xs)))) (sym g.0)
    ∙ ap (λ l. p.0.now ∷ lines l) (sym g.1)

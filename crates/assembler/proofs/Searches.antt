-- Names looked for among labels, tokens and lines, one on.
use Rattle.std.proofs.Common.{◌≡◌, ℕ, suc, ◌+◌, Bool, true, false, cond, not, ◌&&◌, ltb, List, [], ◌∷◌, map, length, Some, None, IsSomeAnd, Option, MatchOption, option_map, find as first_of, sym, refl, ap, ◌∙◌, add-one}
use Rattle.std.proofs.lemmas.List.Folds.{list_all-append}
use Rattle.std.proofs.lemmas.Iterator.Adapters.{position_from-zero}
use Rattle.std.specs.List.{list_all, position_from, position_or_len}
use denote.Ref.{Bor}
use Rattle.program.specs.Names.{same, name_of}
use Rattle.program.specs.declared.label.Label.{Label}
use Rattle.syntax.specs.Cells.{items, items_of}
use Rattle.syntax.specs.Forms.{byte, Form, form}
use Rattle.syntax.specs.Meant.{meant}
use Rattle.syntax.specs.Tokens.{Tok}
use Rattle.syntax.specs.declared.tokens.Token.{Token}
use Rattle.syntax.specs.declared.tokens.Token.TheVariants.{Name, Number, Character, Text, Sign}
use Rattle.assembler.specs.Cells.{known, all_known, resolved, unresolved}
use Rattle.assembler.specs.Marks.{Mark, mark_of, find}

find_at_yes : (w : List ℕ) (l : Mark) (ls : List Mark) → true ≡ same w l.name → find w (l ∷ ls) ≡ Some l.address
find_at_yes w l ls e = rw (← e, find) refl

find_at_no : (w : List ℕ) (l : Mark) (ls : List Mark) → false ≡ same w l.name → find w (l ∷ ls) ≡ find w ls
find_at_no w l ls e = rw (← e, find) refl

-- the label of that name, and what stands at it
find_label : (w : List ℕ) (xs : List Label) → option_map (λ l. l.address) (first_of (λ l. same w (name_of l.name)) xs) ≡ find w (map mark_of xs)
find_label w [] = refl
find_label w (x ∷ xs) = go (same w (name_of x.name)) refl (find_label w xs)
  where
    go : (b : Bool) → same w (name_of x.name) ≡ b → option_map (λ l. l.address) (first_of (λ l. same w (name_of l.name)) xs) ≡ find w (map mark_of xs) → option_map (λ l. l.address) (first_of (λ l. same w (name_of l.name)) (x ∷ xs)) ≡ find w (mark_of x ∷ map mark_of xs)
    go true e ih = ap (λ b. option_map (λ l. l.address) (cond b (Some x) (first_of (λ l. same w (name_of l.name)) xs))) e ∙ sym (find_at_yes w (mark_of x) (map mark_of xs) (sym e))
    go false e ih = ap (λ b. option_map (λ l. l.address) (cond b (Some x) (first_of (λ l. same w (name_of l.name)) xs))) e ∙ ih ∙ sym (find_at_no w (mark_of x) (map mark_of xs) (sym e))

-- the address of what was found
pub found_address : (w : List ℕ) (xs : List Label) (r : Option (Bor Label)) (s : Option ℕ) (P : Bor Label → ℕ → Type 0)
    → option_map (λ l. l.now) r ≡ first_of (λ l. same w (name_of l.name)) xs → MatchOption r (s ≡ None) (λ x. IsSomeAnd s (P x)) → ((x : Bor Label) (a : ℕ) → P x a → a ≡ x.now.address)
    → s ≡ find w (map mark_of xs)
found_address w xs None s P e m k = m ∙ ap (option_map (λ l. l.address)) e ∙ find_label w xs
found_address w xs (Some x) None P e m k = absurd m
found_address w xs (Some x) (Some a) P e m k = ap Some (k x a m) ∙ ap (option_map (λ l. l.address)) e ∙ find_label w xs

module _ (ls : List Mark) where
  -- the names of a list are known if each token's are
  pub known_tokens : (ts : List Tok) → list_all (λ t. all_known ls (items_of t)) ts ≡ all_known ls (items ts)
  known_tokens [] = refl
  known_tokens (t ∷ ts) = ap (λ b. all_known ls (items_of t) && b) (known_tokens ts) ∙ sym (list_all-append (known ls) (items_of t) (items ts))

  -- quoted bytes need no label
  known_bytes : (bs : List ℕ) → true ≡ all_known ls (map byte bs)
  known_bytes [] = refl
  known_bytes (b ∷ bs) = known_bytes bs

  -- nor does any token but a name
  pub known_else : (t : Token) → ((w : Bor (List ℕ)) → t ≡ Name w → ⊥) → true ≡ all_known ls (items_of (meant t))
  known_else (Name w) h = absurd (h w refl)
  known_else (Number ds) h = refl
  known_else (Character c) h = refl
  known_else (Text s) h = known_bytes s.now
  known_else (Sign c) h = refl

  unresolved_yes : (k : ℕ) (f : Form) (fs : List Form) → resolved ls f ≡ true → unresolved ls k (f ∷ fs) ≡ unresolved ls (suc k) fs
  unresolved_yes k f fs e = rw (e, unresolved) refl

  unresolved_no : (k : ℕ) (f : Form) (fs : List Form) → resolved ls f ≡ false → unresolved ls k (f ∷ fs) ≡ Some k
  unresolved_no k f fs e = rw (e, unresolved) refl

  -- the place of a line among the lines, and its number
  unresolved_place : (xs : List (List ℕ)) (i : ℕ) → option_map (λ n. n + 1) (position_from (λ l. not (resolved ls (form l))) i xs) ≡ unresolved ls (i + 1) (map form xs)
  unresolved_place [] i = refl
  unresolved_place (x ∷ xs) i = go (resolved ls (form x)) refl (unresolved_place xs (i + 1))
    where
      go : (b : Bool) → resolved ls (form x) ≡ b → option_map (λ n. n + 1) (position_from (λ l. not (resolved ls (form l))) (i + 1) xs) ≡ unresolved ls (i + 1 + 1) (map form xs)
          → option_map (λ n. n + 1) (position_from (λ l. not (resolved ls (form l))) i (x ∷ xs)) ≡ unresolved ls (i + 1) (form x ∷ map form xs)
      go true e ih =
          ap (λ b. option_map (λ n. n + 1) (cond (not b) (Some i) (position_from (λ l. not (resolved ls (form l))) (i + 1) xs))) e
          ∙ ih ∙ ap (λ k. unresolved ls k (map form xs)) (add-one (i + 1)) ∙ sym (unresolved_yes (i + 1) (form x) (map form xs) e)
      go false e ih =
          ap (λ b. option_map (λ n. n + 1) (cond (not b) (Some i) (position_from (λ l. not (resolved ls (form l))) (i + 1) xs))) e
          ∙ sym (unresolved_no (i + 1) (form x) (map form xs) e)

  -- the number of the first line that is not resolved, from its place
  pub unresolved_found : (xs : List (List ℕ)) (r : Option ℕ) → r ≡ cond (ltb (position_or_len (λ l. not (resolved ls (form l))) xs) (length xs)) (Some (position_or_len (λ l. not (resolved ls (form l))) xs)) None → option_map (λ n. n + 1) r ≡ unresolved ls 1 (map form xs)
  unresolved_found xs r e = ap (option_map (λ n. n + 1)) (e ∙ position_from-zero (λ l. not (resolved ls (form l))) xs) ∙ unresolved_place xs 0

-- The items of DW, one on, and the cells that they take.
use Rattle.std.proofs.Common.{◌≡◌, Bool, true, false, ◌&&◌, List, [], ◌∷◌, length, sym, refl, ◌∙◌, length-append}
use Rattle.std.proofs.lemmas.List.{length-map}
use Rattle.std.proofs.lemmas.List.Sums.{sum_by-cons}
use Rattle.syntax.specs.Tokens.{Tok, name, number, character, text, sign}
use Rattle.syntax.specs.Forms.{byte, is_list, is_sign_token}
use Rattle.syntax.specs.Cells.{items_of, items, span, spans}

-- what is left of a list where an item is due, and where a comma is or the end
abbrev pub list_due : Bool → List Tok → Bool
list_due true ts = is_list ts
list_due false [] = true
list_due false (t ∷ ts) = is_sign_token 44 t && is_list ts

-- a list of DW takes as many cells as its tokens span
one_span : (t : Tok) → length (items_of t) ≡ span t
one_span (name w) = refl
one_span (number z) = refl
one_span (character c) = refl
one_span (text s) = length-map s byte
one_span (sign c) = refl

pub items_span : (ts : List Tok) → length (items ts) ≡ spans ts
items_span [] = refl
items_span (t ∷ ts) = length-append (items_of t) (items ts) ∙ (rw (one_span t, items_span ts) (sym (sum_by-cons span t ts)))

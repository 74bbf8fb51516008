-- The word of a .UNIT line names no section.
use Rattle.std.proofs.Common.{◌≡◌, ℕ, Bool, true, false, eqb, List, [], ◌∷◌, refl, ap, codes}
use Rattle.std.proofs.lemmas.Bool.{false≢true, eqb-true}
use Rattle.program.specs.Names.{same}
use Rattle.syntax.specs.Tokens.{Tok}
use Rattle.syntax.specs.Forms.{directive_of, unit_form}

same_is : (xs ys : List ℕ) → same xs ys ≡ true → xs ≡ ys
same_is [] [] t = refl
same_is [] (y ∷ ys) t = absurd (false≢true t)
same_is (x ∷ xs) [] t = absurd (false≢true t)
same_is (x ∷ xs) (y ∷ ys) t = by (eqb x y) refl t (same_is xs ys)
  where
    by : (b : Bool) → eqb x y ≡ b → elim b [ true ↦ same xs ys | false ↦ false ] ≡ true → (same xs ys ≡ true → xs ≡ ys) → x ∷ xs ≡ y ∷ ys
    by true s f more = let p = eqb-true x y s in let q = more f in cc
    by false s f more = absurd (false≢true f)

pub unit_directive : (w : List ℕ) (ts : List Tok) → same w (codes "unit") ≡ true → directive_of w ts ≡ unit_form ts
unit_directive w ts e = ap (λ v. directive_of v ts) (same_is w (codes "unit") e)

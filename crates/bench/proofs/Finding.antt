-- A search among the lines of a text leaves the lines after the one that it finds.
use Rattle.std.proofs.Common.{◌≡◌, ℕ, suc, ◌+◌, Bool, true, false, List, [], ◌∷◌, Option, Some, None, MatchOption, sym, refl, ap, ◌∙◌, subst, arith}
use denote.Ref.{Bor}
use denote.Param.Members.{Mut}
use Rattle.std.specs.Bool.{⊤}
use Rattle.std.specs.Fn.{CalledAt}
use Rattle.std.specs.Iterator.{Yields, YieldsFirstRef}
use Rattle.std.specs.List.{FoldsTo, position_or_len}
use Rattle.syntax.specs.Left.{lines_left}
use Rattle.syntax.specs.declared.lines.Lines.{Lines}
use Rattle.bench.specs.Input.{is_dot_text, beyond}

beyond_here : (l : List ℕ) (ls : List (List ℕ)) → true ≡ is_dot_text l → beyond (l ∷ ls) ≡ ls
beyond_here l ls e = rw (← e) refl

beyond_more : (l : List ℕ) (ls : List (List ℕ)) → false ≡ is_dot_text l → beyond (l ∷ ls) ≡ beyond ls
beyond_more l ls e =
    let s : 1 + position_or_len is_dot_text ls + 1 ≡ suc (position_or_len is_dot_text ls + 1) = omega arith in
    rw (← e, s) refl

module _ {F : Type 0} (g : Mut F (Bor (Bor (List ℕ)) × Unit {0}) Bool) (f : F) (k : (x : Bor (List ℕ)) (b : Bool) (q : F) → CalledAt g f x b q → (q ≡ f) × (b ≡ is_dot_text x.now)) where
  ends : (s u : Lines) (r : Option (Bor (List ℕ))) → YieldsFirstRef lines_left s r u → MatchOption r ⊤ (λ x. (h : F) × CalledAt g f x true h) → lines_left u ≡ beyond (lines_left s)
  ends s u None z m = z.1 ∙ sym (ap beyond z.0)
  ends s u (Some x) z m = sym (ap beyond z ∙ beyond_here x.now (lines_left u) (k x true m.0 m.1).1)

  pub found : (xs : List (Bor (List ℕ))) (s t u : Lines) (r : Option (Bor (List ℕ))) (j : F) → Yields (YieldsFirstRef lines_left) s xs t → YieldsFirstRef lines_left t r u
      → FoldsTo (λ p x q. CalledAt g p x false q) f xs j → MatchOption r ⊤ (λ x. (h : F) × CalledAt g j x true h) → lines_left u ≡ beyond (lines_left s)
  found [] s t u r j y z e m =
      ends s u r (subst (λ v. YieldsFirstRef lines_left v r u) (sym y) z) (subst (λ p. MatchOption r ⊤ (λ x. (h : F) × CalledAt g p x true h)) (sym e) m)
  found (x ∷ xs) s t u r j y z e m =
      let a = k x false e.0 e.1 in
      found xs y.0 t u r j y.2 z (subst (λ p. FoldsTo (λ p x q. CalledAt g p x false q) p xs j) a.0 e.2) m
      ∙ sym (ap beyond y.1 ∙ beyond_more x.now (lines_left y.0) a.1)

-- Two words letter by letter, and a word in small letters with zeros after it.
use Rattle.std.proofs.Common.{◌≡◌, ℕ, zero, suc, ◌-◌, ◌≤◌, ◌==◌, ◌&&◌, true, false, List, [], ◌∷◌, ◌++◌, length, take, drop, map, replicate, refl, ap, ◌∙◌, arith}
use Rattle.std.proofs.lemmas.Bool.Decides.{nat_tests}
use Rattle.std.proofs.lemmas.List.{length-map, take_at, map-append, drop-replicate}
use Rattle.std.specs.Char.{to_ascii_lowercase}
use Rattle.std.specs.List.{list_all, zip}
use Rattle.program.specs.Names.{same, small, smalls}

-- words of two lengths differ
pub same_apart : (xs ys : List ℕ) → (length xs ≡ length ys → ⊥) → false ≡ same (smalls xs) ys
same_apart [] [] h = absurd (h refl)
same_apart [] (y ∷ ys) h = refl
same_apart (x ∷ xs) [] h = refl
same_apart (x ∷ xs) (y ∷ ys) h = elim (small x == y) as (λ b. false ≡ elim b [ true ↦ same (smalls xs) ys | false ↦ false ]) [ true ↦ same_apart xs ys (λ e. h (ap suc e)) | false ↦ refl ]

-- words of one length are the same if all their letters are
pub same_each : (xs ys : List ℕ) → length xs ≡ length ys → list_all (λ p. small p.0 == p.1) (zip xs ys) ≡ same (smalls xs) ys
same_each [] [] h = refl
same_each [] (y ∷ ys) h = absurd (omega arith)
same_each (x ∷ xs) [] h = absurd (omega arith)
same_each (x ∷ xs) (y ∷ ys) h = elim (small x == y) as (λ b. (b && list_all (λ p. small p.0 == p.1) (zip xs ys)) ≡ elim b [ true ↦ same (smalls xs) ys | false ↦ false ]) [ true ↦ same_each xs ys (omega arith) | false ↦ refl ]

small_is : (c : ℕ) → to_ascii_lowercase c ≡ small c
small_is c = grind (arith, nat_tests)

smalls_are : (w : List ℕ) → map to_ascii_lowercase w ≡ smalls w
smalls_are [] = refl
smalls_are (c ∷ cs) = ap (λ k. k ∷ map to_ascii_lowercase cs) (small_is c) ∙ ap (λ ks. small c ∷ ks) (smalls_are cs)

zeros_are : (n : ℕ) → map to_ascii_lowercase (replicate n 0) ≡ replicate n 0
zeros_are zero = refl
zeros_are (suc n) = ap (λ l. 0 ∷ l) (zeros_are n)

-- a word before zeros, in small letters
pub lowered : (w copied bytes : List ℕ) → length w ≤ 31 → copied ≡ w → bytes ≡ map to_ascii_lowercase (copied ++ drop (length w) (replicate 31 0)) → (take (length w) bytes ≡ smalls w) × (bytes ≡ smalls w ++ replicate (31 - length w) 0) × (length w ≡ length w)
lowered w copied bytes h k e =
    let f : bytes ≡ smalls w ++ replicate (31 - length w) 0 = e ∙ (rw (k, drop-replicate, map-append, smalls_are w, zeros_are (31 - length w)) refl) in
    (rw f (take_at (smalls w) (replicate (31 - length w) 0) (length w) (length-map w small)), f, refl)

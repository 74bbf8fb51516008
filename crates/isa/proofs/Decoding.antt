-- The opcode that a cell holds.
use Rattle.std.proofs.Common.{◌≡◌, ℕ, zero, suc, ◌+◌, ◌-◌, false, ℤ, pos, negsuc, nat_abs, Some, None, Option, Result, sym, refl, ◌∙◌, arith, MatchResult, MatchOption, IsSomeAnd, List, [], ◌∷◌, Bool, true, Bor, cond, ltb, length, map, find, position, option_map, ap, ap₂}
use Rattle.std.proofs.lemmas.Bool.Decides.{nat_tests}
use Rattle.std.proofs.lemmas.Grind.{common_steps}
use Rattle.std.proofs.lemmas.Option.{gets, slice_get-map}
use Rattle.std.specs.Option.{ok_or, option_copied}
use Rattle.std.specs.List.{position_or_len}
use Rattle.std.specs.Slice.{IsItemAt}
use lib.Signed.{lt_z}
use Rattle.isa.specs.declared.opcode.Opcode.{Opcode}
use Rattle.isa.specs.declared.opcode.NoOpcode.{NoOpcode}
use Rattle.isa.specs.Table.{decoded, nth, order, opcode_there, mnemonic_place, named}
use Rattle.program.specs.Names.{same}

-- a cell from 1 on holds the opcode at its place
decoded_at : (z : ℤ) → lt_z z (pos 1) ≡ false → decoded z ≡ nth order (nat_abs z - 1)
decoded_at (pos zero) h = cc
decoded_at (pos (suc n)) h = let e : suc n - 1 ≡ n = omega arith in rw e refl
decoded_at (negsuc n) h = cc

matched : (z : ℤ) (o : Option Opcode) (r : Result Opcode NoOpcode) (e : NoOpcode) → decoded z ≡ o → r ≡ ok_or o e → MatchResult r (λ op. decoded z ≡ Some op) (λ _. decoded z ≡ None)
matched z None r e d k = rw k d
matched z (Some op) r e d k = rw k d

pub decodes : (z : ℤ) (o : Option Opcode) (r : Result Opcode NoOpcode) (e : NoOpcode) → lt_z z (pos 1) ≡ false → o ≡ nth order (nat_abs z - 1) → r ≡ ok_or o e → MatchResult r (λ op. decoded z ≡ Some op) (λ _. decoded z ≡ None)
decodes z o r e h d k = matched z o r e (decoded_at z h ∙ sym d) k

-- what f makes of the element that is lent
pub of_lent : {X Y : Type 0} (f : X → Y) (r : Option (Bor X)) (s : Option Y) (P : Bor X → Y → Type 0) → MatchOption r (s ≡ None) (λ x. IsSomeAnd s (P x)) → ((x : Bor X) (y : Y) → P x y → y ≡ f x.now) → s ≡ option_map f (option_copied r)
of_lent f None s P m k = m
of_lent f (Some x) None P m k = absurd m
of_lent f (Some x) (Some y) P m k = ap Some (k x y m)

copied_at : {X : Type 0} (xs : List X) (i : ℕ) (r : Option (Bor X)) → IsItemAt xs i r → option_copied r ≡ nth xs i
copied_at xs i None h = grind (arith, common_steps, gets, h)
copied_at xs i (Some x) h = grind (arith, common_steps, gets, h)

-- what f makes of the element at a place
pub part_at : {X Y : Type 0} (f : X → Y) (xs : List X) (i : ℕ) (r : Option (Bor X)) → IsItemAt xs i r → option_map f (option_copied r) ≡ nth (map f xs) i
part_at f xs i r h = ap (option_map f) (copied_at xs i r h) ∙ sym (slice_get-map f xs i)

abbrev there : {Y : Type 0} → List Y → Option ℕ → Option Y
there ys None = None
there ys (Some n) = nth ys n

below : (n k : ℕ) → ltb n k ≡ ltb (suc n) (suc k)
below n k = grind (arith, nat_tests)

first : (k : ℕ) → true ≡ ltb 0 (suc k)
first k = grind (arith, nat_tests)

module _ {X Y : Type 0} (test : X → Bool) (f : X → Y) where
  later : (n : ℕ) (x : X) (xs : List X) (b : Bool) → there (map f xs) (cond b (Some n) None) ≡ there (map f (x ∷ xs)) (cond b (Some (suc n)) None)
  later n x xs true = refl
  later n x xs false = refl

  next : (n m : ℕ) (x : X) (xs : List X) → m ≡ suc n → there (map f xs) (cond (ltb n (length xs)) (Some n) None) ≡ there (map f (x ∷ xs)) (cond (ltb m (length (x ∷ xs))) (Some m) None)
  next n m x xs e = rw e (later n x xs (ltb n (length xs)) ∙ ap (λ b. there (map f (x ∷ xs)) (cond b (Some (suc n)) None)) (below n (length xs)))

  -- what f makes of the first that passes is what stands at its place
  first_there : (xs : List X) → option_map f (find test xs) ≡ there (map f xs) (position test xs)
  first_there [] = refl
  first_there (x ∷ xs) = go (test x) refl (first_there xs)
    where
      go : (b : Bool) → test x ≡ b → option_map f (find test xs) ≡ there (map f xs) (position test xs) → option_map f (find test (x ∷ xs)) ≡ there (map f (x ∷ xs)) (position test (x ∷ xs))
      go true e h = rw (e, find, position) (ap (λ b. there (map f (x ∷ xs)) (cond b (Some 0) None)) (first (length xs)))
      go false e h = rw (e, find, position) (h ∙ next (position_or_len test xs) (1 + position_or_len test xs) x xs (omega arith))

opcode_is_there : (o : Option ℕ) → there order o ≡ opcode_there o
opcode_is_there None = refl
opcode_is_there (Some n) = refl

-- the opcode of the first row with a mnemonic
pub first_named : (w : List ℕ) (rows : List (Bor (List ℕ) × Opcode)) → map (λ row. row.1) rows ≡ order → position (λ row. same w row.0.now) rows ≡ mnemonic_place w → option_map (λ row. row.1) (find (λ row. same w row.0.now) rows) ≡ named w
first_named w rows e p = first_there (λ row. same w row.0.now) (λ row. row.1) rows ∙ ap₂ there e p ∙ opcode_is_there (mnemonic_place w)

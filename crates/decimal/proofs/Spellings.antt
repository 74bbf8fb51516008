-- The digits of n stand from start, but for those of rest, which come before them.
use Rattle.std.proofs.Common.{◌≡◌, ℕ, ◌+◌, ◌-◌, ◌/◌, ◌%◌, ◌^◌, ◌<◌, ◌≤◌, true, List, ◌∷◌, ◌++◌, length, take, drop, set, ℤ, pos, negsuc, nat_abs, decimal, sym, refl, ap, ◌∙◌, append_assoc, arith, length-append, length-drop, length-set}
use lib.Signed.{lt_z}
use Rattle.std.proofs.lemmas.Bool.{ltb-true}
use Rattle.std.specs.Fmt.{signed_decimal}
use Rattle.std.proofs.lemmas.Fmt.{decimal_step, decimal_digit, decimal_nonempty, length-decimal-le}
use Rattle.std.proofs.lemmas.List.{drop-set, take_all}

pub record Spelt (n rest start : ℕ) (bytes : List ℕ) : Type 0 where
  pub text : decimal n ≡ decimal rest ++ drop start bytes
  pub long : length bytes ≡ 11
  pub within : start ≤ 11
  pub small : n ≤ 2 ^ 31
  pub less : rest ≤ n

-- rest has a digit, and n at most ten
pub low : (n rest start : ℕ) (bytes : List ℕ) → Spelt n rest start bytes → 2 ≤ start
low n rest start bytes s =
    let a : length (decimal n) ≤ 10 = length-decimal-le 10 n (omega arith) (omega arith) (omega arith) in
    let b : 0 < length (decimal rest) = decimal_nonempty rest (omega arith) in
    omega (arith, simp (length-append, length-drop) at (ap length s.text))

pub before : (start v : ℕ) (bytes : List ℕ) → 1 ≤ start → start ≤ length bytes → drop (start - 1) (set bytes (start - 1) v) ≡ v ∷ drop start bytes
before start v bytes p q =
    let e : start - 1 + 1 ≡ start = omega arith in
    drop-set bytes (start - 1) v (omega arith) ∙ ap (λ k. v ∷ drop k bytes) e

-- all bytes from a place on
whole : (k : ℕ) (bytes : List ℕ) → length bytes ≡ 11 → take (11 - k) (drop k bytes) ≡ drop k bytes
whole k bytes l = take_all (11 - k) (drop k bytes) (simp length-drop (omega arith))

step : (rest start : ℕ) (bytes : List ℕ) → 10 ≤ rest → rest < 2 ^ 64 → 1 ≤ start → start ≤ length bytes
    → decimal rest ++ drop start bytes ≡ decimal (rest / 10) ++ drop (start - 1) (set bytes (start - 1) (48 + rest % 10))
step rest start bytes h k p q =
    rw (decimal_step rest h k, before start (48 + rest % 10) bytes p q, append_assoc) refl

pub more : (n rest start : ℕ) (bytes : List ℕ) → Spelt n rest start bytes → 10 ≤ rest
    → Spelt n (rest / 10) (start - 1) (set bytes (start - 1) (48 + rest % 10))
more n rest start bytes s h =
    let l = low n rest start bytes s in
    record {
      text = s.text ∙ step rest start bytes h (omega arith) (omega arith) (omega arith);
      long = simp length-set s.long;
      within = omega arith;
      small = s.small;
      less = omega arith;
    }

pub last : (n rest start : ℕ) (bytes : List ℕ) → Spelt n rest start bytes → rest < 10
    → take (11 - (start - 1)) (drop (start - 1) (set bytes (start - 1) (48 + rest))) ≡ decimal n
last n rest start bytes s h =
    let l = low n rest start bytes s in
    whole (start - 1) (set bytes (start - 1) (48 + rest)) (simp length-set s.long) ∙ before start (48 + rest) bytes (omega arith) (omega arith) ∙ ap (λ d. d ++ drop start bytes) (sym (decimal_digit rest h)) ∙ sym s.text

pub minus : (z : ℤ) (start : ℕ) (bytes : List ℕ) → lt_z z (pos 0) ≡ true → 1 ≤ start → start ≤ 11 → length bytes ≡ 11 → take (11 - start) (drop start bytes) ≡ decimal (nat_abs z)
    → take (11 - (start - 1)) (drop (start - 1) (set bytes (start - 1) 45)) ≡ signed_decimal z
minus (pos n) start bytes t p q l e = absurd (omega (arith, ltb-true n 0 t))
minus (negsuc n) start bytes t p q l e =
    whole (start - 1) (set bytes (start - 1) 45) (simp length-set l) ∙ before start 45 bytes p (omega arith) ∙ ap (λ ds. 45 ∷ ds) (sym (whole start bytes l) ∙ e)

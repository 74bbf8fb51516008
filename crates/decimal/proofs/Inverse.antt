-- Reading is the inverse of spelling.
use Rattle.std.proofs.Common.{◌≡◌, ℕ, suc, ◌<◌, ◌≤◌, Bool, true, false, eqb, List, [], ◌∷◌, length, ℤ, pos, negsuc, neg_ℤ, Ok, Err, decimal, refl, ap, ◌∙◌, arith, w32, SFits, rules}
use Rattle.std.specs.Fmt.{signed_decimal}
use Rattle.std.proofs.lemmas.Fmt.{decimal_nonempty, digits_decimal, digits_value-decimal}
use Rattle.std.proofs.lemmas.Str.Parse.{IsNumeralModel, numerals_by_fold}
use Rattle.std.proofs.lemmas.Int.{ints}
use Rattle.std.proofs.lemmas.Bool.Decides.{nat_tests}
use Rattle.decimal.specs.declared.reading.NumberError.TheVariants.{NoNumber}
use Rattle.decimal.specs.Numbers.{only_digits, natural, cell_range, is_numeral_text, numeral}
use Rattle.decimal.specs.Reading.{read_as}

own : IsNumeralModel (λ ds. only_digits ds ≡ true) (natural 0)
own = numerals_by_fold _ (search rules) natural (search rules)

-- a digit is no minus
no_minus : (c : ℕ) (cs : List ℕ) → only_digits (c ∷ cs) ≡ true → eqb c 45 ≡ false
no_minus c cs h = grind (arith, nat_tests)

read_numeral : (t : List ℕ) → is_numeral_text t ≡ true → cell_range (numeral t) ≡ true → read_as t ≡ Ok (numeral t)
read_numeral t i r = rw (i, r, read_as) refl

read_plain : (ds : List ℕ) (n : ℕ) → 0 < length ds → only_digits ds ≡ true → natural 0 ds ≡ n → n ≤ 2147483647 → read_as ds ≡ Ok (pos n)
read_plain [] n s h v f = absurd (omega arith)
read_plain (c ∷ cs) n s h v f =
    let m = no_minus c cs h in
    let i : is_numeral_text (c ∷ cs) ≡ true = rw (m, is_numeral_text) h in
    let e : numeral (c ∷ cs) ≡ pos n = (rw (m, numeral) refl) ∙ ap pos v in
    let r : cell_range (pos n) ≡ true = grind (arith, nat_tests) in
    read_numeral (c ∷ cs) i (ap cell_range e ∙ r) ∙ ap Ok e

read_minus : (ds : List ℕ) (n : ℕ) → 0 < length ds → only_digits ds ≡ true → natural 0 ds ≡ suc n → n ≤ 2147483647 → read_as (45 ∷ ds) ≡ Ok (negsuc n)
read_minus [] n s h v f = absurd (omega arith)
read_minus (c ∷ cs) n s h v f =
    let e : numeral (45 ∷ c ∷ cs) ≡ negsuc n = ap (λ m. neg_ℤ (pos m)) v in
    let r : cell_range (negsuc n) ≡ true = grind (arith, nat_tests) in
    read_numeral (45 ∷ c ∷ cs) h (ap cell_range e ∙ r) ∙ ap Ok e

-- the text of a number of 32 signed bits reads as that number
pub read_signed : (z : ℤ) → cell_range z ≡ true → read_as (signed_decimal z) ≡ Ok z
read_signed (pos n) h =
    let f : n ≤ 2147483647 = grind (arith, nat_tests) in
    read_plain (decimal n) n (decimal_nonempty n (omega arith)) (digits_decimal own n (omega arith)) (digits_value-decimal own n (omega arith)) f
read_signed (negsuc n) h =
    let f : n ≤ 2147483647 = grind (arith, nat_tests) in
    read_minus (decimal (suc n)) n (decimal_nonempty (suc n) (omega arith)) (digits_decimal own (suc n) (omega arith)) (digits_value-decimal own (suc n) (omega arith)) f

-- a number that the code holds is in range
pub cell_range_lem : (z : ℤ) → SFits w32 z → cell_range z ≡ true
cell_range_lem z f = grind (arith, ints, nat_tests)

pub read_held : (z : ℤ) → SFits w32 z → read_as (signed_decimal z) ≡ Ok z
read_held z f = read_signed z (cell_range_lem z f)

-- what reads as a number is a numeral
numeral_from_read : (t : List ℕ) (z : ℤ) → read_as t ≡ Ok z → is_numeral_text t ≡ true
numeral_from_read t z e = go (is_numeral_text t) refl
  where
    go : (b : Bool) → is_numeral_text t ≡ b → is_numeral_text t ≡ true
    go true i = i
    go false i =
        let r : read_as t ≡ Err NoNumber = rw (i, read_as) refl in
        let o : ◌≡◌ {A = ℕ} 0 1 = cc in
        absurd (omega arith)

pub numeral_signed : (z : ℤ) → SFits w32 z → is_numeral_text (signed_decimal z) ≡ true
numeral_signed z f = numeral_from_read (signed_decimal z) z (read_held z f)

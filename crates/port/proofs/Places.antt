-- Readings as text in places of 12 bytes: what is written is read again, and the other places stay.
use Rattle.std.proofs.Common.{◌≡◌, ℕ, suc, ◌+◌, ◌-◌, ◌*◌, ◌/◌, ◌<◌, ◌≤◌, Bool, true, false, not, eqb, Option, List, [], ◌∷◌, ◌++◌, length, take, drop, replicate, ℤ, sym, refl, ap, ◌∙◌, inl, inr, append_assoc, add-one, arith, w32, SFits}
use Rattle.std.specs.Fmt.{signed_decimal}
use Rattle.std.specs.List.{position, position_or_len}
use Rattle.std.specs.Option.{unwrap_or}
use Rattle.std.proofs.lemmas.Fmt.{length_signed_le}
use Rattle.std.proofs.lemmas.List.Sums.{prefix_len-le-length}
use Rattle.std.proofs.lemmas.List.{take_at, drop_at, take-take, drop-take, drop-drop, length-take-le, length-append, length-drop, length-replicate, drop-replicate}
use Rattle.std.proofs.lemmas.Bool.{cases_lt}
use Rattle.std.proofs.lemmas.Bool.Decides.{nat_tests}
use Rattle.decimal.specs.Numbers.{only_digits, are_all_digits, is_numeral_text}
use Rattle.decimal.specs.Reading.{read_as}
use Rattle.decimal.proofs.Inverse.{read_held, numeral_signed}
use Rattle.port.specs.declared.reading.Reading.{Reading}
use Rattle.port.specs.Place.{places_in, padded, placed, up_to_space, or_zero, place_reading, waiting_in}
use Rattle.port.specs.Ring.{wrapped, queue}
use Rattle.port.proofs.Rings.{queue_more, last_within}

before_at_yes : (c : ℕ) (cs : List ℕ) → eqb c 32 ≡ true → up_to_space (c ∷ cs) ≡ []
before_at_yes c cs e = rw (e, up_to_space) refl

before_at_no : (c : ℕ) (cs : List ℕ) → eqb c 32 ≡ false → up_to_space (c ∷ cs) ≡ c ∷ up_to_space cs
before_at_no c cs e = rw (e, up_to_space) refl

-- the front that ends before the first space
up_to_first : (xs : List ℕ) → take (position_or_len (λ c. eqb c 32) xs) xs ≡ up_to_space xs
up_to_first [] = refl
up_to_first (c ∷ cs) = go (eqb c 32) refl (up_to_first cs)
  where
    go : (b : Bool) → eqb c 32 ≡ b → take (position_or_len (λ d. eqb d 32) cs) cs ≡ up_to_space cs
        → take (position_or_len (λ d. eqb d 32) (c ∷ cs)) (c ∷ cs) ≡ up_to_space (c ∷ cs)
    go true e ih = rw e (sym (before_at_yes c cs e))
    go false e ih =
        let s : 1 + position_or_len (λ d. eqb d 32) cs ≡ suc (position_or_len (λ d. eqb d 32) cs) = omega arith in
        rw (e, s) (ap (λ l. c ∷ l) ih ∙ sym (before_at_no c cs e))

pub up_to_position : (xs : List ℕ) (r : Option ℕ) (n : ℕ) → r ≡ position (λ c. eqb c 32) xs → n ≡ unwrap_or r (length xs) → take n xs ≡ up_to_space xs
up_to_position xs r n e f =
    let l = prefix_len-le-length (λ c. not (eqb c 32)) xs in
    let g : n ≡ position_or_len (λ c. eqb c 32) xs = grind (arith, nat_tests) in
    rw g (up_to_first xs)

only_rest : (c : ℕ) (cs : List ℕ) → only_digits (c ∷ cs) ≡ true → only_digits cs ≡ true
only_rest c cs h = grind (arith, nat_tests)

-- digits have no space among them
digits_before : (ds rest : List ℕ) → only_digits ds ≡ true → up_to_space (ds ++ 32 ∷ rest) ≡ ds
digits_before [] rest h = refl
digits_before (c ∷ cs) rest h =
    let e : eqb c 32 ≡ false = grind (arith, nat_tests) in
    before_at_no c (cs ++ 32 ∷ rest) e ∙ ap (λ l. c ∷ l) (digits_before cs rest (only_rest c cs h))

are_only : (ds : List ℕ) → are_all_digits ds ≡ true → only_digits ds ≡ true
are_only [] h = refl
are_only (c ∷ cs) h = h

-- nor has a numeral
numeral_before : (t rest : List ℕ) → is_numeral_text t ≡ true → up_to_space (t ++ 32 ∷ rest) ≡ t
numeral_before [] rest h = let z : ◌≡◌ {A = ℕ} 0 1 = cc in absurd (omega arith)
numeral_before (c ∷ cs) rest h = go (eqb c 45) refl
  where
    go : (b : Bool) → eqb c 45 ≡ b → up_to_space ((c ∷ cs) ++ 32 ∷ rest) ≡ c ∷ cs
    go true m =
        let e : eqb c 32 ≡ false = grind (arith, nat_tests) in
        let d : are_all_digits cs ≡ true = rw (m, is_numeral_text) at h in
        before_at_no c (cs ++ 32 ∷ rest) e ∙ ap (λ l. c ∷ l) (digits_before cs rest (are_only cs d))
    go false m = digits_before (c ∷ cs) rest (rw (m, is_numeral_text) at h)

short : (z : ℤ) → SFits w32 z → length (signed_decimal z) ≤ 11
short z f = length_signed_le 10 z (omega (arith, f.sfits)) (omega (arith, f.sfits))

pub length_padded : (x : Reading) → SFits w32 x.value → length (padded x) ≡ 12
length_padded x f = let s = short x.value f in simp (length-append, length-replicate) (omega arith)

-- a text over the front of 12 spaces
pub text_padded : (x : Reading) (a t : List ℕ) → a ≡ t → t ≡ signed_decimal x.value → a ++ drop (length t) (replicate 12 32) ≡ padded x
text_padded x a t e f = rw (e, f) (ap (λ l. signed_decimal x.value ++ l) (drop-replicate {X = ℕ} (length (signed_decimal x.value)) 12 32))

-- what is written is read
read_padded : (x : Reading) → SFits w32 x.value → or_zero (read_as (up_to_space (padded x))) ≡ x.value
read_padded x f =
    let t = signed_decimal x.value in
    let s = short x.value f in
    let e : 12 - length t ≡ suc (11 - length t) = omega arith in
    let b : up_to_space (padded x) ≡ t = ap (λ n. up_to_space (t ++ replicate n 32)) e ∙ numeral_before t (replicate (11 - length t) 32) (numeral_signed x.value f) in
    ap (λ l. or_zero (read_as l)) b ∙ ap or_zero (read_held x.value f)

-- a part that lies before k, or after k
part_front : (xs ys : List ℕ) (a k : ℕ) → a + 12 ≤ k → take k xs ≡ take k ys → take 12 (drop a xs) ≡ take 12 (drop a ys)
part_front xs ys a k h e =
    sym (drop-take a 12 xs) ∙ ap (drop a) (sym (take-take (a + 12) k xs h) ∙ ap (take (a + 12)) e ∙ take-take (a + 12) k ys h) ∙ drop-take a 12 ys

part_back : (xs ys : List ℕ) (a k : ℕ) → k ≤ a → drop k xs ≡ drop k ys → drop a xs ≡ drop a ys
part_back xs ys a k h e =
    let s : k + (a - k) ≡ a = omega arith in
    ap (λ n. drop n xs) (sym s) ∙ sym (drop-drop (a - k) k xs) ∙ ap (drop (a - k)) e ∙ drop-drop (a - k) k ys ∙ ap (λ n. drop n ys) s

-- the reading of a number, and of a place's bytes
abbrev pub number : ℤ → Reading
number z = record { value = z }

abbrev reads : List ℕ → Reading
reads l = number (or_zero (read_as (up_to_space l)))

module _ (p : List ℕ) (k : ℕ) (x : Reading) (fits : SFits w32 x.value) (within : 12 * k + 12 ≤ length p) where
  placed_front : take (12 * k) (placed p k x) ≡ take (12 * k) p
  placed_front = take_at (take (12 * k) p) (padded x ++ drop (12 * k + 12) p) (12 * k) (length-take-le (12 * k) p (omega arith))

  placed_back : drop (12 * k + 12) (placed p k x) ≡ drop (12 * k + 12) p
  placed_back =
      let l : length (take (12 * k) p ++ padded x) ≡ 12 * k + 12 =
      length-append (take (12 * k) p) (padded x) ∙ (let a = length-take-le (12 * k) p (omega arith) in let b = length_padded x fits in omega arith) in
      ap (drop (12 * k + 12)) (sym (append_assoc (take (12 * k) p) (padded x) (drop (12 * k + 12) p)))
      ∙ drop_at (take (12 * k) p ++ padded x) (drop (12 * k + 12) p) (12 * k + 12) l

  placed_part : take 12 (drop (12 * k) (placed p k x)) ≡ padded x
  placed_part =
      ap (take 12) (drop_at (take (12 * k) p) (padded x ++ drop (12 * k + 12) p) (12 * k) (length-take-le (12 * k) p (omega arith)))
      ∙ take_at (padded x) (drop (12 * k + 12) p) 12 (length_padded x fits)

  pub place_same : place_reading (placed p k x) k ≡ x
  place_same = ap reads placed_part ∙ ap number (read_padded x fits)

  pub place_other : (j : ℕ) → (j ≡ k → ⊥) → place_reading (placed p k x) j ≡ place_reading p j
  place_other j d =
      elim (cases_lt j k) [
        | inl h ↦ ap reads (part_front (placed p k x) p (12 * j) (12 * k) (omega arith) placed_front)
        | inr h ↦ ap (λ l. reads (take 12 l)) (part_back (placed p k x) p (12 * j) (12 * k + 12) (omega arith) placed_back)
      ]

pub length_placed : (p : List ℕ) (k : ℕ) (x : Reading) → SFits w32 x.value → k < places_in p → length (placed p k x) ≡ length p
length_placed p k x f h =
    let l = length_padded x f in
    let t = length-take-le (12 * k) p (omega arith) in
    length-append (take (12 * k) p) (padded x ++ drop (12 * k + 12) p)
    ∙ (let a = length-append (padded x) (drop (12 * k + 12) p) in let d = length-drop (12 * k + 12) p in omega arith)

-- one more reading at the end of a ring of places
pub places_more : (p : List ℕ) (x : Reading) (k count t k' count' : ℕ) → SFits w32 x.value → k < places_in p → count < places_in p
    → t ≡ wrapped (places_in p) (k + count) → k' ≡ k → count' ≡ count + 1
    → waiting_in (placed p t x) k' count' ≡ waiting_in p k count ++ x ∷ []
places_more p x k count t k' count' f h s e same more =
    let w : t < places_in p = rw e (last_within (places_in p) k count h s) in
    let i : 12 * t + 12 ≤ length p = omega arith in
    ap (λ n. queue (place_reading (placed p t x)) (n / 12) k' count') (length_placed p t x f w)
    ∙ ap (λ n. queue (place_reading (placed p t x)) (places_in p) n count') same
    ∙ ap (queue (place_reading (placed p t x)) (places_in p) k) (more ∙ add-one count)
    ∙ queue_more (place_reading p) (place_reading (placed p t x)) (places_in p) k count t h s e (place_other p t x f i)
    ∙ ap (λ y. queue (place_reading p) (places_in p) k count ++ y ∷ []) (place_same p t x f i)

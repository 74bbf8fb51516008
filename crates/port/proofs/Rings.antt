-- Readings in a ring of n places: one more at the end, and one fewer at the front.
use Rattle.std.proofs.Common.{◌≡◌, ℕ, zero, suc, ◌+◌, ◌-◌, ◌<◌, List, [], ◌∷◌, ◌++◌, length, set, sym, refl, ap, ◌∙◌, add-one, arith}
use Rattle.std.proofs.lemmas.List.{get_or-set_same, get_or-set_other}
use Rattle.std.proofs.lemmas.Bool.Decides.{nat_tests}
use Rattle.port.specs.declared.reading.Reading.{Reading}
use Rattle.port.specs.Ring.{wrapped, queue, reading_at, nothing}

-- the first reading, and those after it
pub queue_first : (at : ℕ → Reading) (n k count : ℕ) → 0 < count → queue at n k count ≡ at k ∷ queue at n (wrapped n (k + 1)) (count - 1)
queue_first at n k zero h = absurd (omega arith)
queue_first at n k (suc count) h = let e : suc count - 1 ≡ count = omega arith in rw e refl

-- a place of the ring, and how far round it stands from the place after k
within : (n k count : ℕ) → k < n → wrapped n (k + 1) < n
within n k count h = grind (arith, nat_tests)

round : (n k count : ℕ) → k < n → suc count < n → wrapped n (wrapped n (k + 1) + count) ≡ wrapped n (k + suc count)
round n k count h s = grind (arith, nat_tests)

apart : (n k count : ℕ) → k < n → suc count < n → k ≡ wrapped n (k + suc count) → ⊥
apart n k count h s = grind (arith, nat_tests)

-- the place after the last reading is new, and the others keep theirs
pub queue_more : (at new : ℕ → Reading) (n k count t : ℕ) → k < n → count < n → t ≡ wrapped n (k + count)
    → ((j : ℕ) → (j ≡ t → ⊥) → new j ≡ at j)
    → queue new n k (suc count) ≡ queue at n k count ++ new t ∷ []
queue_more at new n k zero t h s e same = let f : k ≡ t = grind (arith, nat_tests) in rw f refl
queue_more at new n k (suc count) t h s e same =
    let ih = queue_more at new n (wrapped n (k + 1)) count t (within n k count h) (omega arith) (e ∙ sym (round n k count h s)) same in
    let f = same k (λ q. apart n k count h s (q ∙ e)) in
    ap (λ x. x ∷ queue new n (wrapped n (k + 1)) (suc count)) f ∙ ap (λ l. at k ∷ l) ih

-- the place after the last reading is a place of the ring
pub last_within : (n k count : ℕ) → k < n → count < n → wrapped n (k + count) < n
last_within n k count h s = grind (arith, nat_tests)

-- readings in a list of n, one more at the end
pub list_more : (xs : List Reading) (x : Reading) (n k count t k' count' : ℕ) → length xs ≡ n → k < n → count < n
    → t ≡ wrapped n (k + count) → k' ≡ k → count' ≡ count + 1
    → queue (reading_at (set xs t x)) n k' count' ≡ queue (reading_at xs) n k count ++ x ∷ []
list_more xs x n k count t k' count' l h s e same more =
    let w : t < length xs = rw (l, e) (last_within n k count h s) in
    ap (λ m. queue (reading_at (set xs t x)) n m count') same
    ∙ ap (queue (reading_at (set xs t x)) n k) (more ∙ add-one count)
    ∙ queue_more (reading_at xs) (reading_at (set xs t x)) n k count t h s e (λ j d. get_or-set_other xs t j x nothing d)
    ∙ ap (λ y. queue (reading_at xs) n k count ++ y ∷ []) (get_or-set_same xs t x nothing w)

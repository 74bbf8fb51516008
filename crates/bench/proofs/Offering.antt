-- Numbers that are offered line by line.
use Rattle.std.proofs.Common.{◌≡◌, ℕ, List, [], ◌∷◌, ◌++◌, take, ℤ, Ok, Err, Result, sym, refl, ap, ◌∙◌, append_assoc, add-one}
use Rattle.program.specs.declared.fault.Fault.{Fault}
use Rattle.decimal.specs.Reading.{read_as}
use Rattle.port.specs.declared.reading.Reading.{Reading}
use Rattle.port.specs.Meaning.{Meaning, meant, Offered}
use Rattle.machine.specs.Console.{Console, console}
use Rattle.bench.specs.Input.{numbers}
use Rattle.bench.specs.Trial.{offered}

-- what waits, and what is yet to be offered, is what it was
pub offered_more : {U : Type 0} (m m' : Meaning) (x : Reading) (r : Result U Fault) (xs : List Reading) → Offered m x r m' → m'.waiting ++ take m'.openings xs ≡ m.waiting ++ take m.openings (x ∷ xs)
offered_more m m' x (Ok u) xs h =
    ap (λ ws. ws ++ take m'.openings xs) h.0
    ∙ append_assoc m.waiting (x ∷ []) (take m'.openings xs)
    ∙ ap (λ n. m.waiting ++ take n (x ∷ xs)) (sym (add-one m'.openings) ∙ h.2)
offered_more m m' x (Err f) xs h =
    ap (λ (n : Meaning). n.waiting ++ take n.openings xs) h.2
    ∙ ap (λ n. m.waiting ++ take n xs) h.0
    ∙ ap (λ n. m.waiting ++ take n (x ∷ xs)) (sym h.0)

pub offered_shown : {U : Type 0} (m m' : Meaning) (x : Reading) (r : Result U Fault) → Offered m x r m' → (m'.shown ≡ m.shown) × (m'.space ≡ m.space)
offered_shown m m' x (Ok u) h = (h.1, h.3)
offered_shown m m' x (Err f) h = (ap (λ (n : Meaning). n.shown) h.2, ap (λ (n : Meaning). n.space) h.2)

-- a line that is a number
pub numbers_ok : (l : List ℕ) (ls : List (List ℕ)) (z : ℤ) → Ok z ≡ read_as l → numbers (l ∷ ls) ≡ record { value = z } ∷ numbers ls
numbers_ok l ls z e = rw (← e, numbers) refl

-- an empty port of 64 places and 4,096 bytes, to which readings were offered
pub offered_new : (xs : List Reading) (m m' : Meaning) → m ≡ meant [] [] 64 4096 → m'.waiting ≡ m.waiting ++ take m.openings xs → m'.shown ≡ m.shown → m'.space ≡ m.space → console m' ≡ offered xs
offered_new xs m m' e w s p =
    ap {B = Console} (λ ws. record { waiting = ws; shown = m'.shown; space = m'.space }) (w ∙ ap (λ (n : Meaning). n.waiting ++ take n.openings xs) e)
    ∙ ap {B = Console} (λ bs. record { waiting = take 64 xs; shown = bs; space = m'.space }) (s ∙ ap (λ (n : Meaning). n.shown) e)
    ∙ ap {B = Console} (λ n. record { waiting = take 64 xs; shown = []; space = n }) (p ∙ ap (λ (n : Meaning). n.space) e)

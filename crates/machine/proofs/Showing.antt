-- Bytes shown one by one.
use Rattle.std.proofs.Common.{◌≡◌, ℕ, ◌+◌, ◌-◌, ◌<◌, ◌≤◌, List, [], ◌∷◌, ◌++◌, length, get_or, take, Ok, Err, Result, ap, ◌∙◌, append_assoc, arith}
use Rattle.std.proofs.lemmas.List.{take_more, length-take-le}
use Rattle.program.specs.declared.fault.Fault.{Fault}
use Rattle.port.specs.declared.reading.Reading.{Reading}
use Rattle.port.specs.Meaning.{Meaning, Shown}
use Rattle.machine.specs.Console.{Console, console, showing}

abbrev pub ShownSo : List ℕ → ℕ → Meaning → Meaning → Type 0
ShownSo bs i p q = (console q ≡ showing (take i bs) (console p)) × (q.openings ≡ p.openings)

pub same : (w w' : List Reading) (s s' : List ℕ) (k k' : ℕ) → w ≡ w' → s ≡ s' → k ≡ k'
    → ◌≡◌ {A = Console} (record { waiting = w; shown = s; space = k }) (record { waiting = w'; shown = s'; space = k' })
same w w' s s' k k' p q r = cc

pub shown_more : (bs : List ℕ) (i : ℕ) (start p q : Meaning) (r : Result (Unit {0}) Fault) → i < length bs → length bs ≤ start.space
    → ShownSo bs i start p → Shown p (get_or bs i 0) r q → ShownSo bs (i + 1) start q
shown_more bs i start p q (Ok u) lt room inv one =
    let w : p.waiting ≡ start.waiting = ap (λ (c : Console). c.waiting) inv.0 in
    let s : p.shown ≡ start.shown ++ take i bs = ap (λ (c : Console). c.shown) inv.0 in
    let k : p.space ≡ start.space - length (take i bs) = ap (λ (c : Console). c.space) inv.0 in
    let l : length (take i bs) ≡ i = length-take-le i bs (omega arith) in
    let m : length (take (i + 1) bs) ≡ i + 1 = length-take-le (i + 1) bs (omega arith) in
    let t : take (i + 1) bs ≡ take i bs ++ get_or bs i 0 ∷ [] = take_more bs i 0 lt in
    let a : (start.shown ++ take i bs) ++ get_or bs i 0 ∷ [] ≡ start.shown ++ (take i bs ++ get_or bs i 0 ∷ []) = append_assoc start.shown (take i bs) (get_or bs i 0 ∷ []) in
    let x : q.shown ≡ start.shown ++ take (i + 1) bs = cc one.1 in
    let y : q.waiting ≡ start.waiting = one.0 ∙ w in
    let z : q.space ≡ start.space - length (take (i + 1) bs) = omega (arith, one.3) in
    (same _ _ _ _ _ _ y x z, one.2 ∙ inv.1)
shown_more bs i start p q (Err e) lt room inv one =
    let k : p.space ≡ start.space - length (take i bs) = ap (λ (c : Console). c.space) inv.0 in
    let l : length (take i bs) ≡ i = length-take-le i bs (omega arith) in
    absurd (omega (arith, one.0))

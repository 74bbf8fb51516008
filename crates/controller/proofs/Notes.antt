-- Registers and memory before each step of a run, step by step.
use Rattle.std.proofs.Common.{◌≡◌, ℕ, zero, suc, ◌+◌, List, [], ◌∷◌, ◌++◌, length, sym, refl, ap, ◌∙◌, arith, length-append}
use Rattle.instructions.specs.declared.layout.Layout.{Layout}
use Rattle.instructions.specs.Core.{Core}
use Rattle.machine.specs.declared.state.Status.{Status}
use Rattle.machine.specs.declared.state.Status.TheVariants.{Live, Halted, Faulted}
use Rattle.machine.specs.Console.{Console}
use Rattle.machine.specs.Run.{runs, then}
use Rattle.machine.specs.Step.{Stepped, moved, ended, stopped, step}
use Rattle.machine.specs.Turns.{rerun}
use Rattle.controller.specs.Lives.{first}

abbrev pub noted : Core → Stepped → (Core → Console → List Core) → List Core
noted c (moved d w) on = c ∷ on d w
noted c (ended d w) on = c ∷ []
noted c (stopped o d w) on = []

unfoldable pub notes : Layout → ℕ → Core → Console → List Core
notes lay zero c w = []
notes lay (suc left) c w = noted c (step lay c w) (notes lay left)

-- a halted or faulted machine does no step
abbrev pub notes_from : Status → Layout → ℕ → Core → Console → List Core
notes_from Live lay allowance c w = notes lay allowance c w
notes_from Halted lay allowance c w = []
notes_from (Faulted f) lay allowance c w = []

pub first_length : (at : ℕ → Core) (n : ℕ) → length (first at n) ≡ n
first_length at zero = refl
first_length at (suc n) = let r = first_length at n in simp length-append (omega (arith, r))

-- the first of a sequence, and the others
abbrev fronted : Core → (ℕ → Core) → ℕ → List Core
fronted c at zero = []
fronted c at (suc n) = c ∷ first at n

first_front : (at : ℕ → Core) (n : ℕ) → first at n ≡ fronted (at 0) (λ j. at (suc j)) n
first_front at zero = refl
first_front at (suc n) = ap (λ t. t ++ at n ∷ []) (first_front at n) ∙ go n
  where
    go : (m : ℕ) → fronted (at 0) (λ j. at (suc j)) m ++ at m ∷ [] ≡ at 0 ∷ first (λ j. at (suc j)) m
    go zero = refl
    go (suc m) = refl

-- they are what runs with smaller allowances leave
notes_are : (lay : Layout) (done b : ℕ) (c : Core) (w : Console) → notes lay b c w ≡ first (λ j. (runs lay done j c w).core) (length (notes lay b c w))
unfolding runs notes
notes_are lay done zero c w = refl
notes_are lay done (suc b) c w = go (step lay c w) (λ d v. notes_are lay (done + 1) b d v) ∙ sym (first_front (λ j. (runs lay done j c w).core) (length (noted c (step lay c w) (notes lay b))))
  where
    go : (s : Stepped) → ((d : Core) (v : Console) → notes lay b d v ≡ first (λ j. (runs lay (done + 1) j d v).core) (length (notes lay b d v))) → noted c s (notes lay b) ≡ fronted c (λ j. (then done s (runs lay (done + 1) j)).core) (length (noted c s (notes lay b)))
    go (moved d v) ih = ap (λ t. c ∷ t) (ih d v)
    go (ended d v) ih = refl
    go (stopped o d v) ih = refl

pub notes_from_lem : (st : Status) (lay : Layout) (b : ℕ) (c : Core) (w : Console) → notes_from st lay b c w ≡ first (λ j. (rerun st lay j c w).core) (length (notes_from st lay b c w))
notes_from_lem Live lay b c w = notes_are lay 0 b c w
notes_from_lem Halted lay b c w = refl
notes_from_lem (Faulted f) lay b c w = refl

-- Lawful walks along the rules.
use Rattle.std.specs.Prelude.{◌≡◌, ℕ, ◌⊎◌, List, [], ◌∷◌, ℤ, pos}
use Rattle.plan.specs.declared.successor.Successor.{Successor}
use Rattle.plan.specs.Programs.{Program, Sits}
use Rattle.plan.specs.Rules.{Steps}
use Rattle.plan.specs.Lawful.{Root}

-- x is an element
abbrev pub In : {X : Type 0} → List X → X → Type 0
In [] x = ⊥
In (y ∷ ys) x = (y ≡ x) ⊎ In ys x

-- a walk to an address, which may lie outside the code, with a body and a depth. The addresses before its end are
-- listed, newest first; none comes twice, and each may have a place
pub data Walk (P : Program) : List ℕ → ℤ → ℕ → ℕ → Type 0 where
  root : (a b : ℕ) → Root P a b → Walk P [] (pos a) b 0
  on : (ws : List ℕ) (a b h : ℕ) (ss : List Successor) (s : Successor) → Walk P ws (pos a) b h → (In ws a → ⊥) → Sits P a → Steps P a b h ss → In ss s → Walk P (a ∷ ws) s.address b s.depth

-- a walk leads to an address with a body and a depth
abbrev pub Walked : Program → ℤ → ℕ → ℕ → Type 0
Walked P t b h = (ws : List ℕ) × Walk P ws t b h

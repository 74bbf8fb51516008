-- What a port means, and what each call makes of it.
use Rattle.std.specs.Prelude.{◌≡◌, ℕ, ◌+◌, ◌≤◌, List, [], ◌∷◌, ◌++◌, Some, None, Ok, Err, Option, Result}
use Rattle.program.specs.declared.fault.Fault.{Fault}
use Rattle.program.specs.declared.fault.Place.TheVariants.{Nowhere}
use Rattle.program.specs.Faults.{refusal, refused}
use Rattle.port.specs.declared.reading.Reading.{Reading}

-- the readings that wait and the bytes that are shown, both in order; how many more readings and bytes it accepts
pub record Meaning : Type 0 where
  pub waiting : List Reading
  pub shown : List ℕ
  pub openings : ℕ
  pub space : ℕ

abbrev pub meant : List Reading → List ℕ → ℕ → ℕ → Meaning
meant waiting shown openings space = record { waiting = waiting; shown = shown; openings = openings; space = space }

-- what a refused call leaves: with no room left, the fault of that number, nowhere, and nothing changed
abbrev Refused : ℕ → ℕ → Fault → Meaning → Meaning → Type 0
Refused room number fault m m' = (room ≡ 0) × (refusal fault ≡ refused number Nowhere) × (m' ≡ m)

-- an offered reading joins the end of those that wait, and takes an opening; with no opening it is refused
abbrev pub Offered : {U : Type 0} → Meaning → Reading → Result U Fault → Meaning → Type 0
Offered m x (Ok u) m' = (m'.waiting ≡ m.waiting ++ x ∷ []) × (m'.shown ≡ m.shown) × (m'.openings + 1 ≡ m.openings) × (m'.space ≡ m.space)
Offered m x (Err f) m' = Refused m.openings 34 f m m'

-- a take gives the first of those that wait, and openings do not fall; if none waits there is nothing to give
abbrev pub Taken : Meaning → Option Reading → Meaning → Type 0
Taken m (Some x) m' = (m.waiting ≡ x ∷ m'.waiting) × (m'.shown ≡ m.shown) × (m.openings ≤ m'.openings) × (m'.space ≡ m.space)
Taken m None m' = (m.waiting ≡ []) × (m' ≡ m)

-- a shown byte joins the end of those that are shown, and takes space; with no space it is refused
abbrev pub Shown : {U : Type 0} → Meaning → ℕ → Result U Fault → Meaning → Type 0
Shown m b (Ok u) m' = (m'.waiting ≡ m.waiting) × (m'.shown ≡ m.shown ++ b ∷ []) × (m'.openings ≡ m.openings) × (m'.space + 1 ≡ m.space)
Shown m b (Err f) m' = Refused m.space 35 f m m'

-- a clear leaves no byte shown, and space does not fall
abbrev pub Cleared : Meaning → Meaning → Type 0
Cleared m m' = (m'.waiting ≡ m.waiting) × (m'.shown ≡ []) × (m'.openings ≡ m.openings) × (m.space ≤ m'.space)

-- What a call of step leaves.
use Rattle.std.specs.Prelude.{◌≡◌, ℕ, ◌<◌, ◌≤◌, List, length, Ok, Err, Result}
use Rattle.machine.specs.declared.outcome.Outcome.{Outcome}
use Rattle.machine.specs.declared.outcome.Outcome.TheVariants.{Spent, Halted, Reading, Space, Fault}
use Rattle.instructions.specs.Core.{Core}
use Rattle.port.specs.Meaning.{Meaning}
use Rattle.machine.specs.Console.{Console, console, showing}
use Rattle.machine.specs.Step.{Stepped, moved, ended, stopped}

-- the step that ends a run: HALT is one, and any other is none
abbrev pub ended_by : Outcome → Core → Console → Stepped
ended_by Spent c w = stopped Spent c w
ended_by Halted c w = ended c w
ended_by Reading c w = stopped Reading c w
ended_by Space c w = stopped Space c w
ended_by (Fault f) c w = stopped (Fault f) c w

-- how many steps the end of a run was
abbrev pub last : Outcome → ℕ
last Spent = 0
last Halted = 1
last Reading = 0
last Space = 0
last (Fault f) = 0

-- what a call of step left
abbrev pub step_left : {U : Type 0} → Result U Outcome → Core → Console → Stepped
step_left (Ok u) c w = moved c w
step_left (Err o) c w = ended_by o c w

-- all the bytes are shown; or there is too little space, and none is; the openings stay
abbrev pub Printed : {U E : Type 0} → List ℕ → Meaning → Result U E → Meaning → Type 0
Printed bs p (Ok u) q = (length bs ≤ p.space) × (console q ≡ showing bs (console p)) × (q.openings ≡ p.openings)
Printed bs p (Err e) q = (p.space < length bs) × (console q ≡ console p) × (q.openings ≡ p.openings)

-- What a ruling says of the instruction i at a place: what comes after it, or the cause if no rule fits.
use Rattle.std.specs.Prelude.{◌≡◌, ℕ, ◌+◌, ◌-◌, ◌<◌, ◌≤◌, ◌⊎◌, List, [], ◌∷◌, ℤ, pos, Ok, Err, Result, ◌≢◌}
use Rattle.program.specs.declared.fault.CheckCause.{CheckCause}
use Rattle.program.specs.declared.fault.CheckCause.TheVariants.{NoRule, ShallowDepth, TooDeep}
use Rattle.program.specs.declared.unit.Unit.{Unit as UnitRecord}
use Rattle.isa.specs.declared.instruction.Instruction.{Instruction}
use Rattle.plan.specs.declared.next.Next.{Next}
use Rattle.plan.specs.declared.next.Next.TheVariants.{Last, Onward, Fork}
use Rattle.plan.specs.declared.successor.Successor.{Successor}
use Rattle.plan.specs.Kinds.{uses, gives}
use Rattle.plan.specs.Programs.{Program, Listed}
use Rattle.plan.specs.Rules.{Onto, Calls, Rule, Low}
use Rattle.plan.specs.Causes.{Holding}

abbrev pub Ruling : Type 0
Ruling = Result Next CheckCause

-- the successors that come next
abbrev pub successors : Next → List Successor
successors Last = []
successors (Onward s) = s ∷ []
successors (Fork s t) = s ∷ t ∷ []

-- a cause that holds, or the rule with its successors
abbrev pub Ruled : Program → ℕ → ℕ → ℕ → Instruction → Ruling → Type 0
Ruled P a b h i (Err c) = Holding P a b h i c
Ruled P a b h i (Ok n) = Rule P a b h i (successors n)

-- the depths of its successors are at most 1,000
abbrev pub LowIn : Ruling → Type 0
LowIn (Err c) = Unit {0}
LowIn (Ok n) = Low (successors n)

-- of an instruction that goes on to the next one
abbrev pub Ontoed : ℕ → ℕ → Instruction → Ruling → Type 0
Ontoed a h i (Err c) = ((c ≡ ShallowDepth) × (h < uses i)) ⊎ ((c ≡ TooDeep) × (uses i ≤ h) × (1000 < h - uses i + gives i))
Ontoed a h i (Ok n) = Onto a h i (successors n) × Low (successors n)

-- of a call of the unit with the entry e
abbrev pub Called : List UnitRecord → ℕ → ℕ → ℤ → Ruling → Type 0
Called us a h e (Err c) = ((c ≡ NoRule) × ((k : ℕ) (v : UnitRecord) → Listed us k v → e ≢ pos v.entry)) ⊎ (((c ≡ ShallowDepth) × ((k : ℕ) × (v : UnitRecord) × Listed us k v × (e ≡ pos v.entry) × (h < v.arguments + v.results))) ⊎ ((c ≡ TooDeep) × (1000 ≤ h)))
Called us a h e (Ok n) = ((k : ℕ) × (v : UnitRecord) × Calls us a h e k v (successors n)) × Low (successors n)

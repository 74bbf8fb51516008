-- What the check says of a program.
use Rattle.std.specs.Prelude.{◌≡◌, ℕ, List, map, take, ℤ}
use Rattle.program.specs.declared.fault.CheckCause.{CheckCause}
use Rattle.program.specs.declared.unit.Unit.{Unit as UnitRecord}
use Rattle.program.specs.Faults.{check_number}
use Rattle.assembler.specs.Assembly as A
use Rattle.assembler.specs.Marks.{entry_of}
use Rattle.plan.specs.Programs.{Program, program_of}
use Rattle.plan.specs.Lawful.{Plan, Lawful}
use Rattle.plan.specs.Causes.{Due, Turn}

-- the program passes: a plan is lawful, and no cause could be named
pub record Passes (P : Program) : Type 0 where
  pub lawful : (p : Plan) × Lawful P p
  pub none : (c : CheckCause) (t : ℤ) → Due P c t → ⊥

-- the program is refused with the number n at the address x: a cause is due there in its turn, no plan is lawful, and
-- every cause that could be named, wherever it is due, has this number and this address
pub record Gives (n : ℕ) (x : ℤ) (P : Program) : Type 0 where
  pub due : (c : CheckCause) × Turn P c × Due P c x
  pub unlawful : (p : Plan) → Lawful P p → ⊥
  pub only : (c : CheckCause) (t : ℤ) → Due P c t → (check_number c ≡ n) × (t ≡ x)

-- of an assembled program, with any unit table whose first units are the program's
abbrev pub Checked : (Program → Type 0) → A.Program → Type 0
Checked Q p = (us : List UnitRecord) → map entry_of (take p.counts.units us) ≡ p.units → Q (program_of p.counts p.cells us)

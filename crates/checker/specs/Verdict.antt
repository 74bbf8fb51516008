-- What the check answers and leaves.
use Rattle.std.specs.Prelude.{◌≡◌, ℕ, ◌≤◌, ◌⊎◌, List, length, replicate, ℤ, None, Ok, Err, Result}
use Rattle.program.specs.Faults.{check_number, refused, refusal}
use Rattle.program.specs.declared.assembled.Assembled.{Assembled}
use Rattle.program.specs.declared.counts.Counts.{Counts}
use Rattle.program.specs.declared.fault.CheckCause.{CheckCause}
use Rattle.program.specs.declared.fault.CheckCause.TheVariants.{TableSize, MemoryLength}
use Rattle.program.specs.declared.fault.Fault.{Fault}
use Rattle.program.specs.declared.fault.Fault.TheVariants.{Check}
use Rattle.program.specs.declared.fault.Place.TheVariants.{Nowhere, Address}
use Rattle.program.specs.declared.refused.Refused.{Refused}
use Rattle.program.specs.declared.unit.Unit.{Unit as UnitRecord}
use Rattle.plan.specs.Programs.{Program, program_of}
use Rattle.plan.specs.Lawful.{Plan, Lawful, Least, Table, plan_of}
use Rattle.plan.specs.Causes.{Due, Turn}
use Rattle.controller.specs.Lives.{Handed}
use Rattle.controller.specs.Law.{Obeyed}
use Rattle.checker.specs.declared.passed.Passed.{Passed}

-- the plan table and the visit list have a place for each code cell, and the unit table has the units
pub record Roomy (c : Counts) (us : List UnitRecord) (t : Table) (q : List ℕ) : Type 0 where
  pub table : c.code ≤ length t
  pub list : c.code ≤ length q
  pub units : c.units ≤ length us

-- the program p, with the memory m and the unit table us; t and u are the plan table before and after, q and v the
-- visit list
module _ (p : Assembled) (m : List ℤ) (us : List UnitRecord) (t u : Table) (q v : List ℕ) where
  abbrev checked : Program
  checked = program_of p.counts m us

  abbrev as_handed : Handed
  as_handed = record { counts = p.counts; cells = m; units = us }

  -- the table holds the least lawful plan and nothing else, and the list is zero; every controller that starts with
  -- the program as it was handed obeys the three laws, whatever its port and its calls
  pub record Accepted (r : Passed) : Type 0 where
    pub same : r.program ≡ p
    pub roomy : Roomy p.counts us t q
    pub length_is : length m ≡ p.counts.cells
    pub kept : length u ≡ length t
    pub least : Least checked (plan_of u)
    pub zeros : v ≡ replicate (length q) 0
    pub laws : Obeyed as_handed

  -- 12: a table or the list is too short; nothing changes
  pub record TooShort (f : Fault) : Type 0 where
    pub fault : f ≡ Check TableSize Nowhere
    pub says : refusal f ≡ refused 12 Nowhere
    pub short : Roomy p.counts us t q → ⊥
    pub table : u ≡ t
    pub list : v ≡ q

  -- 21: the memory is not the program's; nothing changes
  pub record OtherMemory (f : Fault) : Type 0 where
    pub fault : f ≡ Check MemoryLength Nowhere
    pub says : refusal f ≡ refused 21 Nowhere
    pub roomy : Roomy p.counts us t q
    pub other : length m ≡ p.counts.cells → ⊥
    pub table : u ≡ t
    pub list : v ≡ q

  -- 13 to 20: no plan is lawful. The cause has its turn and is due at its address; the table is unset and the list zero
  pub record Unlawful (f : Fault) : Type 0 where
    pub cause : CheckCause
    pub address : ℤ
    pub fault : f ≡ Check cause (Address address)
    pub says : refusal f ≡ refused (check_number cause) (Address address)
    pub roomy : Roomy p.counts us t q
    pub length_is : length m ≡ p.counts.cells
    pub turn : Turn checked cause
    pub due : Due checked cause address
    pub none : (o : Plan) → Lawful checked o → ⊥
    pub unset : u ≡ replicate (length t) None
    pub zeros : v ≡ replicate (length q) 0

  -- a refusal gives the program back
  abbrev pub Answered : Result Passed (Refused Assembled) → Type 0
  Answered (Ok r) = Accepted r
  Answered (Err f) = (f.program ≡ p) × (TooShort f.fault ⊎ (OtherMemory f.fault ⊎ Unlawful f.fault))

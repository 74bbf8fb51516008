-- What the contract of check says of a call on an assembled program.
use Rattle.std.specs.Prelude.{◌≡◌, ℕ, List, map, take, ℤ, Ok, Err, Result}
use Rattle.program.specs.declared.assembled.Assembled.{Assembled}
use Rattle.program.specs.declared.fault.Place.TheVariants.{Address}
use Rattle.program.specs.declared.refused.Refused.{Refused}
use Rattle.program.specs.declared.unit.Unit.{Unit as UnitRecord}
use Rattle.program.specs.Faults.{refusal, refused}
use Rattle.assembler.specs.Assembly.{Program}
use Rattle.assembler.specs.Marks.{entry_of}
use Rattle.plan.specs.Lawful.{Table}
use Rattle.checker.specs.declared.passed.Passed.{Passed}
use Rattle.checker.specs.Verdict.{Roomy, Answered}

-- an answer accepts the program
abbrev pub Accepts : Result Passed (Refused Assembled) → Type 0
Accepts (Ok r) = Unit {0}
Accepts (Err f) = ⊥

-- an answer is the refusal of that number at that address
abbrev pub Refuses : ℕ → ℤ → Result Passed (Refused Assembled) → Type 0
Refuses n x (Ok r) = ⊥
Refuses n x (Err f) = refusal f.fault ≡ refused n (Address x)

-- every answer that the contract of check allows has Q: for the program a with these counts and cells, a unit table us
-- whose first units are the program's, and tables t and q with room, which are u and v afterwards
abbrev pub Answers : (Result Passed (Refused Assembled) → Type 0) → Program → Type 0
Answers Q p =
    (a : Assembled) (us : List UnitRecord) (t u : Table) (q v : List ℕ) (r : Result Passed (Refused Assembled)) →
    a.counts ≡ p.counts → map entry_of (take p.counts.units us) ≡ p.units → Roomy p.counts us t q →
    Answered a p.cells us t u q v r → Q r

-- A passed program at its start.
use Rattle.std.specs.Prelude.{◌≡◌, List, length, ℤ, Ok, Err, Result, ◌≢◌}
use Rattle.program.specs.declared.refused.Refused.{Refused}
use Rattle.program.specs.declared.fault.Place.TheVariants.{Nowhere}
use Rattle.program.specs.Faults.{refusal, refused}
use Rattle.machine.specs.declared.state.Machine.{Machine}
use Rattle.machine.specs.Start.{Begun}
use Rattle.checker.specs.declared.passed.Passed.{Passed}

-- a live machine at its initial registers; refusal 21, which gives the program back, exactly where the memory's length
-- is another
abbrev pub Started : Passed → List ℤ → Result Machine (Refused Passed) → Type 0
Started p memory (Ok m) = (length memory ≡ p.program.counts.cells) × Begun p.program.counts m
Started p memory (Err e) = (length memory ≢ p.program.counts.cells) × (e.program.program.counts ≡ p.program.counts) × (refusal e.fault ≡ refused 21 Nowhere)

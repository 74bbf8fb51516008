use Rattle.std.proofs.Common.{ℕ, ◌<◌}
use Rattle.program.specs.declared.unit.Unit.{Unit as UnitRecord}
use Rattle.plan.specs.Programs.{Listed, Opens}
use Rattle.checker.specs.Progress.{judged}
use Rattle.checker.proofs.work.Work.units_open.Given as goal

abbrev pub invariant-loop-k : goal.invariant-loop-k
invariant-loop-k l = (j : ℕ) (w : UnitRecord) → j < l.k → Listed l.self.program.units.now j w → Opens (judged l.self) j w

use Rattle.std.proofs.Common.{◌≡◌, ℕ, suc, ◌+◌, ◌<◌}
use Rattle.program.specs.declared.unit.Unit.{Unit as UnitRecord}
use Rattle.plan.specs.Programs.{Listed}
use Rattle.plan.specs.Lawful.{Has, plan_of}
use Rattle.checker.specs.Progress.{judged, places, Moved}
use Rattle.checker.proofs.work.Work.begin.Given as goal

abbrev pub invariant-loop-k : goal.invariant-loop-k
invariant-loop-k l = record {
  lender : l.self.plan.ghost_name ≡ l.fn.self.plan.ghost_name;
  moved : Moved (judged l.fn.self) l.fn.self l.self;
  main : Has (plan_of (places l.self)) 0 0 0;
  units : (j : ℕ) (w : UnitRecord) → j < l.k → Listed l.fn.self.program.units.now j w → Has (plan_of (places l.self)) (w.entry + 3) (suc j) 0;
}

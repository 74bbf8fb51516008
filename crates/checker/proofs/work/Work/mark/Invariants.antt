use Rattle.std.proofs.Common.{◌≡◌, ℕ, ◌-◌, ◌≤◌, [], length, get_or, None}
use Rattle.isa.specs.Code.{Divides}
use Rattle.checker.specs.Progress.{judged, places, came}
use Rattle.checker.proofs.Marks.{MarkedTo}
use Rattle.checker.proofs.work.Work.mark.Given as goal

abbrev pub invariant-loop-a : goal.invariant-loop-a
invariant-loop-a l = record {
  lender : l.self.plan.ghost_name ≡ l.fn.self.plan.ghost_name;
  is : judged l.self ≡ judged l.fn.self;
  empty : came l.self ≡ [];
  divides : Divides l.fn.self.program.code.now l.a;
  within : l.a ≤ length l.fn.self.program.code.now;
  marked : MarkedTo l.fn.self.program.code.now l.self.plan.now l.a;
  unset : (b : ℕ) → l.a ≤ b → get_or l.self.plan.now b None ≡ None;
  bare : (b : ℕ) → get_or (places l.self) b None ≡ None;
}

abbrev pub decreases-loop-a : goal.decreases-loop-a
decreases-loop-a l = length l.fn.self.program.code.now - l.a

use Rattle.std.proofs.Common.{◌≡◌, ℕ, ◌-◌, ◌<◌, ◌≤◌, length, get_or}
use Rattle.checker.specs.Progress.{judged, places, came, Moved}
use Rattle.checker.specs.Work.{Rooted, Done}
use Rattle.checker.proofs.work.Work.drain.Given as goal

abbrev pub invariant-loop-address : goal.invariant-loop-address
invariant-loop-address l = record {
  lender : l.self.plan.ghost_name ≡ l.fn.self.plan.ghost_name;
  moved : Moved (judged l.fn.self) l.fn.self l.self;
  rooted : Rooted (judged l.fn.self) (places l.self);
  done : (j : ℕ) → j < l.i → Done (judged l.fn.self) (places l.self) (get_or (came l.self) j 0);
  within : l.i ≤ length (came l.self);
}

abbrev pub decreases-loop-address : goal.decreases-loop-address
decreases-loop-address l = length l.fn.self.program.code.now - l.i

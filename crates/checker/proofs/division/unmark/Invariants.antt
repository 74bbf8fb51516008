use Rattle.std.proofs.Common.{◌≡◌, ◌++◌, map, take, drop}
use Rattle.checker.specs.Work.{place_in}
use Rattle.checker.proofs.division.unmark.Given as goal

abbrev pub invariant-loop-held : goal.invariant-loop-held
invariant-loop-held l = l.plan ≡ map place_in (take l.held-index l.initial.plan) ++ drop l.held-index l.initial.plan

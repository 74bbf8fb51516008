-- What two turns answer: what one run with the sum of their allowances does.
use Rattle.std.specs.Prelude.{ℕ, List, ℤ, Ok, Err, Result}
use Rattle.program.specs.declared.fault.Fault.{Fault}
use Rattle.port.specs.Meaning.{Meaning}
use Rattle.machine.specs.declared.state.Machine.{Machine}
use Rattle.machine.specs.Turns.{Done, Unfit}
use Rattle.turns.specs.declared.turns.Turns.{Turns}

module _ (allowance : ℕ) (before after : Machine) (memory memory' : List ℤ) (port port' : Meaning) where
  -- steps and outcome are those of the one run, or refusal 21 changes nothing
  abbrev pub Answered : Result Turns Fault → Type 0
  Answered (Ok a) = Done allowance before after memory memory' port port' a.steps a.outcome
  Answered (Err f) = Unfit allowance before after memory memory' port port' f

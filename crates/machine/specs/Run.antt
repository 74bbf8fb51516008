-- A run: steps until the allowance is spent, or one ends it.
use Rattle.std.specs.Prelude.{ℕ, zero, suc, ◌+◌}
use Rattle.machine.specs.declared.outcome.Outcome.{Outcome}
use Rattle.machine.specs.declared.outcome.Outcome.TheVariants.{Spent, Halted}
use Rattle.instructions.specs.declared.layout.Layout.{Layout}
use Rattle.instructions.specs.Core.{Core}
use Rattle.machine.specs.Console.{Console}
use Rattle.machine.specs.Step.{Stepped, moved, ended, stopped, step}

-- what a run comes to
pub record Ran : Type 0 where
  pub steps : ℕ
  pub outcome : Outcome
  pub core : Core
  pub console : Console

abbrev pub ran : ℕ → Outcome → Core → Console → Ran
ran n o c w = record { steps = n; outcome = o; core = c; console = w }

-- after `done` steps: one more, and on
abbrev pub then : ℕ → Stepped → (Core → Console → Ran) → Ran
then done (moved c w) on = on c w
then done (ended c w) on = ran (done + 1) Halted c w
then done (stopped o c w) on = ran done o c w

-- with `done` steps done and so many left
unfoldable pub runs : Layout → ℕ → ℕ → Core → Console → Ran
runs lay done zero c w = ran done Spent c w
runs lay done (suc left) c w = then done (step lay c w) (runs lay (done + 1) left)

use Rattle.std.proofs.Common.{◌+◌, ◌-◌, ◌∙◌, arith, rules}
use Rattle.machine.proofs.Keeping.{run_keeps}
use Rattle.machine.proofs.Stepping.{runs_spent, runs_more, runs_ended}
use Rattle.machine.proofs.turns.run_live.Goals as goal

pub loop-done-preserved : goal.loop-done-preserved
loop-done-preserved g c =
    let e = runs_more _ c.loop-done.done (c.args.allowance - c.loop-done.done) (c.args.allowance - (c.loop-done.done + 1)) _ _ _ c.in_default.ensures.after (omega arith) in
    (e ∙ c.loop-done.invariant.0, search rules, search rules)

pub returns-in-Err-clause-after : goal.returns-in-Err-clause-after
returns-in-Err-clause-after g c =
    runs_ended _ c.loop-done.done (c.args.allowance - c.loop-done.done) (c.args.allowance - (c.loop-done.done + 1)) _ c.in-Err.outcome _ _ _ _ c.in-Err.ensures.after (omega arith) c.last_step.ensures.is
    ∙ c.loop-done.invariant.0

pub returns-clause-after : goal.returns-clause-after
returns-clause-after g c = runs_spent _ c.loop-done.done (c.args.allowance - c.loop-done.done) c.args.allowance _ _ (omega arith) (omega arith) ∙ c.loop-done.invariant.0

pub returns-in-Err-clause-code : goal.returns-in-Err-clause-code
returns-in-Err-clause-code g c = run_keeps _ c.args.allowance _ _ _ _ _ _ (returns-in-Err-clause-after g c) c.requires.0

pub returns-clause-code : goal.returns-clause-code
returns-clause-code g c = run_keeps _ c.args.allowance _ _ _ _ _ _ (returns-clause-after g c) c.requires.0

use Rattle.std.proofs.Common.{◌≡◌, ◌+◌, sym, refl, rules}
use Rattle.machine.specs.declared.outcome.Outcome.TheVariants.{Spent}
use Rattle.turns.proofs.Sums.{both_done, done_as, one_done}
use Rattle.turns.proofs.run_turns.Goals as goal

pub returns-then-ne : goal.returns-then-ne
returns-then-ne g c =
    let r = c.in_ok-report.report in
    let a = c.args.first in
    let b = c.args.second in
    let over : r.outcome ≡ Spent → ⊥ = search rules in
    done_as (a + b) _ _ _ _ _ _ r.steps c.from.result.steps r.outcome c.from.result.outcome (sym c.from.ensures.0) (sym c.from.ensures.1)
    (one_done a b _ _ _ _ _ _ r.steps r.outcome over c.in_ok-report.ensures)

pub returns : goal.returns
returns g c =
    let r = c.in_ok-report.report in
    let m = c.in_ok-more.more in
    let a = c.args.first in
    let b = c.args.second in
    let t = c.together in
    let spent : r.outcome ≡ Spent = search rules in
    done_as (a + b) _ _ _ _ _ _ (r.steps + m.steps) t.result.steps m.outcome t.result.outcome (sym t.ensures.steps) (sym t.ensures.outcome)
    (both_done a b _ _ _ _ _ _ r.steps _ _ _ m.steps m.outcome
    (done_as a _ _ _ _ _ _ r.steps r.steps r.outcome Spent refl spent c.in_ok-report.ensures)
    c.in_ok-more.ensures)

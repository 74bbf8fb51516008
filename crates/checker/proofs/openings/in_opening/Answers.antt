use Rattle.std.proofs.Common.{rules, tests}
use Rattle.std.proofs.lemmas.Iterator.{cases_from_any, YieldsList-from_slice}
use Rattle.checker.proofs.Within.{Lies, opening_decided}
use Rattle.checker.proofs.openings.in_opening.Goals as goal

pub returns : goal.returns
returns c =
    opening_decided c.args.units.now c.args.a c.any.result
    (cases_from_any _ _ _ (Lies c.args.a) (λ v. Lies c.args.a v → ⊥) c.any.ensures.ran (YieldsList-from_slice c.args.units.now cc) (λ x q k. search (rules, tests)) (λ x q k. search (rules, tests)))

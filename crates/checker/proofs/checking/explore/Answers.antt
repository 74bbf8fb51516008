use Rattle.std.proofs.Common.{◌≡◌, ◌∙◌, subst, MatchResult, rules}
use Rattle.isa.specs.Code.{Divided}
use Rattle.plan.specs.Programs.{Program, Opened, seen}
use Rattle.plan.specs.Lawful.{Least, plan_of}
use Rattle.plan.specs.Causes.{Due}
use Rattle.checker.specs.Progress.{judged, places}
use Rattle.checker.proofs.Works.{explored}
use Rattle.checker.proofs.checking.explore.Goals as goal

pub returns : goal.returns
returns c =
    let P : Program = seen c.args.program.now in
    let m : judged c.mark.new.self ≡ judged c.new-work.result = search rules in
    let e : judged c.begin.new.self ≡ P = c.in_ok-begin.ensures.begun.0.is ∙ (m ∙ c.new-work.ensures.parts.0) in
    let d : Divided P.code = search rules in
    let o : Opened P = search rules in
    explored P _ c.drain.new.self.plan.now c.drain.result (search rules) (record { divided = d; opened = o })
    (subst (λ (Q : Program). MatchResult c.drain.result (λ _. Least Q (plan_of (places c.drain.new.self))) (λ f. Due Q f.cause f.address)) e c.drain.ensures.drained)

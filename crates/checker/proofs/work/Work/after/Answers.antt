use Rattle.std.proofs.Common.{◌≡◌, ℤ, pos, sym, ◌∙◌, subst, rules}
use Rattle.std.proofs.lemmas.Int.{ints}
use Rattle.program.specs.declared.fault.CheckCause.{CheckCause}
use Rattle.plan.specs.Causes.{Due}
use Rattle.checker.specs.Progress.{judged, places, came}
use Rattle.checker.proofs.Works.{seat_instruction, depth_low, ruling_said, mapped, there}
use Rattle.checker.proofs.work.Work.after.Goals as goal

pub unwrap-i-requires : goal.unwrap-i-requires
unwrap-i-requires c =
    let w = c.args.self.now in
    there c.instruction_at.result (λ e. seat_instruction (judged w) c.args.address (c.requires.ready.base.seated c.args.address c.args.at c.requires.placed) c.requires.divided (e ∙ c.instruction_at.ensures.is))

pub returns : goal.returns
returns c =
    let w = c.args.self.now in
    mapped c.rule_at.result c.map_err.result _ _ _ _ c.map_err.ensures.cases
    (ruling_said (judged w) (places w) (came w) c.requires.ready.base c.args.address c.args.at c.requires.placed c.unwrap-i.result (sym c.instruction_at.ensures.is ∙ c.unwrap-i.ensures) c.rule_at.result c.rule_at.ensures.ruled
    (c.rule_at.ensures.low (depth_low (judged w) (places w) (came w) c.requires.ready.base c.args.address c.args.at c.requires.placed)))
    (λ y z k d.
    let e : z.cause ≡ y = search rules in
    let f : z.address ≡ pos c.args.address = search (rules, ints) in
    subst (λ (x : CheckCause). Due (judged w) x z.address) (sym e) (subst (λ (x : ℤ). Due (judged w) y x) (sym f) d))

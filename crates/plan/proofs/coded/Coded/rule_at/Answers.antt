use Rattle.std.proofs.Common.{◌≡◌, ℤ, sym, refl, ◌∙◌, subst, w32, SFits, rules}
use Rattle.std.proofs.lemmas.Int.{to_z-of_z}
use Rattle.std.proofs.lemmas.Bool.{both_ways}
use Rattle.plan.specs.declared.kind.Kind.{Kind}
use Rattle.plan.specs.declared.kind.Kind.TheVariants.{Pushes, Ends}
use Rattle.plan.specs.Kinds.{kind}
use Rattle.plan.specs.Programs.{Program, seen}
use Rattle.plan.specs.Causes.{Unruled}
use Rattle.plan.specs.Rulings.{Called}
use Rattle.plan.proofs.Calling.{called_ruled}
use Rattle.plan.proofs.coded.Coded.rule_at.Goals as goal

pub returns-in-Pushes-clause-ruled : goal.returns-in-Pushes-clause-ruled
returns-in-Pushes-clause-ruled c =
    let P : Program = seen c.args.self.now in
    let k : kind c.args.i.op ≡ Pushes = sym c.kind_of.ensures ∙ c.in-Pushes.is in
    let f : SFits w32 c.args.i.argument = search rules in
    let q = subst (λ (z : ℤ). Called P.units c.args.address c.args.at.depth z c.call.result) (to_z-of_z w32 c.args.i.argument f) c.call.ensures in
    called_ruled P c.args.address c.args.at.body c.args.at.depth c.args.i k (c.if-is_call.ensures.0 refl) c.call.result q

pub returns-in-Ruleless-clause-ruled : goal.returns-in-Ruleless-clause-ruled
returns-in-Ruleless-clause-ruled c =
    let k : kind c.args.i.op ≡ Ends = sym c.kind_of.ensures ∙ c.in-Ends.is in
    subst (λ (x : Kind). Unruled (seen c.args.self.now) c.args.address c.args.at.body c.args.at.depth c.args.i x) (sym k) (λ j v q. both_ways c.closes.result c.if-closes.false (c.closes.ensures.1 (j, v, q)))

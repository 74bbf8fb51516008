use Rattle.std.proofs.Common.{rules, tests}
use Rattle.std.proofs.lemmas.Int.{ints}
use Rattle.plan.specs.Programs.{seen}
use Rattle.plan.proofs.Listing.{closes_is, told}
use Rattle.plan.proofs.coded.Coded.closes.Goals as goal

pub returns : goal.returns
returns c =
    closes_is (seen c.args.self.now) c.args.address c.args.at.body c.args.at.depth c.is_some_and.result c.ret_at-count.result c.unit_of.result c.ret_at-count.ensures c.unit_of.ensures
    (told _ c.unit_of.result c.is_some_and.ensures (λ v q. search (rules, tests, ints)))

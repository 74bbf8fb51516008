use Rattle.std.proofs.Common.{arith, rules, tests, w32}
use Rattle.std.proofs.lemmas.Int.{ints, to_z-of_z}
use Rattle.plan.proofs.Listing.{frame_at, told}
use Rattle.plan.proofs.coded.Coded.in_frame.Goals as goal

pub returns : goal.returns
returns c =
    frame_at c.args.self.now.units.now c.args.at.depth c.args.offset c.is_some_and.result (omega (arith, ints)) c.args.at.body c.unit_of.result c.unit_of.ensures
    (told _ c.unit_of.result c.is_some_and.ensures (λ v q. let n = to_z-of_z w32 c.args.offset c.ranges.offset in (λ t. search (rules, tests, ints), λ t. search (rules, tests, ints))))

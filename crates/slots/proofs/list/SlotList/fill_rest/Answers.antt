use Rattle.std.proofs.Common.{arith, rules}
use Rattle.std.proofs.lemmas.Grind.{common_steps}
use Rattle.slots.proofs.Ends.{all_filled}
use Rattle.slots.proofs.list.SlotList.fill_rest.Goals as goal

pub returns-clause-slots : goal.returns-clause-slots
returns-clause-slots g c =
    let e = all_filled _ c.args.value _ (λ x q k. search rules) c.fill_with.new.self _ c.fill_with.ensures.ran.1 in
    grind (arith, common_steps, e, c.fill_with.ensures.len)

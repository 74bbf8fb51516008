use Rattle.std.proofs.Common.{ap, replicate, rules, ◌∙◌, ℕ}
use Rattle.slots.proofs.Ends.{all_filled}
use Rattle.slots.proofs.list.SlotList.clear.Goals as goal

pub returns-clause-slots : goal.returns-clause-slots
returns-clause-slots g c =
    all_filled _ c.args.value _ (λ x q k. search rules) c.fill_with.new.self _ c.fill_with.ensures.ran.1
    ∙ ap (λ (n : ℕ). replicate n c.args.value) c.fill_with.ensures.len

use Rattle.std.proofs.Common.{◌≡◌, false, map, ap, ◌∙◌, rules}
use Rattle.program.specs.Names.{smalls}
use Rattle.slots.specs.Items.{items}
use Rattle.assembler.specs.Marks.{has}
use Rattle.assembler.proofs.Adding.{pushed}
use Rattle.assembler.proofs.named.add.Goals as goal

pub returns : goal.returns
returns g c =
    let l = c.args.list.now in
    let e : false ≡ has (smalls c.args.word.now) (map g.T.Named.named (items l)) = c.if-is_given.ensures ∙ ap (λ xs. has (smalls c.args.word.now) (map g.T.Named.named xs)) c.items.ensures in
    let p = pushed c.push.result c.map_err.result _ l c.push.new.self (map g.T.Named.named (items l)) (smalls c.args.word.now) c.args.item e c.map_err.ensures.cases (λ y d k. search rules) c.push.ensures.items in
    record { added = p.0; kept = record { room = p.1; lender = c.push.ensures.lender } }

use Rattle.std.proofs.Common.{rules}
use Rattle.program.specs.Names.{smalls}
use Rattle.slots.specs.Items.{items, room}
use Rattle.assembler.specs.Marks.{Entry, entry_of, entry}
use Rattle.assembler.proofs.Adding.{added_as}
use Rattle.assembler.proofs.survey.add_unit.Goals as goal

pub returns-clause-added : goal.returns-clause-added
returns-clause-added c =
    let l = c.args.units.now in
    let w = smalls c.args.word.now in
    added_as entry_of (λ (m : Entry). m.name) (room l) (items l) w _ (entry w 0 c.args.arguments c.args.results) (search rules) c.add.result (items c.add.new.list) c.add.ensures.added

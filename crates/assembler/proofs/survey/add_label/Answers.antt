use Rattle.std.proofs.Common.{rules}
use Rattle.program.specs.Names.{smalls}
use Rattle.slots.specs.Items.{items, room}
use Rattle.assembler.specs.Marks.{Mark, mark_of, mark}
use Rattle.assembler.specs.Survey.{extent}
use Rattle.assembler.proofs.Adding.{added_as}
use Rattle.assembler.proofs.survey.add_label.Goals as goal

pub returns-clause-added : goal.returns-clause-added
returns-clause-added c =
    let l = c.args.labels.now in
    let w = smalls c.args.word.now in
    added_as mark_of (λ (m : Mark). m.name) (room l) (items l) w _ (mark w c.args.tally.section (extent c.args.tally c.args.tally.section)) (search rules) c.add.result (items c.add.new.list) c.add.ensures.added

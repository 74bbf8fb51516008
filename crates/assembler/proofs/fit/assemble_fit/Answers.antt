use Rattle.std.proofs.Common.{min, length, replicate, pos, ap, ◌∙◌, rules}
use Rattle.slots.specs.Items.{items, room, slots_of}
use Rattle.assembler.specs.Assembly.{first, forms}
use Rattle.assembler.specs.Handed.{handed}
use Rattle.assembler.specs.Marks.{mark_of, entry_of, no_mark, no_entry}
use Rattle.assembler.specs.Progress.{entries, marks}
use Rattle.assembler.proofs.Leaving.{built_outcome, cleared, cleared_as, filled, filled_as, no_entry_lem, no_mark_lem, refused_outcome}
use Rattle.assembler.proofs.fit.assemble_fit.Goals as goal

pub returns-in-Ok : goal.returns-in-Ok
returns-in-Ok c =
    let n = length c.args.memory.now in
    let site = forms c.args.texts.site.now in
    let library = forms c.args.texts.library.now in
    let w = c.build.new.written in
    let l = c.build.new.labels in
    let u = c.build.new.units in
    built_outcome _ _ c.in-Ok.program (items w) (marks l) (entries u) (handed c.args.memory.now c.args.labels.now c.args.units.now) _ c.in-Ok.ensures.builds
    (ap (λ k. first n site library k (room c.new-unit_list.result)) c.new-label_list.ensures.room ∙ ap (λ k. first n site library (min (length c.args.labels.now) 512) k) c.new-unit_list.ensures.room)
    (filled w (pos 0) _ (slots_of c.fill_rest.new.self) n (search rules) (search rules) c.fill_rest.ensures.slots)
    (filled_as l c.empty.result _ (slots_of c.fill_rest-in-Ok.new.self) (length c.args.labels.now) (search rules) (search rules) mark_of no_mark (no_mark_lem c.empty.result c.empty.ensures) c.fill_rest-in-Ok.ensures.slots)
    (filled_as u c.empty-in-Ok.result _ (slots_of c.fill_rest-in-Ok-2.new.self) (length c.args.units.now) (search rules) (search rules) entry_of no_entry (no_entry_lem c.empty-in-Ok.result c.empty-in-Ok.ensures) c.fill_rest-in-Ok-2.ensures.slots)

pub returns-in-Err : goal.returns-in-Err
returns-in-Err c =
    let n = length c.args.memory.now in
    let site = forms c.args.texts.site.now in
    let library = forms c.args.texts.library.now in
    let w = c.build.new.written in
    let l = c.build.new.labels in
    let u = c.build.new.units in
    let z = c.zero_all.ensures in
    refused_outcome _ _ c.in-Err.fault (handed c.args.memory.now c.args.labels.now c.args.units.now) _ c.in-Err.ensures.builds
    (ap (λ k. first n site library k (room c.new-unit_list.result)) c.new-label_list.ensures.room ∙ ap (λ k. first n site library (min (length c.args.labels.now) 512) k) c.new-unit_list.ensures.room)
    (cleared w z.cells.value _ (slots_of c.zero_all.new.written) n (search rules) (search rules) z.cells.slots ∙ ap (replicate n) z.cells.empty)
    (cleared_as l z.labels.value _ (slots_of c.zero_all.new.labels) (length c.args.labels.now) (search rules) (search rules) mark_of no_mark (no_mark_lem z.labels.value z.labels.empty) z.labels.slots)
    (cleared_as u z.units.value _ (slots_of c.zero_all.new.units) (length c.args.units.now) (search rules) (search rules) entry_of no_entry (no_entry_lem z.units.value z.units.empty) z.units.slots)

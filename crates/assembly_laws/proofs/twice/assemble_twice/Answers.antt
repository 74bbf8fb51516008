use Rattle.assembler.specs.Handed.{handed}
use Rattle.assembly_laws.proofs.Repeating.{repeats}
use Rattle.assembly_laws.proofs.twice.assemble_twice.Goals as goal

pub returns-clause-repeats : goal.returns-clause-repeats
returns-clause-repeats c =
    let before = handed c.args.memory.now c.args.labels.now c.args.units.now in
    let other = handed c.args.other_memory.now c.args.other_labels.now c.args.other_units.now in
    repeats c.args.site.now c.args.library.now c.assemble_both.result.0 c.assemble_both.result.1 before _ other _ c.assemble_both.ensures.first c.assemble_both.ensures.second

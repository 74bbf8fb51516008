use Rattle.std.proofs.Common.{length}
use Rattle.assembler.specs.Assembly.{assembled}
use Rattle.assembler.specs.Handed.{handed}
use Rattle.assembly_laws.proofs.Sounding.{good_assembled, upheld}
use Rattle.assembly_laws.proofs.lawful.assemble_lawfully.Goals as goal

pub returns-clause-upheld : goal.returns-clause-upheld
returns-clause-upheld c =
    let site = c.args.site.now in
    let library = c.args.library.now in
    let before = handed c.args.memory.now c.args.labels.now c.args.units.now in
    let after = handed c.assemble_once.new.memory c.assemble_once.new.labels c.assemble_once.new.units in
    let x = assembled site library (length before.memory) (length before.labels) (length before.units) in
    upheld site library c.assemble_once.result x before after (good_assembled site library (length before.memory) (length before.labels) (length before.units)) c.assemble_once.ensures

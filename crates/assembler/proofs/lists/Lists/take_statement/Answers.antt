use Rattle.std.proofs.Common.{not, length, sym, ap, ◌∙◌}
use Rattle.program.specs.declared.fault.AssemblyCause.TheVariants.{WrongSection}
use Rattle.slots.specs.Items.{room}
use Rattle.syntax.specs.Cells.{cells}
use Rattle.syntax.specs.Stated.{label_of, stated}
use Rattle.assembler.specs.Progress.{survey_of}
use Rattle.assembler.specs.Survey.{demand, is_code, putting, taken}
use Rattle.assembler.proofs.Taking.{put_taken}
use Rattle.assembler.proofs.lists.Lists.take_statement.Goals as goal

pub returns-in-Instruction : goal.returns-in-Instruction
returns-in-Instruction c =
    let a = c.args.self.now in
    let t = c.args.tally in
    let w = label_of c.in-Instruction.label in
    put_taken a _ t c.put_allowed.result (stated c.args.statement) w (is_code t.section) c.is_code-code.result c.cells_of-n.result
    (ap (λ s. taken (room a.labels.now) (room a.units.now) (survey_of t a) (stated s)) c.in-Instruction.is ∙ sym (ap (λ s. demand (is_code t.section) WrongSection (putting (room a.labels.now) (room a.units.now) (survey_of t a) w (length (cells (stated s))))) c.in-Instruction.is))
    c.is_code-code.ensures c.cells_of-n.ensures c.put_allowed.ensures

pub returns-in-Words : goal.returns-in-Words
returns-in-Words c =
    let a = c.args.self.now in
    let t = c.args.tally in
    let w = label_of c.in-Words.label in
    put_taken a _ t c.put_allowed-in-Words.result (stated c.args.statement) w (not (is_code t.section)) (not c.is_code-code.result) c.cells_of-n.result
    (ap (λ s. taken (room a.labels.now) (room a.units.now) (survey_of t a) (stated s)) c.in-Words.is ∙ sym (ap (λ s. demand (not (is_code t.section)) WrongSection (putting (room a.labels.now) (room a.units.now) (survey_of t a) w (length (cells (stated s))))) c.in-Words.is))
    (ap not c.is_code-code.ensures) c.cells_of-n.ensures c.put_allowed-in-Words.ensures

pub returns-in-Copies : goal.returns-in-Copies
returns-in-Copies c =
    let a = c.args.self.now in
    let t = c.args.tally in
    let w = label_of c.in-Copies.label in
    put_taken a _ t c.put_allowed-in-Copies.result (stated c.args.statement) w (not (is_code t.section)) (not c.is_code-code.result) c.cells_of-n.result
    (ap (λ s. taken (room a.labels.now) (room a.units.now) (survey_of t a) (stated s)) c.in-Copies.is ∙ sym (ap (λ s. demand (not (is_code t.section)) WrongSection (putting (room a.labels.now) (room a.units.now) (survey_of t a) w (length (cells (stated s))))) c.in-Copies.is))
    (ap not c.is_code-code.ensures) c.cells_of-n.ensures c.put_allowed-in-Copies.ensures

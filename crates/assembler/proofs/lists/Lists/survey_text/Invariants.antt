use Rattle.std.proofs.Common.{◌≡◌, ℕ, ◌+◌, ◌-◌, ◌*◌, ◌≤◌, map, length}
use Rattle.std.specs.Iterator.Adapters.{zip_first, zip_second}
use Rattle.slots.specs.Items.{room}
use Rattle.syntax.specs.Forms.{form}
use Rattle.syntax.specs.Left.{lines_left}
use Rattle.assembler.specs.Assembly.{forms}
use Rattle.assembler.specs.Progress.{KeptBoth, Small, survey_of}
use Rattle.assembler.specs.Survey.{survey}
use Rattle.assembler.proofs.lists.Lists.survey_text.Given as goal

abbrev pub invariant-loop-line : goal.invariant-loop-line
invariant-loop-line l =
    (goal.iterator-loop-line).can_next l.line-iterator
    × (goal.iterator-loop-line).is_finite l.line-iterator
    × (survey (room l.self.labels.now) (room l.self.units.now) (zip_second l.line-iterator).start (survey_of l.tally l.self) (map form (lines_left (zip_first l.line-iterator))) ≡ survey (room l.initial.self.labels.now) (room l.initial.self.units.now) 1 (survey_of l.initial.tally l.initial.self) (forms l.text))
    × KeptBoth l.initial.self l.self
    × ((n : ℕ) → Small l.initial.tally n → Small l.tally (n + 1000 * ((zip_second l.line-iterator).start - 1)))
    × (1 ≤ (zip_second l.line-iterator).start)
    × ((zip_second l.line-iterator).start + length (lines_left (zip_first l.line-iterator)) ≤ 65537)

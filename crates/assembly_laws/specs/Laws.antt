-- What holds of every program that two texts assemble to.
use Rattle.std.specs.Prelude.{◌≡◌, ℕ, false, List, [], ◌∷◌, map, length, take, drop, ℤ, Some, None, Ok, Err, Option, Result}
use Rattle.program.specs.declared.assembled.Assembled.{Assembled}
use Rattle.program.specs.declared.counts.Counts.{Counts}
use Rattle.program.specs.declared.fault.Fault.{Fault}
use Rattle.program.specs.declared.fault.Text.{Text}
use Rattle.isa.specs.Code.{Divided}
use Rattle.syntax.specs.Cells.{cells}
use Rattle.syntax.specs.Forms.{Form, foul, unfit, empty, section, unit, instruction, words, copies, form}
use Rattle.syntax.specs.Lines.{lines, line_at}
use Rattle.assembler.specs.Cells.{cell}
use Rattle.assembler.specs.Handed.{Handed}
use Rattle.assembler.specs.Marks.{Mark, mark_of, has}
use Rattle.assembler.specs.Sources.{text_of}

-- each element has a property
abbrev pub Each : {X : Type 0} → (X → Type 0) → List X → Type 0
Each P [] = Unit {0}
Each P (x ∷ xs) = P x × Each P xs

-- no word stands twice
abbrev pub Distinct : List (List ℕ) → Type 0
Distinct [] = Unit {0}
Distinct (w ∷ ws) = (has w ws ≡ false) × Distinct ws

-- the label that a line gives
abbrev pub label_in : Form → Option (List ℕ)
label_in foul = None
label_in unfit = None
label_in empty = None
label_in (section s) = None
label_in (unit w m r) = None
label_in (instruction l op is) = l
label_in (words l ts) = l
label_in (copies l k z) = l

-- a line of either text gives the label, and the cells of that line stand in memory from the label's address on
pub record Stands (site library : List ℕ) (memory : List ℤ) (labels : List Mark) (l : Mark) : Type 0 where
  pub text : Text
  pub number : ℕ
  pub line : List ℕ
  pub there : line_at number (lines (text_of text site library)) ≡ Some line
  pub gives : label_in (form line) ≡ Some l.name
  pub begins : take (length (cells (form line))) (drop l.address memory) ≡ map (cell labels) (cells (form line))

-- a program's counts, its memory and its labels: the code divides into instructions from 0, each label's address is
-- where the cells of its line begin, and no two labels have one name
pub record Sound (site library : List ℕ) (c : Counts) (memory : List ℤ) (labels : List Mark) : Type 0 where
  pub divides : Divided (take c.code memory)
  pub stand : Each (Stands site library memory labels) labels
  pub distinct : Distinct (map (λ (l : Mark). l.name) labels)

-- an answer of assemble, with what it leaves in memory and slots: a program is sound
abbrev pub Upheld : List ℕ → List ℕ → Result Assembled Fault → Handed → Type 0
Upheld site library (Ok a) after = Sound site library a.counts after.memory (take a.counts.labels (map mark_of after.labels))
Upheld site library (Err f) after = Unit {0}

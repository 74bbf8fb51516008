-- The line that a fault names.
use Rattle.std.specs.Prelude.{ℕ, List, None, Option}
use Rattle.program.specs.declared.fault.Place.{Place}
use Rattle.program.specs.declared.fault.Place.TheVariants.{Nowhere, Line, Address, Counter}
use Rattle.program.specs.declared.fault.Text.{Text}
use Rattle.program.specs.declared.fault.Text.TheVariants.{Site, Library}
use Rattle.syntax.specs.Lines.{lines, line_at}

-- one of the two texts
abbrev pub text_of : Text → List ℕ → List ℕ → List ℕ
text_of Site site library = site
text_of Library site library = library

-- the line at a place of either text; a place that is no line of a text has none
abbrev pub line_of : Place → List ℕ → List ℕ → Option (List ℕ)
line_of Nowhere site library = None
line_of (Line t n) site library = line_at n (lines (text_of t site library))
line_of (Address a) site library = None
line_of (Counter a) site library = None

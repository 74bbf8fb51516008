-- A line that is taken.
use Rattle.std.proofs.Common.{◌≡◌, ℕ, Bool, List, length, Option, Result, sym, ap, ◌∙◌}
use denote.Enum.Bare.{sameb}
use Rattle.program.specs.contracts.section.Section.{the_type}
use Rattle.program.specs.declared.fault.AssemblyCause.{AssemblyCause}
use Rattle.program.specs.declared.fault.AssemblyCause.TheVariants.{WrongSection}
use Rattle.program.specs.declared.section.Section.{Section}
use Rattle.program.specs.declared.section.Section.TheVariants.{Code, Data, Heap}
use Rattle.slots.specs.Items.{room}
use Rattle.syntax.specs.Forms.{Form}
use Rattle.syntax.specs.Cells.{cells}
use Rattle.assembler.specs.declared.lists.Lists.{Lists}
use Rattle.assembler.specs.declared.tally.Tally.{Tally}
use Rattle.assembler.specs.Cells.{same_section}
use Rattle.assembler.specs.Progress.{Stepped, survey_of}
use Rattle.assembler.specs.Survey.{demand, putting, taken}

-- what `==` says of two sections
pub same_section_eq : (p q : Section) (b : Bool) → b ≡ sameb the_type p q → b ≡ same_section q p
same_section_eq Code Code b e = e
same_section_eq Code Data b e = e
same_section_eq Code Heap b e = e
same_section_eq Data Code b e = e
same_section_eq Data Data b e = e
same_section_eq Data Heap b e = e
same_section_eq Heap Code b e = e
same_section_eq Heap Data b e = e
same_section_eq Heap Heap b e = e

-- cells in the section that they belong to
pub put_taken : (a b : Lists) (t : Tally) (r : Result Tally AssemblyCause) (f : Form) (w : Option (List ℕ)) (want allowed : Bool) (n : ℕ) → taken (room a.labels.now) (room a.units.now) (survey_of t a) f ≡ demand want WrongSection (putting (room a.labels.now) (room a.units.now) (survey_of t a) w (length (cells f))) → allowed ≡ want → n ≡ length (cells f)
    → Stepped a b t r (demand allowed WrongSection (putting (room a.labels.now) (room a.units.now) (survey_of t a) w n)) → Stepped a b t r (taken (room a.labels.now) (room a.units.now) (survey_of t a) f)
put_taken a b t r f w want allowed n h e g s =
    let put = putting (room a.labels.now) (room a.units.now) (survey_of t a) w in
    record { step = s.step ∙ ap (λ x. demand x WrongSection (put n)) e ∙ ap (λ m. demand want WrongSection (put m)) g ∙ sym h; kept = s.kept; grows = s.grows }

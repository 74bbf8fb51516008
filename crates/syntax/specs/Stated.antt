-- What the statements of the code mean.
use Rattle.std.specs.Prelude.{ℕ, List, [], ◌∷◌, Some, None, Ok, Err, Option, Result}
use Rattle.std.specs.Borrow.{Bor}
use Rattle.program.specs.Names.{smalls}
use Rattle.decimal.specs.Numbers.{numeral}
use Rattle.syntax.specs.Tokens.{tokens}
use Rattle.syntax.specs.Forms as F
use Rattle.syntax.specs.declared.statements.Argument.{Argument}
use Rattle.syntax.specs.declared.statements.Argument.TheVariants.{Number, Label}
use Rattle.syntax.specs.declared.statements.LineFault.{LineFault}
use Rattle.syntax.specs.declared.statements.LineFault.TheVariants.{Bytes, Form}
use Rattle.syntax.specs.declared.statements.Statement.{Statement}
use Rattle.syntax.specs.declared.statements.Statement.TheVariants.{Empty, Enter, Unit, Instruction, Words, Copies}

-- a label, if there is one
abbrev pub label_of : Option (Bor (List ℕ)) → Option (List ℕ)
label_of None = None
label_of (Some w) = Some (smalls w.now)

-- the item of an argument
abbrev pub item_of : Argument → F.Item
item_of (Number ds) = F.value (numeral ds.now)
item_of (Label w) = F.at (smalls w.now)

-- an argument as no item or one
abbrev pub argued : Option Argument → List F.Item
argued None = []
argued (Some a) = item_of a ∷ []

-- the form of a statement
abbrev pub stated : Statement → F.Form
stated Empty = F.empty
stated (Enter s) = F.section s
stated (Unit w m r) = F.unit (smalls w.now) (numeral m.now) (numeral r.now)
stated (Instruction l op a) = F.instruction (label_of l) op (argued a)
stated (Words l rest) = F.words (label_of l) (tokens rest.now)
stated (Copies l k n) = F.copies (label_of l) (numeral k.now) (numeral n.now)

-- no statement: the line fits no form
abbrev pub formed : Option Statement → F.Form
formed None = F.unfit
formed (Some s) = stated s

-- a statement, or what is wrong with the line
abbrev pub line_form : Result Statement LineFault → F.Form
line_form (Ok s) = stated s
line_form (Err Bytes) = F.foul
line_form (Err Form) = F.unfit

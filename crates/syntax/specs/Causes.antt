-- The cause with which an assembly refuses a line.
use Rattle.program.specs.declared.fault.AssemblyCause.{AssemblyCause}
use Rattle.program.specs.declared.fault.AssemblyCause.TheVariants.{LineBytes, NoForm}
use Rattle.syntax.specs.declared.statements.LineFault.{LineFault}
use Rattle.syntax.specs.declared.statements.LineFault.TheVariants.{Bytes, Form}

abbrev pub line_cause : LineFault → AssemblyCause
line_cause Bytes = LineBytes
line_cause Form = NoForm

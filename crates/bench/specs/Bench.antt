-- What the bench reports of its input.
use Rattle.std.specs.Prelude.{ℕ, List, []}
use Rattle.program.specs.Faults.{refused, assembly_number}
use Rattle.port.specs.declared.reading.Reading.{Reading}
use Rattle.assembler.specs.Assembly.{Assembly, program, unread, refusal, assembled}
use Rattle.bench.specs.Input.{site_of, readings_of}
use Rattle.bench.specs.Output.{refused_report}
use Rattle.bench.specs.Trial.{trial, offered}

-- a program is run with the readings; a text that gives none is refused
abbrev pub report_of : Assembly → List Reading → List ℕ
report_of (program p) xs = trial p.counts p.cells (offered xs)
report_of (unread c at) xs = refused_report (refused (assembly_number c) at)
report_of (refusal c at) xs = refused_report (refused (assembly_number c) at)

-- the site text is assembled into 1,024 cells, with no library text, 512 slots for labels and 64 for units
abbrev pub bench_report : List ℕ → List ℕ
bench_report input = report_of (assembled (site_of input) [] 1024 512 64) (readings_of input)

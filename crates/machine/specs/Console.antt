-- What the machine sees of a port.
use Rattle.std.specs.Prelude.{ℕ, ◌-◌, List, ◌++◌, length}
use Rattle.port.specs.declared.reading.Reading.{Reading}
use Rattle.port.specs.Meaning.{Meaning}

-- the readings that wait, the bytes shown, and the space for more
pub record Console : Type 0 where
  pub waiting : List Reading
  pub shown : List ℕ
  pub space : ℕ

-- a step does not look at the openings
abbrev pub console : Meaning → Console
console p = record { waiting = p.waiting; shown = p.shown; space = p.space }

-- the bytes join the shown ones
abbrev pub showing : List ℕ → Console → Console
showing bs w = record { waiting = w.waiting; shown = w.shown ++ bs; space = w.space - length bs }

-- What a call of assemble leaves in the memory and the slots that it was handed.
use Rattle.std.specs.Prelude.{◌≡◌, ℕ, ◌-◌, List, ◌++◌, map, length, replicate, ℤ, pos, Ok, Err, Result}
use Rattle.program.specs.Faults as F
use Rattle.program.specs.declared.assembled.Assembled.{Assembled}
use Rattle.program.specs.declared.fault.Fault.{Fault}
use Rattle.program.specs.declared.label.Label.{Label}
use Rattle.program.specs.declared.unit.Unit.{Unit as UnitRecord}
use Rattle.assembler.specs.Marks.{Mark, Entry, mark_of, entry_of, no_mark, no_entry}
use Rattle.assembler.specs.Assembly.{Assembly, program, unread, refusal, assembled}

-- memory, label slots and unit slots
pub record Handed : Type 0 where
  pub memory : List ℤ
  pub labels : List Label
  pub units : List UnitRecord

abbrev pub handed : List ℤ → List Label → List UnitRecord → Handed
handed m ls us = record { memory = m; labels = ls; units = us }

-- the elements, then zeros in the slots that are left
abbrev pub padded : {X : Type 0} → List X → X → ℕ → List X
padded xs zero n = xs ++ replicate (n - length xs) zero

pub record Holds (h : Handed) (cells : List ℤ) (ls : List Mark) (us : List Entry) : Type 0 where
  pub memory : h.memory ≡ cells
  pub labels : map mark_of h.labels ≡ ls
  pub units : map entry_of h.units ≡ us

-- every cell and slot is zero
abbrev pub Zeroed : Handed → Handed → Type 0
Zeroed before after = Holds after (replicate (length before.memory) (pos 0)) (replicate (length before.labels) no_mark) (replicate (length before.units) no_entry)

-- what assemble answers and leaves, by what the texts assemble to: a refusal before anything is read alters nothing,
-- and any other leaves zeros
abbrev pub Outcome : Result Assembled Fault → Assembly → Handed → Handed → Type 0
Outcome (Ok a) (program p) before after =
    (a.counts ≡ p.counts)
    × Holds after p.cells (padded p.labels no_mark (length before.labels)) (padded p.units no_entry (length before.units))
Outcome (Ok a) (unread c at) before after = ⊥
Outcome (Ok a) (refusal c at) before after = ⊥
Outcome (Err f) (program p) before after = ⊥
Outcome (Err f) (unread c at) before after = (F.refusal f ≡ F.refused (F.assembly_number c) at) × (after ≡ before)
Outcome (Err f) (refusal c at) before after = (F.refusal f ≡ F.refused (F.assembly_number c) at) × Zeroed before after

-- a call of assemble with these texts, memory and slots answers and leaves what the texts assemble to
abbrev pub Assembles : List ℕ → List ℕ → Result Assembled Fault → Handed → Handed → Type 0
Assembles site library r before after = Outcome r (assembled site library (length before.memory) (length before.labels) (length before.units)) before after

-- What the passes of the code come to, by what the texts assemble to.
use Rattle.std.specs.Prelude.{◌≡◌, ℕ, ◌-◌, ◌≤◌, List, [], ◌++◌, length, replicate, ℤ, pos, Ok, Err, Result}
use Rattle.program.specs.Faults as F
use Rattle.program.specs.declared.counts.Counts.{Counts}
use Rattle.program.specs.declared.assembled.Assembled.{Assembled}
use Rattle.program.specs.declared.fault.Fault.{Fault}
use Rattle.program.specs.declared.label.Label.{Label}
use Rattle.program.specs.declared.section.Section.{Section}
use Rattle.program.specs.declared.unit.Unit.{Unit as UnitRecord}
use Rattle.slots.specs.Items.{items, room}
use Rattle.slots.specs.declared.list.SlotList.{SlotList}
use Rattle.syntax.specs.Forms.{Form}
use Rattle.assembler.specs.declared.tally.Tally.{Tally}
use Rattle.assembler.specs.Assembly.{Assembly, program, unread, refusal, first, fitted, linked, made}
use Rattle.assembler.specs.Cells.{both}
use Rattle.assembler.specs.Marks.{Mark, Entry}
use Rattle.assembler.specs.Progress.{Small}
use Rattle.assembler.specs.Survey.{Survey, surveyed, extent}

-- a fault is the refusal that the texts come to
abbrev pub Refuses : Fault → Assembly → Type 0
Refuses f (program p) = ⊥
Refuses f (unread c at) = ⊥
Refuses f (refusal c at) = F.refusal f ≡ F.refused (F.assembly_number c) at

module _ (site library : List Form) (label_room unit_room : ℕ) where
  -- the lines of both texts are taken, and the tally counts their cells; or the first faulty line is refused
  abbrev pub Surveys : Result Tally Fault → List Mark → List Entry → Type 0
  Surveys (Ok t) ls us = ((n : ℕ) → first n site library label_room unit_room ≡ fitted n site library (surveyed t ls us)) × ((q : Section) → extent t q ≡ length (both q site library))
  Surveys (Err f) ls us = (n : ℕ) → Refuses f (first n site library label_room unit_room)

-- every name has a label, or the first line with one that has none is refused
abbrev pub Links : Result (Unit {0}) Fault → List Form → List Form → List Mark → Type 0
Links (Ok u) site library ls = (n : ℕ) (s : Survey) → linked n site library s ls ≡ made n site library s ls
Links (Err f) site library ls = (n : ℕ) (s : Survey) → Refuses f (linked n site library s ls)

-- the program with the cells, labels and units that were written, or the refusal
abbrev pub Builds : ℕ → Result Assembled Fault → Assembly → List ℤ → List Mark → List Entry → Type 0
Builds n (Ok a) (program p) cells ls us = (a.counts ≡ p.counts) × (p.cells ≡ cells ++ replicate (n - length cells) (pos 0)) × (ls ≡ p.labels) × (us ≡ p.units)
Builds n (Ok a) (unread c at) cells ls us = ⊥
Builds n (Ok a) (refusal c at) cells ls us = ⊥
Builds n (Err f) assembly cells ls us = Refuses f assembly

-- no sum of a tally's cells wraps
abbrev pub Tallied : Result Tally Fault → Type 0
Tallied (Ok t) = Small t 200000000
Tallied (Err f) = Unit {0}

-- a program that is sure to have lawful counts
abbrev pub Made : Result Assembled Fault → Counts → Type 0
Made (Ok a) c = a.counts ≡ c
Made (Err f) c = ⊥

-- lists over a memory of n cells and over slots: no cell is written, and labels and units have their bounds
pub record Fresh (n : ℕ) (written : SlotList ℤ) (labels : SlotList Label) (units : SlotList UnitRecord) : Type 0 where
  pub least : 16 ≤ n
  pub most : n ≤ 65536
  pub whole : room written ≡ n
  pub none : items written ≡ []
  pub labelled : room labels ≤ 512
  pub united : room units ≤ 64

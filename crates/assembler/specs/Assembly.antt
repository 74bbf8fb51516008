-- What two texts assemble to.
use Rattle.std.specs.Prelude.{ℕ, ◌+◌, ◌-◌, min, true, false, ◌&&◌, List, ◌++◌, map, length, replicate, ℤ, pos, Some, None, nat_le}
use Rattle.program.specs.declared.counts.Counts.{Counts}
use Rattle.program.specs.declared.fault.AssemblyCause.{AssemblyCause}
use Rattle.program.specs.declared.fault.AssemblyCause.TheVariants.{MemorySize, TextLength, ProgramSize, NoLabel}
use Rattle.program.specs.declared.fault.Place.{Place}
use Rattle.program.specs.declared.fault.Place.TheVariants.{Nowhere, Line}
use Rattle.program.specs.declared.fault.Text.TheVariants.{Site, Library}
use Rattle.syntax.specs.Lines.{lines}
use Rattle.syntax.specs.Forms.{Form, form}
use Rattle.assembler.specs.declared.tally.Tally.{Tally}
use Rattle.assembler.specs.Marks.{Mark, Entry}
use Rattle.assembler.specs.Survey.{Survey, surveyed, opened, fresh, done, fault, survey}
use Rattle.assembler.specs.Cells.{laid, opening, unresolved, cell, all}

-- the forms of a text's lines
abbrev pub forms : List ℕ → List Form
forms bs = map form (lines bs)

-- an assembled program: its counts, its cells up to the last, its labels and units in line order
pub record Program : Type 0 where
  pub counts : Counts
  pub cells : List ℤ
  pub labels : List Mark
  pub units : List Entry

-- a program; or the one refusal: before anything is read (1 and 2), or of what was read (3 to 11)
pub data Assembly : Type 0 where
  program : Program → Assembly
  unread : AssemblyCause → Place → Assembly
  refusal : AssemblyCause → Place → Assembly

-- the cells of all three sections
abbrev pub size : Tally → ℕ
size t = t.code + t.«data» + t.heap

module _ (n : ℕ) (site library : List Form) where
  -- the program that surveyed lines give in a memory of n cells; cells past its own are 0
  abbrev pub made : Survey → List Mark → Assembly
  made s ls =
      program record {
        counts = record { cells = n; code = s.tally.code; «data» = s.tally.«data»; heap = s.tally.heap; labels = length s.labels; units = length s.units };
        cells = map (cell ls) (all site library) ++ replicate (n - size s.tally) (pos 0);
        labels = ls;
        units = map (opening ls) s.units;
      }

  -- a name without a label (11), in line order
  abbrev pub linked : Survey → List Mark → Assembly
  linked s ls =
      elim (unresolved ls 1 site) [
        | Some k ↦ refusal NoLabel (Line Site k)
        | None ↦ elim (unresolved ls 1 library) [ Some k ↦ refusal NoLabel (Line Library k) | None ↦ made s ls ]
      ]

  -- a program that does not fit its memory (10)
  abbrev pub fitted : Survey → Assembly
  fitted s = elim (nat_le (size s.tally) n) [ true ↦ linked s (map (laid s.tally) s.labels) | false ↦ refusal ProgramSize (Line Site 0) ]

  module _ (label_room unit_room : ℕ) where
    -- the library's lines go on where the site's ended
    abbrev pub second : Survey → Assembly
    second s =
        elim (survey label_room unit_room 1 (surveyed (opened s.tally) s.labels s.units) library) [
          | done t ↦ fitted t
          | fault k c ↦ refusal c (Line Library k)
        ]

    abbrev pub first : Assembly
    first = elim (survey label_room unit_room 1 fresh site) [ done s ↦ second s | fault k c ↦ refusal c (Line Site k) ]

-- the site text and the library text, in a memory of n cells, with so many slots for labels and units: the
-- memory's size (1), the texts' lengths (2), then the lines
abbrev pub assembled : List ℕ → List ℕ → ℕ → ℕ → ℕ → Assembly
assembled site library n label_slots unit_slots =
    elim (nat_le 16 n && nat_le n 65536) [
      | false ↦ unread MemorySize Nowhere
      | true ↦
          elim (nat_le (length site) 65536) [
            | false ↦ unread TextLength (Line Site 0)
            | true ↦
                elim (nat_le (length library) 65536) [
                  | false ↦ unread TextLength (Line Library 0)
                  | true ↦ first n (forms site) (forms library) (min label_slots 512) (min unit_slots 64)
                ]
          ]
    ]

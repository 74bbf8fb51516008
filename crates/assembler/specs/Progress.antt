-- What the code's tally and lists stand for.
use Rattle.std.specs.Prelude.{◌≡◌, ℕ, ◌+◌, ◌≤◌, List, ◌++◌, map, length, take, replicate, ℤ, Ok, Err, Result}
use Rattle.program.specs.declared.fault.AssemblyCause.{AssemblyCause}
use Rattle.program.specs.declared.label.Label.{Label}
use Rattle.program.specs.declared.unit.Unit.{Unit as UnitRecord}
use Rattle.slots.specs.Items.{items, room, slots_of}
use Rattle.slots.specs.declared.list.SlotList.{SlotList}
use Rattle.assembler.specs.declared.lists.Lists.{Lists}
use Rattle.assembler.specs.declared.tally.Tally.{Tally}
use Rattle.assembler.specs.declared.tally.LineCause.{LineCause}
use Rattle.assembler.specs.Marks.{Mark, Entry, mark_of, entry_of}
use Rattle.assembler.specs.Survey.{Survey, surveyed, Step, go, stop, Surveyed, done, fault}

-- the labels and the units of lists over slots
abbrev pub marks : SlotList Label → List Mark
marks l = map mark_of (items l)

abbrev pub entries : SlotList UnitRecord → List Entry
entries l = map entry_of (items l)

-- the same slots, with the same room
pub record Kept {T : Type 0} (before after : SlotList T) : Type 0 where
  pub room : room after ≡ room before
  pub lender : after.slots.ghost_name ≡ before.slots.ghost_name

-- the same lists of labels and of units, over the same slots
pub record KeptBoth (before after : Lists) : Type 0 where
  pub labels : Kept before.labels.now after.labels.now
  pub units : Kept before.units.now after.units.now
  pub labels_at : after.labels.ghost_name ≡ before.labels.ghost_name
  pub units_at : after.units.ghost_name ≡ before.units.ghost_name

-- the same slots, each with one value, which is empty
pub record Cleared {T : Type 0} (Empty : T → Type 0) (before after : SlotList T) : Type 0 where
  pub value : T
  pub empty : Empty value
  pub slots : slots_of after ≡ replicate (length (slots_of before)) value
  pub lender : after.slots.ghost_name ≡ before.slots.ghost_name

-- how far the lines have come, with the labels and the units so far
abbrev pub survey_of : Tally → Lists → Survey
survey_of t l = surveyed t (marks l.labels.now) (entries l.units.now)

-- what a line came to
abbrev pub stepped : Result Tally AssemblyCause → Lists → Step
stepped (Ok t) l = go (survey_of t l)
stepped (Err c) l = stop c

-- what the lines of a text came to
abbrev pub surveyed_to : Result Tally LineCause → Lists → Surveyed
surveyed_to (Ok t) l = done (survey_of t l)
surveyed_to (Err f) l = fault f.line f.cause

-- no section has more cells
abbrev pub Small : Tally → ℕ → Type 0
Small t n = (t.code ≤ n) × (t.«data» ≤ n) × (t.heap ≤ n)

-- at most a thousand cells more
abbrev pub Grows : Tally → Result Tally AssemblyCause → Type 0
Grows t (Ok u) = (n : ℕ) → Small t n → Small u (n + 1000)
Grows t (Err c) = Unit {0}

-- a line, or a part of one, is taken or refused as it should be, in the same slots
pub record Stepped (before after : Lists) (t : Tally) (r : Result Tally AssemblyCause) (wanted : Step) : Type 0 where
  pub step : stepped r after ≡ wanted
  pub kept : KeptBoth before after
  pub grows : Grows t r

-- at most a thousand cells more for each byte of a text
abbrev pub Bounded : Tally → Result Tally LineCause → Type 0
Bounded s (Ok t) = (n : ℕ) → Small s n → Small t (n + 65536000)
Bounded s (Err f) = Unit {0}

-- the cells of a list, and more, as far as there is room
abbrev pub clipped : SlotList ℤ → List ℤ → List ℤ
clipped l xs = take (room l) (items l ++ xs)

-- cells that are put at the end of a list
pub record Puts (before after : SlotList ℤ) (xs : List ℤ) : Type 0 where
  pub cells : items after ≡ clipped before xs
  pub kept : Kept before after

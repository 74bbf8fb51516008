-- Assembling the same texts twice.
use Rattle.std.specs.Prelude.{◌≡◌, ℕ, ◌≤◌, List, map, length, Ok, Err, Result}
use Rattle.program.specs.Faults.{Refusal, refusal}
use Rattle.program.specs.declared.assembled.Assembled.{Assembled}
use Rattle.program.specs.declared.counts.Counts.{Counts}
use Rattle.program.specs.declared.fault.Fault.{Fault}
use Rattle.assembler.specs.Handed.{Handed}
use Rattle.assembler.specs.Marks.{mark_of, entry_of}

-- what an answer says: a program's counts, or the number and place of a refusal
abbrev pub said : Result Assembled Fault → Result Counts Refusal
said (Ok a) = Ok a.counts
said (Err f) = Err (refusal f)

-- memories of one length, and slots of one number
pub record Alike (a b : Handed) : Type 0 where
  pub memory : length a.memory ≡ length b.memory
  pub labels : length a.labels ≡ length b.labels
  pub units : length a.units ≡ length b.units

-- the same cells, labels and units
pub record Same (a b : Handed) : Type 0 where
  pub memory : a.memory ≡ b.memory
  pub labels : map mark_of a.labels ≡ map mark_of b.labels
  pub units : map entry_of a.units ≡ map entry_of b.units

-- a memory and texts whose sizes are not refused, so that the texts are read
pub record Readable (site library : List ℕ) (h : Handed) : Type 0 where
  pub least : 16 ≤ length h.memory
  pub most : length h.memory ≤ 65536
  pub sited : length site ≤ 65536
  pub shelved : length library ≤ 65536

-- two calls with the same texts, for memories and slots that are alike: the answers are equal; and where the texts
-- are read, memory and slots are equal too, so that nothing of what they held before is left
abbrev pub Repeats : List ℕ → List ℕ → Result Assembled Fault → Result Assembled Fault → Handed → Handed → Handed → Handed → Type 0
Repeats site library r q before after before' after' = Alike before before' → (said r ≡ said q) × (Readable site library before → Same after after')

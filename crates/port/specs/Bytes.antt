-- Bytes written one after another into a memory.
use Rattle.std.specs.Prelude.{◌≡◌, ℕ, ◌+◌, ◌<◌, ◌≤◌, List, length, Ok, Err, Result, slice_set}
use Rattle.program.specs.declared.fault.Fault.{Fault}
use Rattle.program.specs.declared.fault.Place.TheVariants.{Nowhere}
use Rattle.program.specs.Faults.{refusal, refused}

-- a byte put after the written ones; with no space left it is refused, and nothing changes
abbrev pub Put : {U : Type 0} → ℕ → Result U Fault → List ℕ → ℕ → List ℕ → ℕ → Type 0
Put b (Ok u) bytes written bytes' written' = (written < length bytes) × (bytes' ≡ slice_set bytes written b) × (written' ≡ written + 1)
Put b (Err f) bytes written bytes' written' = (length bytes ≤ written) × (refusal f ≡ refused 35 Nowhere) × (bytes' ≡ bytes) × (written' ≡ written)

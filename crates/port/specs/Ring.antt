-- Readings that wait in a ring of places.
use Rattle.std.specs.Prelude.{◌≡◌, ℕ, zero, suc, ◌+◌, ◌-◌, ◌<◌, cond, List, [], ◌∷◌, pos, Option, Some, None, Result, Ok, Err, nat_lt, slice_index_or}
use Rattle.program.specs.declared.fault.Fault.{Fault}
use Rattle.program.specs.declared.fault.Place.TheVariants.{Nowhere}
use Rattle.program.specs.Faults.{refusal, refused}
use Rattle.port.specs.declared.reading.Reading.{Reading}
use Rattle.port.specs.declared.ring.Ring.{Ring}

-- place k of n places: past the last one the ring begins again
abbrev pub wrapped : ℕ → ℕ → ℕ
wrapped n k = cond (nat_lt k n) k (k - n)

-- the place after those in use is in use too; with no free place that is refused, and nothing changes
abbrev pub Used : Ring → Result ℕ Fault → Ring → Type 0
Used r (Ok k) r' = (k ≡ wrapped r.places (r.first + r.count)) × (r.count < r.places) × (r'.places ≡ r.places) × (r'.first ≡ r.first) × (r'.count ≡ r.count + 1)
Used r (Err f) r' = (r.count ≡ r.places) × (refusal f ≡ refused 34 Nowhere) × (r'.places ≡ r.places) × (r'.first ≡ r.first) × (r'.count ≡ r.count)

-- the first place in use is free; with none in use nothing changes
abbrev pub Freed : Ring → Option ℕ → Ring → Type 0
Freed r (Some k) r' = (k ≡ r.first) × (r'.places ≡ r.places) × (r'.first ≡ wrapped r.places (r.first + 1)) × (r'.count + 1 ≡ r.count)
Freed r None r' = (r.count ≡ 0) × (r'.places ≡ r.places) × (r'.first ≡ r.first) × (r'.count ≡ 0)

-- so many readings, from place k on
abbrev pub queue : (ℕ → Reading) → ℕ → ℕ → ℕ → List Reading
queue at n k zero = []
queue at n k (suc count) = at k ∷ queue at n (wrapped n (k + 1)) count

-- the reading of a place that holds none
abbrev pub nothing : Reading
nothing = record { value = pos 0 }

-- the reading at a place of a list
abbrev pub reading_at : List Reading → ℕ → Reading
reading_at readings k = slice_index_or readings k nothing

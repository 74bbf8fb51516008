-- Readings as text in places of 12 bytes.
use Rattle.std.specs.Prelude.{ℕ, ◌+◌, ◌-◌, ◌*◌, ◌/◌, true, false, List, [], ◌∷◌, ◌++◌, length, take, drop, replicate, ℤ, pos, Result, ◌==◌}
use Rattle.std.specs.Fmt.{signed_decimal}
use Rattle.std.specs.Result.{result_unwrap_or}
use Rattle.decimal.specs.Reading.{read_as}
use Rattle.decimal.specs.declared.reading.NumberError.{NumberError}
use Rattle.port.specs.declared.reading.Reading.{Reading}
use Rattle.port.specs.Ring.{queue}

-- the whole places of a memory
abbrev pub places_in : List ℕ → ℕ
places_in bytes = length bytes / 12

-- a reading as a place holds it: its number in decimal, then spaces
abbrev pub padded : Reading → List ℕ
padded x = signed_decimal x.value ++ replicate (12 - length (signed_decimal x.value)) 32

-- the memory after a reading is written into place k
abbrev pub placed : List ℕ → ℕ → Reading → List ℕ
placed places k x = take (12 * k) places ++ (padded x ++ drop (12 * k + 12) places)

-- the bytes before the first space
abbrev pub up_to_space : List ℕ → List ℕ
up_to_space [] = []
up_to_space (c ∷ cs) = elim (c == 32) [ true ↦ [] | false ↦ c ∷ up_to_space cs ]

-- the number that was read, or 0
abbrev pub or_zero : Result ℤ NumberError → ℤ
or_zero r = result_unwrap_or r (pos 0)

-- the reading at place k: the number before the first space
abbrev pub place_reading : List ℕ → ℕ → Reading
place_reading places k = record { value = or_zero (read_as (up_to_space (take 12 (drop (12 * k) places)))) }

-- so many readings in the ring of places, from the first on
abbrev pub waiting_in : List ℕ → ℕ → ℕ → List Reading
waiting_in places first count = queue (place_reading places) (places_in places) first count

-- What the service port holds and means.
use Rattle.std.specs.Prelude.{◌≡◌, ℕ, ◌+◌, ◌-◌, List, length, take, Some, None, Ok, Err, Option, Result, slice_set}
use Rattle.program.specs.declared.fault.Fault.{Fault}
use Rattle.port.specs.declared.reading.Reading.{Reading}
use Rattle.port.specs.declared.service.ServicePort.{ServicePort}
use Rattle.port.specs.Meaning.{Meaning, meant}
use Rattle.port.specs.Place.{places_in, placed, waiting_in}
use Rattle.port.specs.Ring.{wrapped}

-- every byte of both memories; the place of the first reading, how many wait, how many bytes are shown
pub record Held : Type 0 where
  pub places : List ℕ
  pub bytes : List ℕ
  pub first : ℕ
  pub count : ℕ
  pub written : ℕ

abbrev pub held : List ℕ → List ℕ → ℕ → ℕ → ℕ → Held
held places bytes first count written = record { places = places; bytes = bytes; first = first; count = count; written = written }

abbrev pub held_by : ServicePort → Held
held_by s = held s.places.now s.bytes.memory.now s.ring.first s.ring.count s.bytes.written

-- the places and bytes that are not used are free
abbrev pub in_service : ServicePort → Meaning
in_service s = meant (waiting_in s.places.now s.ring.first s.ring.count) (take s.bytes.written s.bytes.memory.now) (places_in s.places.now - s.ring.count) (length s.bytes.memory.now - s.bytes.written)

-- an accepted reading fills the place after the last, and no other byte changes
abbrev pub after_offer : {U : Type 0} → Reading → Result U Fault → Held → Held
after_offer x (Ok u) h = held (placed h.places (wrapped (places_in h.places) (h.first + h.count)) x) h.bytes h.first (h.count + 1) h.written
after_offer x (Err f) h = h

-- a taken reading frees its place, and no byte changes
abbrev pub after_take : Option Reading → Held → Held
after_take (Some x) h = held h.places h.bytes (wrapped (places_in h.places) (h.first + 1)) (h.count - 1) h.written
after_take None h = h

-- an accepted byte stands after the shown ones, and no other byte changes
abbrev pub after_show : {U : Type 0} → ℕ → Result U Fault → Held → Held
after_show b (Ok u) h = held h.places (slice_set h.bytes h.written b) h.first h.count (h.written + 1)
after_show b (Err f) h = h

-- a clear changes no byte
abbrev pub after_clear : Held → Held
after_clear h = held h.places h.bytes h.first h.count 0

-- the port still stands over the memories that were lent
abbrev pub SameLenders : ServicePort → ServicePort → Type 0
SameLenders s s' = (s'.places.ghost_name ≡ s.places.ghost_name) × (s'.bytes.memory.ghost_name ≡ s.bytes.memory.ghost_name)

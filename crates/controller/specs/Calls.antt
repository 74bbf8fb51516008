-- What the calls of a controller make of its life.
use Rattle.std.specs.Prelude.{◌≡◌, ℕ, List, ℤ, Result}
use Rattle.program.specs.declared.fault.Fault.{Fault}
use Rattle.port.specs.declared.reading.Reading.{Reading}
use Rattle.port.specs.Meaning.{Meaning}
use Rattle.machine.specs.declared.outcome.Report.{Report}
use Rattle.machine.specs.declared.state.Machine.{Machine}
use Rattle.controller.specs.Lives.{Controller, Life, Called, run, offer, clear, after_run, after_offer, after_clear}

-- a machine with its memory and the meaning of its port
abbrev pub controlled : Machine → List ℤ → Meaning → Controller
controlled m memory q = record { machine = m; memory = memory; port = q }

-- a run that answered a and made k of the controller j is a call in every life that has come to j
abbrev pub RunLived : ℕ → Controller → Result Report Fault → Controller → Type 0
RunLived allowance j a k = (l : Life) → l.control ≡ j → Called (run allowance) l (after_run a k l)

-- and so is an offer of x that answered a and made q of the port p
abbrev pub OfferLived : Reading → Meaning → Result (Unit {0}) Fault → Meaning → Type 0
OfferLived x p a q = (l : Life) → l.control.port ≡ p → Called (offer x) l (after_offer x a q l)

-- and a clear that made q of the port p
abbrev pub ClearLived : Meaning → Meaning → Type 0
ClearLived p q = (l : Life) → l.control.port ≡ p → Called clear l (after_clear q l)

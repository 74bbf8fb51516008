-- From a look at each unit to whether an address lies in an opening.
use Rattle.std.proofs.Common.{ℕ, ◌+◌, ◌<◌, ◌≤◌, Bool, true, false, List, [], ◌∷◌, length, get_or, Decides, sym, refl, subst, arith}
use Rattle.std.specs.Bool.{MatchBool}
use Rattle.std.specs.List.{HoldsAt, AllWithin}
use Rattle.std.proofs.lemmas.List.{get_or_default}
use Rattle.program.specs.declared.unit.Unit.{Unit as UnitRecord}
use Rattle.plan.specs.Programs.{InOpening}

abbrev pub Lies : ℕ → UnitRecord → Type 0
Lies a v = (v.entry ≤ a) × (a < v.entry + 3)

pub opening_decided : (us : List UnitRecord) (a : ℕ) (r : Bool) → MatchBool r ((k : ℕ) × (k < length us) × HoldsAt (Lies a) us k) (AllWithin (λ v. Lies a v → ⊥) us 0 (length us)) → Decides r (InOpening us a)
opening_decided [] a true m = absurd (omega (arith, m.1))
opening_decided (u ∷ us) a true m = (λ t. (m.0, get_or (u ∷ us) m.0 u, (m.1, get_or_default (u ∷ us) m.0 (get_or (u ∷ us) m.0 u) u m.1), (m.2 u).0, (m.2 u).1), λ q. refl)
opening_decided us a false m = (λ t. cc, λ q. absurd (m q.0 q.1 (omega arith) q.2.0 (subst (λ (v : UnitRecord). Lies a v) (sym q.2.1) (q.3, q.4))))

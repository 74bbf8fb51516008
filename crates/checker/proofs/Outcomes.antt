-- From the work to the answer.
use Rattle.std.proofs.Common.{◌≡◌, ℕ, ◌+◌, ◌-◌, ◌<◌, ◌≤◌, List, get_or, take, replicate, ℤ, None, Option, ap, ◌∙◌, ⊎_elim, arith}
use Rattle.std.proofs.lemmas.List.{get_or-replicate, get_or_past, length-replicate}
use Rattle.std.proofs.lemmas.Bool.{cases_lt}
use Rattle.program.specs.declared.counts.Counts.{Counts}
use Rattle.program.specs.declared.unit.Unit.{Unit as UnitRecord}
use Rattle.plan.specs.declared.planned.Planned.{Planned}
use Rattle.plan.specs.Programs.{coded, program_of}
use Rattle.plan.specs.Lawful.{Table}

-- a table that is unset has no place
pub unset_none : (t : Table) (n : ℕ) → t ≡ replicate n None → (a : ℕ) → get_or t a None ≡ None
unset_none t n e a = ap (λ (z : Table). get_or z a None) e ∙ ⊎_elim (λ (h : a < n). get_or-replicate n a None None h) (λ (h : n ≤ a). get_or_past (replicate n None) a None (omega (arith, length-replicate {A = Option Planned} n None))) (cases_lt a n)

-- the slices that are handed on are the program's code and units
pub handed : (c d : Counts) (m : List ℤ) (us : List UnitRecord) → c ≡ d → coded (take (c.code - 0) m) (take (c.units - 0) us) ≡ program_of d m us
handed c d m us e =
    let x : d.code - 0 ≡ d.code = omega arith in let y : d.units - 0 ≡ d.units = omega arith in
    ap (λ (z : Counts). coded (take (z.code - 0) m) (take (z.units - 0) us)) e ∙ (ap (λ (n : ℕ). coded (take n m) (take (d.units - 0) us)) x ∙ ap (λ (n : ℕ). coded (take d.code m) (take n us)) y)

-- code is no longer than a program may be
pub code_low : (n c d h k : ℕ) → c + d + h ≤ n → n ≤ k → c ≤ k
code_low n c d h k p q = omega arith

-- Units in their order, and what is asked of one of them.
use Rattle.std.proofs.Common.{◌≡◌, ℕ, zero, suc, ◌+◌, ◌<◌, ◌≤◌, Bool, true, false, List, ℤ, pos, ◌≤ℤ◌, ◌<ℤ◌, Some, None, Option, MatchOption, Decides, ◌≢◌, sym, refl, ap, ◌∙◌, subst, inl, inr, ⊎_elim, arith}
use Rattle.std.proofs.lemmas.Int.{ints}
use Rattle.std.proofs.lemmas.List.{get_or_default}
use Rattle.std.proofs.lemmas.Bool.{cases_lt, both_ways}
use Rattle.std.proofs.lemmas.Option.{none-some, same_Some}
use Rattle.program.specs.declared.unit.Unit.{Unit as UnitRecord}
use Rattle.isa.specs.declared.opcode.Opcode.TheVariants.{Ret}
use Rattle.isa.specs.declared.instruction.Instruction.{Instruction}
use Rattle.isa.specs.Code.{instruction}
use Rattle.plan.specs.Programs.{Program, Listed}
use Rattle.plan.specs.Rules.{Closes, InFrame}

-- a place has one unit
pub listed_same : (us : List UnitRecord) (k : ℕ) (v w : UnitRecord) → Listed us k v → Listed us k w → v ≡ w
listed_same us k v w p q = sym p.1 ∙ (get_or_default us k v w p.0 ∙ q.1)

-- what holds of the units before the i-th and of it
pub units_each : (us : List UnitRecord) (Q : ℕ → UnitRecord → Type 0) (i : ℕ) (w : UnitRecord) → ((k : ℕ) (v : UnitRecord) → k < i → Listed us k v → Q k v) → Listed us i w → Q i w →
    (k : ℕ) (v : UnitRecord) → k < i + 1 → Listed us k v → Q k v
units_each us Q i w f at q k v l p = ⊎_elim (λ (h : k < i). f k v h p) (λ (h : i ≤ k). here (omega arith)) (cases_lt k i)
  where
    here : k ≡ i → Q k v
    here s = subst (λ (n : ℕ). Q n v) (sym s) (subst (λ (z : UnitRecord). Q i z) (sym (listed_same us i v w (subst (λ (n : ℕ). Listed us n v) s p) at)) q)

abbrev ret : ℤ → Instruction
ret k = record { op = Ret; argument = k }

same_count : (k n : ℤ) → Some (ret k) ≡ Some (ret n) → k ≡ n
same_count k n e = let s : ret k ≡ ret n = cc in ap (λ (i : Instruction). i.argument) s

-- what holds of an option by what holds of its value
pub told : {X : Type 0} (A : Type 0) {F G : X → Type 0} (o : Option X) → MatchOption o A F → ((x : X) → F x → G x) → MatchOption o A G
told A None a f = a
told A (Some x) a f = f x a

-- a body's unit, if it has one
abbrev pub UnitIn : List UnitRecord → ℕ → Option UnitRecord → Type 0
UnitIn us b o = MatchOption o ((k : ℕ) (v : UnitRecord) → Listed us k v → b ≢ suc k) (λ v. (k : ℕ) × Listed us k v × (b ≡ suc k))

-- a place ends its unit just if its body has one, nothing is left on it, and a RET of the unit's arguments follows
module _ (P : Program) (a b h : ℕ) (r : Bool) where
  pub closes_is : (m : Option ℤ) (o : Option UnitRecord) → MatchOption m ((k : ℤ) → instruction P.code (a + 1) ≢ Some (ret k)) (λ k. instruction P.code (a + 1) ≡ Some (ret k)) → UnitIn P.units b o →
      MatchOption o (r ≡ false) (λ v. Decides r ((h ≡ 0) × (m ≡ Some (pos v.arguments)))) → Decides r ((j : ℕ) × (w : UnitRecord) × Closes P a b h j w)
  closes_is m None e u d = (λ t. absurd (both_ways r d t), λ q. absurd (u q.0 q.1 q.2.listed q.2.body))
  closes_is None (Some v) e u d = (λ t. absurd (none-some (pos v.arguments) (d.0 t).1), λ q. absurd (e (pos q.1.arguments) q.2.returns))
  closes_is (Some k) (Some v) e u d = (λ t. (u.0, v, record { returns = e ∙ ap (λ (n : ℤ). Some (ret n)) (same_Some k (pos v.arguments) (d.0 t).1); listed = u.1; body = u.2; empty = (d.0 t).0 }), λ q. d.1 (q.2.empty, ap Some (back q.0 q.1 q.2)))
    where
      back : (j : ℕ) (w : UnitRecord) → Closes P a b h j w → k ≡ pos v.arguments
      back j w q =
          let x : j ≡ u.0 = omega (arith, q.body, u.2) in
          let t : w ≡ v = listed_same P.units u.0 w v (subst (λ (n : ℕ). Listed P.units n w) x q.listed) u.1 in
          let n : k ≡ pos w.arguments = same_count k (pos w.arguments) (sym e ∙ q.returns) in n ∙ ap (λ (y : UnitRecord). pos y.arguments) t

-- an offset above 0 lies in the frame just if the body has a unit, and it is that of an argument or the result
module _ (us : List UnitRecord) (h : ℕ) (n : ℤ) (r : Bool) (up : pos 0 <ℤ n) where
  pub frame_at : (b : ℕ) (o : Option UnitRecord) → UnitIn us b o → MatchOption o (r ≡ false) (λ v. Decides r ((pos 3 ≤ℤ n) × (n ≤ℤ pos (v.arguments + 2 + v.results)))) → Decides r (InFrame us b h n)
  frame_at zero None u d = (λ t. absurd (both_ways r d t), back)
    where
      back : InFrame us zero h n → r ≡ true
      back (inl q) = absurd (omega (arith, ints, up, q.1))
      back (inr q) = absurd q
  frame_at (suc k) None u d = (λ t. absurd (both_ways r d t), back)
    where
      back : InFrame us (suc k) h n → r ≡ true
      back (inl q) = absurd (omega (arith, ints, up, q.1))
      back (inr q) = absurd (u k q.0 q.1 refl)
  frame_at zero (Some v) u d = absurd (omega (arith, u.2))
  frame_at (suc k) (Some v) u d = (λ t. inr (v, subst (λ (m : ℕ). Listed us m v) s u.1, (d.0 t).0, (d.0 t).1), λ q. d.1 (back q))
    where
      s : u.0 ≡ k
      s = omega (arith, u.2)

      back : InFrame us (suc k) h n → (pos 3 ≤ℤ n) × (n ≤ℤ pos (v.arguments + 2 + v.results))
      back (inl q) = absurd (omega (arith, ints, up, q.1))
      back (inr q) =
          let t : q.0 ≡ v = listed_same us k q.0 v q.1 (subst (λ (m : ℕ). Listed us m v) s u.1) in
          subst (λ (x : UnitRecord). (pos 3 ≤ℤ n) × (n ≤ℤ pos (x.arguments + 2 + x.results))) t (q.2, q.3)

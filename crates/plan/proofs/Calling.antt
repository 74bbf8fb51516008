-- From the parts of a rule to what it says of a place.
use Rattle.std.proofs.Common.{◌≡◌, ℕ, Ok, Err, sym, subst, inl, inr, arith}
use Rattle.program.specs.declared.fault.CheckCause.{CheckCause}
use Rattle.isa.specs.declared.instruction.Instruction.{Instruction}
use Rattle.plan.specs.declared.kind.Kind.{Kind}
use Rattle.plan.specs.declared.kind.Kind.TheVariants.{Pushes}
use Rattle.plan.specs.Kinds.{table, count, kind}
use Rattle.plan.specs.Programs.{Program}
use Rattle.plan.specs.Rules.{CallFollows, RuleOf}
use Rattle.plan.specs.Causes.{Unruled, FewForCall, Holding}
use Rattle.plan.specs.Rulings.{Ruling, successors, Ruled, Called}
use Rattle.plan.proofs.Rows.{Fixed, fixed}

module _ (P : Program) (a b h : ℕ) (i : Instruction) (push : kind i.op ≡ Pushes) (follows : CallFollows P.code a) where
  -- what is said of a call holds of the PUSH
  pub called_ruled : (r : Ruling) → Called P.units a h i.argument r → Ruled P a b h i r
  called_ruled (Err c) (inl q) = subst (λ (x : CheckCause). Holding P a b h i x) (sym q.0) (subst (λ (x : Kind). Unruled P a b h i x) (sym push) (follows, q.1))
  called_ruled (Err c) (inr (inl q)) = subst (λ (x : CheckCause). Holding P a b h i x) (sym q.0) (inr (subst (λ (x : Kind). FewForCall P a h i x) (sym push) (follows, q.1)))
  called_ruled (Err c) (inr (inr q)) =
      let e = subst (λ (k : Kind). Fixed k (table i.op (count i.argument))) push (fixed i.op (count i.argument)) in
      subst (λ (x : CheckCause). Holding P a b h i x) (sym q.0) (omega (arith, e.0), omega (arith, e.0, e.1, q.1))
  called_ruled (Ok n) q = subst (λ (x : Kind). RuleOf P a b h i (successors n) x) (sym push) (inl (follows, q.0))

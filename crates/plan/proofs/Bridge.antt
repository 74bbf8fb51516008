-- The rules as a plan meets them: each planned address with its instruction, and the rule with the plan inside.
use Rattle.std.proofs.Common.{◌≡◌, ℕ, ◌+◌, ◌-◌, ◌<◌, ◌≤◌, ◌⊎◌, List, [], ◌∷◌, ℤ, pos, ◌≤ℤ◌, Some, subst, inl, inr}
use Rattle.std.specs.List.{AllByRecursion}
use Rattle.program.specs.declared.unit.Unit.{Unit as UnitRecord}
use Rattle.isa.specs.declared.instruction.Instruction.{Instruction}
use Rattle.isa.specs.Code.{instruction}
use Rattle.isa.specs.Table.{size}
use Rattle.plan.specs.declared.kind.Kind.{Kind}
use Rattle.plan.specs.declared.kind.Kind.TheVariants.{Moves, Ruleless, Pushes, Ends, Halts, Jumps, Branches, Frames, Counts}
use Rattle.plan.specs.declared.successor.Successor.{Successor}
use Rattle.plan.specs.Kinds.{uses, gives, kind}
use Rattle.plan.specs.Programs.{Program, Listed}
use Rattle.plan.specs.Rules.{to, Onto, CallFollows, Closes, InFrame, RuleOf}
use Rattle.plan.specs.Lawful.{Plan, Has, Holds, Lawful}

module _ (P : Program) (p : Plan) (a b h : ℕ) (i : Instruction) where
  -- the plan has a target, with a depth
  abbrev pub Target : ℤ → ℕ → Type 0
  Target t d = (x : ℕ) × (t ≡ pos x) × Has p x b d

  -- the plan has the next instruction
  abbrev pub OntoIn : Type 0
  OntoIn = (uses i ≤ h) × Has p (a + size i.op) b (h - uses i + gives i)

  pub record CallsIn (k : ℕ) (v : UnitRecord) : Type 0 where
    pub follows : CallFollows P.code a
    pub listed : Listed P.units k v
    pub enters : i.argument ≡ pos v.entry
    pub deep : v.arguments + v.results ≤ h
    pub under : h < 1000
    pub back : Has p (a + 3) b (h - v.arguments)

  abbrev pub RuleIn : Kind → Type 0
  RuleIn Moves = OntoIn
  RuleIn Ruleless = ⊥
  RuleIn Pushes = ((k : ℕ) × (v : UnitRecord) × CallsIn k v) ⊎ ((CallFollows P.code a → ⊥) × OntoIn)
  RuleIn Ends = (k : ℕ) × (v : UnitRecord) × Closes P a b h k v
  RuleIn Halts = Unit {0}
  RuleIn Jumps = Target i.argument h
  RuleIn Branches = Target i.argument (h - 1) × (1 ≤ h) × Has p (a + size i.op) b (h - 1)
  RuleIn Frames = InFrame P.units b h i.argument × OntoIn
  RuleIn Counts = (pos 0 ≤ℤ i.argument) × OntoIn

  held : (x d : ℕ) → Holds p b (to (pos x) d) → Has p x b d
  held x d q = let e = q.1 in let f : q.0 ≡ x = cc in subst (λ (z : ℕ). Has p z b d) f q.2

  lone : (ss : List Successor) (s : Successor) → ss ≡ s ∷ [] → AllByRecursion (Holds p b) ss → Holds p b s
  lone ss s e al = (subst (λ (z : List Successor). AllByRecursion (Holds p b) z) e al).0

  onto_in : (ss : List Successor) → Onto a h i ss → AllByRecursion (Holds p b) ss → OntoIn
  onto_in ss o al = (o.0, held (a + size i.op) (h - uses i + gives i) (lone ss _ o.1 al))

  pub rule_in : (ss : List Successor) (k : Kind) → RuleOf P a b h i ss k → AllByRecursion (Holds p b) ss → RuleIn k
  rule_in ss Moves r al = onto_in ss r al
  rule_in ss Ruleless r al = r
  rule_in ss Pushes (inl r) al =
      inl (r.1.0, r.1.1, record { follows = r.0; listed = r.1.2.listed; enters = r.1.2.enters; deep = r.1.2.deep; under = r.1.2.under; back = held (a + 3) (h - r.1.1.arguments) (lone ss _ r.1.2.back al) })
  rule_in ss Pushes (inr r) al = inr (r.0, onto_in ss r.1 al)
  rule_in ss Ends r al = r.0
  rule_in ss Halts r al = tt
  rule_in ss Jumps r al = lone ss _ r al
  rule_in ss Branches r al = let q = subst (λ (z : List Successor). AllByRecursion (Holds p b) z) r.1 al in (q.0, r.0, held (a + size i.op) (h - 1) q.1.0)
  rule_in ss Frames r al = (r.0, onto_in ss r.1 al)
  rule_in ss Counts r al = (r.0, onto_in ss r.1 al)

-- of each planned address: its instruction, and the rule in the plan
pub planned_rule : (P : Program) (p : Plan) → Lawful P p → (a b h : ℕ) → Has p a b h → (i : Instruction) × (instruction P.code a ≡ Some i) × RuleIn P p a b h i (kind i.op)
planned_rule P p law a b h q = let r = law.rules a b h q in (r.1.what, r.1.is, rule_in P p a b h r.1.what r.0 (kind r.1.what.op) r.1.rule r.2)

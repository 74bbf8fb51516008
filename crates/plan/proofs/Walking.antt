-- Walks, lawful plans, and refusals.
use Rattle.std.proofs.Common.{◌≡◌, ℕ, ◌+◌, ◌-◌, ◌≤◌, List, [], ◌∷◌, ℤ, pos, sym, refl, ap, ◌∙◌, subst, inl, inr, arith}
use Rattle.std.specs.List.{AllByRecursion}
use Rattle.std.proofs.lemmas.Int.{ints}
use Rattle.program.specs.declared.fault.CheckCause.{CheckCause}
use Rattle.program.specs.declared.fault.CheckCause.TheVariants.{TableSize, MemoryLength, NoDivision, BadEntry, NoInstruction, NoRule, ShallowDepth, OutsideFrame, TooDeep, DifferentWays}
use Rattle.program.specs.declared.unit.Unit.{Unit as UnitRecord}
use Rattle.isa.specs.declared.instruction.Instruction.{Instruction}
use Rattle.plan.specs.declared.row.Row.{Row}
use Rattle.plan.specs.declared.kind.Kind.{Kind}
use Rattle.plan.specs.declared.kind.Kind.TheVariants.{Moves, Ruleless, Pushes, Ends, Halts, Jumps, Branches, Frames, Counts}
use Rattle.plan.specs.declared.successor.Successor.{Successor}
use Rattle.plan.specs.Kinds.{table, count, uses, gives, kind}
use Rattle.plan.specs.Programs.{Program, Listed, Opened}
use Rattle.plan.specs.Rules.{to, Onto, RuleOf, Rule, Low, Steps}
use Rattle.plan.specs.Lawful.{Plan, Has, Holds, Lawful}
use Rattle.plan.specs.Walks.{In, Walk, root, on}
use Rattle.plan.specs.Causes.{Unruled, FewForCall, Outside, Holding, AtPlace, Due}
use Rattle.plan.proofs.Listing.{listed_same}
use Rattle.plan.proofs.Dividing.{some_same, stops_not}
use Rattle.plan.proofs.Rows.{Fixed, fixed}

pub all_in : {X : Type 0} (Q : X → Type 0) (xs : List X) (x : X) → AllByRecursion Q xs → In xs x → Q x
all_in Q [] x h i = absurd i
all_in Q (y ∷ ys) x h (inl e) = subst Q e h.0
all_in Q (y ∷ ys) x h (inr i) = all_in Q ys x h.1 i

pub pos_same : (a b : ℕ) → pos a ≡ pos b → a ≡ b
pos_same a b e = cc

abbrev row_of : Instruction → Row
row_of i = table i.op (count i.argument)

module _ (P : Program) (opened : Opened P) where
  entry_same : (j k : ℕ) (v w : UnitRecord) → Listed P.units j v → Listed P.units k w → pos v.entry ≡ pos w.entry → v ≡ w
  entry_same j k v w p q e =
      let s : j ≡ k = (opened k w q).alone j v p (pos_same v.entry w.entry e) in
      listed_same P.units k v w (subst (λ (n : ℕ). Listed P.units n v) s p) q

  -- a rule gives one list of successors
  module _ (a b h : ℕ) (i : Instruction) (ss us : List Successor) where
    pub rule_same : (k : Kind) → RuleOf P a b h i ss k → RuleOf P a b h i us k → ss ≡ us
    rule_same Moves p q = p.1 ∙ sym q.1
    rule_same Ruleless p q = absurd p
    rule_same Pushes (inl p) (inl q) =
        let s : p.1.1 ≡ q.1.1 = entry_same p.1.0 q.1.0 p.1.1 q.1.1 p.1.2.listed q.1.2.listed (sym p.1.2.enters ∙ q.1.2.enters) in
        p.1.2.back ∙ (ap (λ (v : UnitRecord). to (pos (a + 3)) (h - v.arguments) ∷ []) s ∙ sym q.1.2.back)
    rule_same Pushes (inl p) (inr q) = absurd (q.0 p.0)
    rule_same Pushes (inr p) (inl q) = absurd (p.0 q.0)
    rule_same Pushes (inr p) (inr q) = p.1.1 ∙ sym q.1.1
    rule_same Ends p q = p.1 ∙ sym q.1
    rule_same Halts p q = p ∙ sym q
    rule_same Jumps p q = p ∙ sym q
    rule_same Branches p q = p.1 ∙ sym q.1
    rule_same Frames p q = p.1.1 ∙ sym q.1.1
    rule_same Counts p q = p.1.1 ∙ sym q.1.1

  module _ (a b h : ℕ) (small : h ≤ 1000) (i : Instruction) (ss : List Successor) where
    rule_uses : (k : Kind) → Fixed k (row_of i) → RuleOf P a b h i ss k → uses i ≤ h
    rule_uses Moves f r = r.0
    rule_uses Ruleless f r = absurd r
    rule_uses Pushes f r = omega (arith, f.0)
    rule_uses Ends f r = omega (arith, f.0)
    rule_uses Halts f r = omega (arith, f.0)
    rule_uses Jumps f r = omega (arith, f.0)
    rule_uses Branches f r = omega (arith, f.0, r.0)
    rule_uses Frames f r = r.1.0
    rule_uses Counts f r = r.1.0

    onto_low : Onto a h i ss → Low ss → h - uses i + gives i ≤ 1000
    onto_low r l = (subst (λ (x : List Successor). Low x) r.1 l).0

    rule_low : (k : Kind) → Fixed k (row_of i) → RuleOf P a b h i ss k → Low ss → h - uses i + gives i ≤ 1000
    rule_low Moves f r l = onto_low r l
    rule_low Ruleless f r l = absurd r
    rule_low Pushes f (inl r) l = omega (arith, f.0, f.1, r.1.2.under)
    rule_low Pushes f (inr r) l = onto_low r.1 l
    rule_low Ends f r l = omega (arith, f.0, f.1)
    rule_low Halts f r l = omega (arith, f.0, f.1)
    rule_low Jumps f r l = omega (arith, f.0, f.1)
    rule_low Branches f r l = omega (arith, f.0, f.1)
    rule_low Frames f r l = onto_low r.1 l
    rule_low Counts f r l = onto_low r.1 l

    unruled_not : (k : Kind) → Unruled P a b h i k → RuleOf P a b h i ss k → ⊥
    unruled_not Moves u r = u
    unruled_not Ruleless u r = r
    unruled_not Pushes u (inl r) = u.1 r.1.0 r.1.1 r.1.2.listed r.1.2.enters
    unruled_not Pushes u (inr r) = r.0 u.0
    unruled_not Ends u r = u r.0.0 r.0.1 r.0.2
    unruled_not Halts u r = u
    unruled_not Jumps u r = u
    unruled_not Branches u r = u
    unruled_not Frames u r = u
    unruled_not Counts u r = omega (arith, ints, u, r.0)

    outside_not : (k : Kind) → Outside P b h i k → RuleOf P a b h i ss k → ⊥
    outside_not Moves u r = u
    outside_not Ruleless u r = u
    outside_not Pushes u r = u
    outside_not Ends u r = u
    outside_not Halts u r = u
    outside_not Jumps u r = u
    outside_not Branches u r = u
    outside_not Frames u r = u r.0
    outside_not Counts u r = u

    few_not : (k : Kind) → FewForCall P a h i k → RuleOf P a b h i ss k → ⊥
    few_not Moves u r = u
    few_not Ruleless u r = u
    few_not Pushes u (inl r) =
        let s : r.1.1 ≡ u.1.1 = entry_same r.1.0 u.1.0 r.1.1 u.1.1 r.1.2.listed u.1.2 (sym r.1.2.enters ∙ u.1.3) in
        omega (arith, r.1.2.deep, u.1.4, ap (λ (x : UnitRecord). x.arguments) s, ap (λ (x : UnitRecord). x.results) s)
    few_not Pushes u (inr r) = r.0 u.0
    few_not Ends u r = u
    few_not Halts u r = u
    few_not Jumps u r = u
    few_not Branches u r = u
    few_not Frames u r = u
    few_not Counts u r = u

    -- where a cause holds, no rule fits with low depths
    pub holding_not : (c : CheckCause) → Holding P a b h i c → Rule P a b h i ss → Low ss → ⊥
    holding_not TableSize q r l = q
    holding_not MemoryLength q r l = q
    holding_not NoDivision q r l = q
    holding_not BadEntry q r l = q
    holding_not NoInstruction q r l = q
    holding_not NoRule q r l = unruled_not (kind i.op) q r
    holding_not ShallowDepth (inl q) r l = omega (arith, q, rule_uses (kind i.op) (fixed i.op (count i.argument)) r)
    holding_not ShallowDepth (inr q) r l = few_not (kind i.op) q r
    holding_not OutsideFrame q r l = outside_not (kind i.op) q r
    holding_not TooDeep q r l = omega (arith, q.1, rule_low (kind i.op) (fixed i.op (count i.argument)) r l)
    holding_not DifferentWays q r l = q

-- what a lawful plan has
module _ (P : Program) (p : Plan) (law : Lawful P p) where
  steps_same : (a b h : ℕ) (ss us : List Successor) → Steps P a b h ss → Steps P a b h us → ss ≡ us
  steps_same a b h ss us x y =
      let s : x.what ≡ y.what = some_same x.what y.what (sym x.is ∙ y.is) in
      rule_same P law.units a b h y.what ss us (kind y.what.op) (subst (λ (i : Instruction). Rule P a b h i ss) s x.rule) y.rule

  -- every walk leads along it
  pub walk_planned : (ws : List ℕ) (t : ℤ) (b h : ℕ) → Walk P ws t b h → (a : ℕ) × (t ≡ pos a) × Has p a b h
  walk_planned ws t b h (root a c r) = (a, refl, law.roots a c r)
  walk_planned ws t b h (on xs a c k ss s w n sit st i) =
      let u = walk_planned xs (pos a) c k w in
      let e : u.0 ≡ a = sym (pos_same a u.0 u.1) in
      let v = law.rules a c k (subst (λ (z : ℕ). Has p z c k) e u.2) in
      all_in (Holds p c) ss s (subst (λ (z : List Successor). AllByRecursion (Holds p c) z) (sym (steps_same a c k ss v.0 st v.1)) v.2) i

  walked_at : (ws : List ℕ) (a b h : ℕ) → Walk P ws (pos a) b h → Has p a b h
  walked_at ws a b h w = let u = walk_planned ws (pos a) b h w in subst (λ (z : ℕ). Has p z b h) (sym (pos_same a u.0 u.1)) u.2

  place_not : (c : CheckCause) (t : ℤ) → AtPlace P c t → ⊥
  place_not c t x =
      let pl = walked_at x.walked.0 x.a x.b x.h x.walked.1 in
      let v = law.rules x.a x.b x.h pl in
      let s : v.1.what ≡ x.i = some_same v.1.what x.i (sym v.1.is ∙ x.is) in
      holding_not P law.units x.a x.b x.h (law.places x.a x.b x.h pl).0 x.i v.0 c x.holds (subst (λ (i : Instruction). Rule P x.a x.b x.h i v.0) s v.1.rule) v.1.low

  -- a refusal shows that there is no lawful plan
  pub due_not : (c : CheckCause) (t : ℤ) → Due P c t → ⊥
  due_not TableSize t d = d
  due_not MemoryLength t d = d
  due_not NoDivision t d = stops_not P.code d.0 d.2 law.divides
  due_not BadEntry t d = d.bad (law.units d.k d.v d.listed)
  due_not NoInstruction t d = let u = walk_planned d.walked.0 t d.b d.h d.walked.1 in d.unfit u.0 u.1 (law.places u.0 d.b d.h u.2).1
  due_not NoRule t d = place_not NoRule t d
  due_not ShallowDepth t d = place_not ShallowDepth t d
  due_not OutsideFrame t d = place_not OutsideFrame t d
  due_not TooDeep t d = place_not TooDeep t d
  due_not DifferentWays t d =
      let x = walked_at d.walked.0 d.a d.one.body d.one.depth d.walked.1 in
      let y = walked_at d.also.0 d.a d.two.body d.two.depth d.also.1 in
      let z : d.one ≡ d.two = cc in d.unlike z

-- depths of walks
pub walk_low : (P : Program) (ws : List ℕ) (t : ℤ) (b h : ℕ) → Walk P ws t b h → h ≤ 1000
walk_low P ws t b h (root a c r) = omega arith
walk_low P ws t b h (on xs a c k ss s w n sit st i) = all_in (λ (x : Successor). x.depth ≤ 1000) ss s st.low i

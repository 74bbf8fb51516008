-- Tests that compute: which causes hold at a place, and the successors where none does.
use Rattle.std.proofs.Common.{◌≡◌, ℕ, zero, suc, ◌+◌, ◌-◌, ◌<◌, ◌≤◌, Bool, true, false, not, ◌&&◌, ◌||◌, T, eqb, ltb, leb, ◌⊎◌, List, [], ◌∷◌, ℤ, pos, negsuc, neg_ℤ, ◌≤ℤ◌, ◌<ℤ◌, Some, None, Decides, Option, sym, refl, ap, ◌∙◌, subst, inl, inr, arith}
use lib.Signed.{lt_z, le_z, lt_z_no}
use Rattle.std.proofs.lemmas.Bool.{true≢false, false≢true, eqb-true, eq-eqb, leb-true, le-leb, ltb-false, and_parts, and_from, and_cases, or_parts, not-true, not-false, not_from_false}
use Rattle.std.proofs.lemmas.Bool.Decides.{Decides-eqb, Decides-like, Decides-not, Decides-and, Decides-or, Decides-ltb, not_from_Decides}
use Rattle.program.specs.declared.fault.CheckCause.{CheckCause}
use Rattle.program.specs.declared.fault.CheckCause.TheVariants.{TableSize, MemoryLength, NoDivision, BadEntry, NoInstruction, NoRule, ShallowDepth, OutsideFrame, TooDeep, DifferentWays}
use Rattle.program.specs.declared.unit.Unit.{Unit as UnitRecord}
use Rattle.isa.specs.declared.opcode.Opcode.{Opcode}
use Rattle.isa.specs.declared.opcode.Opcode.TheVariants.{Push, Add, Sub, Mul, Div, Mod, Neg, And, Or, Not, Eq, Ne, Lt, Gt, Le, Ge, Dup, Pop, Swap, Jump, Bf, Bt, Nop, Read, Bprint, Cprint, Iprint, Sprint, Prnln, Load, Store, Loadref, Storeref, Deref, Call, Loadfp, Loadsp, Storefp, Rmem, Fmem, Ret, Halt, Loadpc, Storepc, Storesp, Loadhp, Storehp, Loadhl, Storehl}
use Rattle.isa.specs.declared.instruction.Instruction.{Instruction}
use Rattle.isa.specs.Code.{instruction}
use Rattle.isa.specs.Table.{number, order, nth}
use Rattle.arithmetic.specs.Cells.{equal_z}
use Rattle.plan.specs.declared.kind.Kind.{Kind}
use Rattle.plan.specs.declared.kind.Kind.TheVariants.{Moves, Ruleless, Pushes, Ends, Halts, Jumps, Branches, Frames, Counts}
use Rattle.plan.specs.declared.successor.Successor.{Successor}
use Rattle.plan.specs.Kinds.{table, count, uses, gives, kind}
use Rattle.plan.specs.Programs.{Program, opcode_in, Listed}
use Rattle.plan.specs.Rules.{to, after, CallFollows, Closes, InCall, InFrame, RuleOf, Rule, Low}
use Rattle.plan.specs.Causes.{Unruled, FewForCall, Outside, Holding}
use Rattle.plan.proofs.Rows.{Fixed, fixed}

-- the number of an opcode gives it back
number_back : (op : Opcode) → nth order (number op - 1) ≡ Some op
number_back Push = refl
number_back Add = refl
number_back Sub = refl
number_back Mul = refl
number_back Div = refl
number_back Mod = refl
number_back Neg = refl
number_back And = refl
number_back Or = refl
number_back Not = refl
number_back Eq = refl
number_back Ne = refl
number_back Lt = refl
number_back Gt = refl
number_back Le = refl
number_back Ge = refl
number_back Dup = refl
number_back Pop = refl
number_back Swap = refl
number_back Jump = refl
number_back Bf = refl
number_back Bt = refl
number_back Nop = refl
number_back Read = refl
number_back Bprint = refl
number_back Cprint = refl
number_back Iprint = refl
number_back Sprint = refl
number_back Prnln = refl
number_back Load = refl
number_back Store = refl
number_back Loadref = refl
number_back Storeref = refl
number_back Deref = refl
number_back Call = refl
number_back Loadfp = refl
number_back Loadsp = refl
number_back Storefp = refl
number_back Rmem = refl
number_back Fmem = refl
number_back Ret = refl
number_back Halt = refl
number_back Loadpc = refl
number_back Storepc = refl
number_back Storesp = refl
number_back Loadhp = refl
number_back Storehp = refl
number_back Loadhl = refl
number_back Storehl = refl

-- are two opcodes the same?
abbrev pub is_same_op : Opcode → Opcode → Bool
is_same_op x y = eqb (number x) (number y)

abbrev or_op : Option Opcode → Opcode → Opcode
or_op None d = d
or_op (Some op) d = op

same_op : (x y : Opcode) → Decides (is_same_op x y) (x ≡ y)
same_op x y = (λ t. ap (λ (o : Option Opcode). or_op o x) (sym (number_back x) ∙ (ap (λ (n : ℕ). nth order (n - 1)) (eqb-true (number x) (number y) t) ∙ number_back y)), λ e. eq-eqb (number x) (number y) (ap number e))

abbrev made : Opcode → ℤ → Instruction
made op z = record { op = op; argument = z }

abbrev or_instruction : Option Instruction → Instruction → Instruction
or_instruction None d = d
or_instruction (Some i) d = i

never : Decides false ⊥
never = (λ t. false≢true t, λ q. absurd q)

-- is it this opcode?
abbrev pub op_is : Opcode → Option Opcode → Bool
op_is op None = false
op_is op (Some x) = is_same_op x op

pub op_is_lem : (op : Opcode) (o : Option Opcode) → Decides (op_is op o) (o ≡ Some op)
op_is_lem op None = (λ t. absurd (false≢true t), λ e. let z : ◌≡◌ {A = ℕ} 0 1 = cc in absurd (omega arith))
op_is_lem op (Some x) = Decides-like (is_same_op x op) (λ (e : x ≡ op). ap (λ (o : Opcode). Some o) e) (λ (e : Some x ≡ Some op). ap (λ (o : Option Opcode). or_op o x) e) (same_op x op)

equal_is : (x y : ℤ) → Decides (equal_z x y) (x ≡ y)
equal_is (pos a) (pos b) = Decides-like (eqb a b) (λ (e : a ≡ b). ap pos e) (λ (e : pos a ≡ pos b). cc) (Decides-eqb a b)
equal_is (pos a) (negsuc b) = (λ t. absurd (false≢true t), λ e. let z : ◌≡◌ {A = ℕ} 0 1 = cc in absurd (omega arith))
equal_is (negsuc a) (pos b) = (λ t. absurd (false≢true t), λ e. let z : ◌≡◌ {A = ℕ} 0 1 = cc in absurd (omega arith))
equal_is (negsuc a) (negsuc b) = Decides-like (eqb a b) (λ (e : a ≡ b). ap negsuc e) (λ (e : negsuc a ≡ negsuc b). cc) (Decides-eqb a b)

to_t : (b : Bool) → b ≡ true → T b
to_t b e = subst T (sym e) tt

from_t : (b : Bool) → T b → b ≡ true
from_t true t = refl
from_t false t = absurd t

less_is : (x y : ℤ) → Decides (lt_z x y) (x <ℤ y)
less_is x y = (λ t. record { lt = to_t (lt_z x y) t }, λ l. from_t (lt_z x y) l.lt)

most_is : (x y : ℤ) → Decides (le_z x y) (x ≤ℤ y)
most_is x y = (λ t. record { le = to_t (le_z x y) t }, λ l. from_t (le_z x y) l.le)

pub leb_is : (m n : ℕ) → Decides (leb m n) (m ≤ n)
leb_is m n = (leb-true m n, le-leb m n)

-- the unit at a place, as a value
pub nth_listed : (us : List UnitRecord) (k : ℕ) (v : UnitRecord) → nth us k ≡ Some v → Listed us k v
nth_listed [] k v e = let z : ◌≡◌ {A = ℕ} 0 1 = cc in absurd (omega arith)
nth_listed (u ∷ us) zero v e = (omega arith, cc)
nth_listed (u ∷ us) (suc k) v e = let r = nth_listed us k v e in (omega (arith, r.0), r.1)

pub listed_nth : (us : List UnitRecord) (k : ℕ) (v : UnitRecord) → Listed us k v → nth us k ≡ Some v
listed_nth [] k v l = absurd (omega (arith, l.0))
listed_nth (u ∷ us) zero v l = ap (λ (w : UnitRecord). Some w) l.1
listed_nth (u ∷ us) (suc k) v l = listed_nth us k v (omega (arith, l.0), l.1)

-- does a test pass at some unit?
abbrev pub some_unit : (UnitRecord → Bool) → List UnitRecord → Bool
some_unit f [] = false
some_unit f (v ∷ vs) = f v || some_unit f vs

-- a unit of which Q holds
abbrev SomeUnit : (UnitRecord → Type 0) → List UnitRecord → Type 0
SomeUnit Q us = (k : ℕ) × (v : UnitRecord) × Listed us k v × Q v

some_unit_lem : (f : UnitRecord → Bool) (Q : UnitRecord → Type 0) → ((v : UnitRecord) → Decides (f v) (Q v)) → (us : List UnitRecord) → Decides (some_unit f us) (SomeUnit Q us)
some_unit_lem f Q d [] = (λ t. absurd (false≢true t), λ q. absurd (omega (arith, q.2.0)))
some_unit_lem f Q d (u ∷ us) = Decides-like (f u || some_unit f us) there back (Decides-or (f u) (some_unit f us) (d u) (some_unit_lem f Q d us))
  where
    there : Q u ⊎ SomeUnit Q us → SomeUnit Q (u ∷ us)
    there (inl q) = (0, u, (omega arith, refl), q)
    there (inr q) = (suc q.0, q.1, (omega (arith, q.2.0), q.2.1), q.3)

    at : (k : ℕ) (v : UnitRecord) → Listed (u ∷ us) k v → Q v → Q u ⊎ SomeUnit Q us
    at zero v l q = inl (subst Q (sym l.1) q)
    at (suc k) v l q = inr (k, v, (omega (arith, l.0), l.1), q)

    back : SomeUnit Q (u ∷ us) → Q u ⊎ SomeUnit Q us
    back q = at q.0 q.1 q.2 q.3

-- does a test pass at each unit, the first of which has the place k?
abbrev pub each_unit : (ℕ → UnitRecord → Bool) → ℕ → List UnitRecord → Bool
each_unit f k [] = true
each_unit f k (v ∷ vs) = f k v && each_unit f (suc k) vs

pub each_unit_lem : (f : ℕ → UnitRecord → Bool) (k : ℕ) (us : List UnitRecord) → each_unit f k us ≡ true → (j : ℕ) (v : UnitRecord) → Listed us j v → f (k + j) v ≡ true
each_unit_lem f k [] t j v l = absurd (omega (arith, l.0))
each_unit_lem f k (u ∷ us) t zero v l = let e : k + 0 ≡ k = omega arith in subst (λ (n : ℕ). f n v ≡ true) (sym e) (subst (λ (w : UnitRecord). f k w ≡ true) l.1 (and_parts (f k u) (each_unit f (suc k) us) t).0)
each_unit_lem f k (u ∷ us) t (suc j) v l = let e : k + suc j ≡ suc k + j = omega arith in subst (λ (n : ℕ). f n v ≡ true) (sym e) (each_unit_lem f (suc k) us (and_parts (f k u) (each_unit f (suc k) us) t).1 j v (omega (arith, l.0), l.1))

pub unit_each : (f : ℕ → UnitRecord → Bool) (k : ℕ) (us : List UnitRecord) → ((j : ℕ) (v : UnitRecord) → Listed us j v → f (k + j) v ≡ true) → each_unit f k us ≡ true
unit_each f k [] g = refl
unit_each f k (u ∷ us) g =
    let z : k + 0 ≡ k = omega arith in
    and_from (f k u) (each_unit f (suc k) us) (subst (λ (n : ℕ). f n u ≡ true) z (g 0 u (omega arith, refl))) (unit_each f (suc k) us λ j v l. let e : k + suc j ≡ suc k + j = omega arith in subst (λ (n : ℕ). f n v ≡ true) e (g (suc j) v (omega (arith, l.0), l.1)))

-- is e the entry of a unit?
abbrev pub enters : ℤ → UnitRecord → Bool
enters e v = equal_z e (pos v.entry)

-- the first unit with the entry e
abbrev pub called : ℤ → List UnitRecord → Option UnitRecord
called e [] = None
called e (v ∷ vs) = elim (enters e v) [ true ↦ Some v | false ↦ called e vs ]

called_some : (e : ℤ) (us : List UnitRecord) → SomeUnit (λ v. e ≡ pos v.entry) us → (v : UnitRecord) × (called e us ≡ Some v) × SomeUnit (λ w. (w ≡ v) × (e ≡ pos w.entry)) us
called_some e [] q = absurd (omega (arith, q.2.0))
called_some e (u ∷ us) q = by (enters e u) refl q.0 q.1 q.2 q.3 (called_some e us)
  where
    by : (t : Bool) → enters e u ≡ t → (k : ℕ) (w : UnitRecord) → Listed (u ∷ us) k w → e ≡ pos w.entry → (SomeUnit (λ v. e ≡ pos v.entry) us → (v : UnitRecord) × (called e us ≡ Some v) × SomeUnit (λ x. (x ≡ v) × (e ≡ pos x.entry)) us) →
        (v : UnitRecord) × (called e (u ∷ us) ≡ Some v) × SomeUnit (λ x. (x ≡ v) × (e ≡ pos x.entry)) (u ∷ us)
    by true t k w l h more = (u, rw (t, called) refl, (0, u, (omega arith, refl), (refl, (equal_is e (pos u.entry)).0 t)))
    by false t zero w l h more = absurd (not_from_Decides (enters e u) (equal_is e (pos u.entry)) t (subst (λ (x : UnitRecord). e ≡ pos x.entry) (sym l.1) h))
    by false t (suc k) w l h more = let r = more (k, w, (omega (arith, l.0), l.1), h) in (r.0, rw (t, called) r.1, (suc r.2.0, r.2.1, (omega (arith, r.2.2.0), r.2.2.1), r.2.3))

module _ (P : Program) (a b h : ℕ) where
  -- a CALL stands after the PUSH
  abbrev pub call_at : Bool
  call_at = op_is Call (opcode_in P.code (a + 2))

  call_is : Decides call_at (CallFollows P.code a)
  call_is = op_is_lem Call (opcode_in P.code (a + 2))

  -- a RET of so many arguments
  abbrev pub ret_is : ℕ → Option Instruction → Bool
  ret_is m None = false
  ret_is m (Some i) = is_same_op i.op Ret && equal_z i.argument (pos m)

  ret_is_lem : (m : ℕ) (o : Option Instruction) → Decides (ret_is m o) (o ≡ Some (record { op = Ret; argument = pos m }))
  ret_is_lem m None = (λ t. absurd (false≢true t), λ e. let z : ◌≡◌ {A = ℕ} 0 1 = cc in absurd (omega arith))
  ret_is_lem m (Some i) = Decides-like (is_same_op i.op Ret && equal_z i.argument (pos m)) there back (Decides-and (is_same_op i.op Ret) (equal_z i.argument (pos m)) (same_op i.op Ret) (equal_is i.argument (pos m)))
    where
      there : (i.op ≡ Ret) × (i.argument ≡ pos m) → Some i ≡ Some (record { op = Ret; argument = pos m })
      there q = ap (λ (op : Opcode). Some (made op i.argument)) q.0 ∙ ap (λ (z : ℤ). Some (made Ret z)) q.1

      back : Some i ≡ Some (record { op = Ret; argument = pos m }) → (i.op ≡ Ret) × (i.argument ≡ pos m)
      back e = (ap (λ (o : Option Instruction). (or_instruction o i).op) e, ap (λ (o : Option Instruction). (or_instruction o i).argument) e)

  -- the end of the body's unit
  abbrev pub closing_by : ℕ → Bool
  closing_by zero = false
  closing_by (suc k) = elim (nth P.units k) [ None ↦ false | Some v ↦ ret_is v.arguments (instruction P.code (a + 1)) ]

  abbrev pub closing : Bool
  closing = eqb h 0 && closing_by b

  -- the end of some unit
  Ending : Type 0
  Ending = (k : ℕ) × (v : UnitRecord) × Closes P a b h k v

  closing_is : Decides closing Ending
  unfolding Ending
  closing_is = (λ t. let q = and_parts (eqb h 0) (closing_by b) t in at b refl (eqb-true h 0 q.0) q.1, λ q. let c = q.2 in and_from (eqb h 0) (closing_by b) (eq-eqb h 0 c.empty) (back q.0 q.1 c))
    where
      found : (k : ℕ) (o : Option UnitRecord) → nth P.units k ≡ o → b ≡ suc k → h ≡ 0 → elim o [ None ↦ false | Some v ↦ ret_is v.arguments (instruction P.code (a + 1)) ] ≡ true → Ending
      found k None e s z t = absurd (false≢true t)
      found k (Some v) e s z t = (k, v, record { returns = (ret_is_lem v.arguments (instruction P.code (a + 1))).0 t; listed = nth_listed P.units k v e; body = s; empty = z })

      at : (n : ℕ) → b ≡ n → h ≡ 0 → closing_by n ≡ true → Ending
      at zero s z t = absurd (false≢true t)
      at (suc k) s z t = found k (nth P.units k) refl s z t

      back : (k : ℕ) (v : UnitRecord) → Closes P a b h k v → closing_by b ≡ true
      back k v c = subst (λ (n : ℕ). closing_by n ≡ true) (sym c.body) (rw (listed_nth P.units k v c.listed, closing_by) ((ret_is_lem v.arguments (instruction P.code (a + 1))).1 c.returns))

  -- an offset of an argument or the result
  abbrev pub in_call : ℕ → ℤ → Bool
  in_call zero n = false
  in_call (suc k) n = elim (nth P.units k) [ None ↦ false | Some v ↦ le_z (pos 3) n && le_z n (pos (v.arguments + 2 + v.results)) ]

  in_call_lem : (c : ℕ) (n : ℤ) → Decides (in_call c n) (InCall P.units c n)
  in_call_lem zero n = never
  in_call_lem (suc k) n = (λ t. at (nth P.units k) refl t, λ q. rw (listed_nth P.units k q.0 q.1, in_call) (and_from (le_z (pos 3) n) (le_z n (pos (q.0.arguments + 2 + q.0.results))) ((most_is (pos 3) n).1 q.2) ((most_is n (pos (q.0.arguments + 2 + q.0.results))).1 q.3)))
    where
      at : (o : Option UnitRecord) → nth P.units k ≡ o → elim o [ None ↦ false | Some v ↦ le_z (pos 3) n && le_z n (pos (v.arguments + 2 + v.results)) ] ≡ true → InCall P.units (suc k) n
      at None e t = absurd (false≢true t)
      at (Some v) e t = let q = and_parts (le_z (pos 3) n) (le_z n (pos (v.arguments + 2 + v.results))) t in (v, nth_listed P.units k v e, (most_is (pos 3) n).0 q.0, (most_is n (pos (v.arguments + 2 + v.results))).0 q.1)

  abbrev pub is_in_frame : ℤ → Bool
  is_in_frame n = (lt_z (neg_ℤ (pos h)) n && le_z n (pos 0)) || in_call b n

  in_frame : (n : ℤ) → Decides (is_in_frame n) (InFrame P.units b h n)
  in_frame n = Decides-or (lt_z (neg_ℤ (pos h)) n && le_z n (pos 0)) (in_call b n) (Decides-and (lt_z (neg_ℤ (pos h)) n) (le_z n (pos 0)) (less_is (neg_ℤ (pos h)) n) (most_is n (pos 0))) (in_call_lem b n)

  module _ (i : Instruction) where
    abbrev pub unruled : Kind → Bool
    unruled Moves = false
    unruled Ruleless = true
    unruled Pushes = call_at && not (some_unit (enters i.argument) P.units)
    unruled Ends = not closing
    unruled Halts = false
    unruled Jumps = false
    unruled Branches = false
    unruled Frames = false
    unruled Counts = lt_z i.argument (pos 0)

    entered : Decides (some_unit (enters i.argument) P.units) (SomeUnit (λ v. i.argument ≡ pos v.entry) P.units)
    entered = some_unit_lem (enters i.argument) (λ v. i.argument ≡ pos v.entry) (λ v. equal_is i.argument (pos v.entry)) P.units

    unruled_is : (k : Kind) → Decides (unruled k) (Unruled P a b h i k)
    unfolding Ending
    unruled_is Moves = never
    unruled_is Ruleless = (λ t. tt, λ q. refl)
    unruled_is Pushes = Decides-and call_at (not (some_unit (enters i.argument) P.units)) call_is (Decides-like (not (some_unit (enters i.argument) P.units)) (λ (f : SomeUnit (λ v. i.argument ≡ pos v.entry) P.units → ⊥) k v l e. f (k, v, l, e)) (λ f q. f q.0 q.1 q.2 q.3) (Decides-not (some_unit (enters i.argument) P.units) entered))
    unruled_is Ends = Decides-like (not closing) (λ (f : Ending → ⊥) k v c. f (k, v, c)) (λ f q. f q.0 q.1 q.2) (Decides-not closing closing_is)
    unruled_is Halts = never
    unruled_is Jumps = never
    unruled_is Branches = never
    unruled_is Frames = never
    unruled_is Counts = less_is i.argument (pos 0)

    -- the entry is v's, and it wants more cells
    abbrev wants : UnitRecord → Bool
    wants v = enters i.argument v && ltb h (v.arguments + v.results)

    abbrev pub few : Kind → Bool
    few Moves = false
    few Ruleless = false
    few Pushes = call_at && some_unit wants P.units
    few Ends = false
    few Halts = false
    few Jumps = false
    few Branches = false
    few Frames = false
    few Counts = false

    Wanting : UnitRecord → Type 0
    Wanting v = (i.argument ≡ pos v.entry) × (h < v.arguments + v.results)

    wanted : Decides (some_unit wants P.units) (SomeUnit Wanting P.units)
    unfolding Wanting
    wanted = some_unit_lem wants Wanting (λ v. Decides-and (enters i.argument v) (ltb h (v.arguments + v.results)) (equal_is i.argument (pos v.entry)) (Decides-ltb h (v.arguments + v.results))) P.units

    few_is : (k : Kind) → Decides (few k) (FewForCall P a h i k)
    unfolding Wanting
    few_is Moves = never
    few_is Ruleless = never
    few_is Pushes = Decides-and call_at (some_unit wants P.units) call_is (Decides-like (some_unit wants P.units) (λ (q : SomeUnit Wanting P.units). (q.0, q.1, q.2, q.3.0, q.3.1)) (λ q. (q.0, q.1, q.2, (q.3, q.4))) wanted)
    few_is Ends = never
    few_is Halts = never
    few_is Jumps = never
    few_is Branches = never
    few_is Frames = never
    few_is Counts = never

    abbrev pub outside : Kind → Bool
    outside Moves = false
    outside Ruleless = false
    outside Pushes = false
    outside Ends = false
    outside Halts = false
    outside Jumps = false
    outside Branches = false
    outside Frames = not (is_in_frame i.argument)
    outside Counts = false

    outside_is : (k : Kind) → Decides (outside k) (Outside P b h i k)
    outside_is Moves = never
    outside_is Ruleless = never
    outside_is Pushes = never
    outside_is Ends = never
    outside_is Halts = never
    outside_is Jumps = never
    outside_is Branches = never
    outside_is Frames = Decides-not (is_in_frame i.argument) (in_frame i.argument)
    outside_is Counts = never

    -- does a cause hold?
    abbrev pub holds : CheckCause → Bool
    holds TableSize = false
    holds MemoryLength = false
    holds NoDivision = false
    holds BadEntry = false
    holds NoInstruction = false
    holds NoRule = unruled (kind i.op)
    holds ShallowDepth = ltb h (uses i) || few (kind i.op)
    holds OutsideFrame = outside (kind i.op)
    holds TooDeep = leb (uses i) h && ltb 1000 (h - uses i + gives i)
    holds DifferentWays = false

    pub holds_is : (c : CheckCause) → Decides (holds c) (Holding P a b h i c)
    holds_is TableSize = never
    holds_is MemoryLength = never
    holds_is NoDivision = never
    holds_is BadEntry = never
    holds_is NoInstruction = never
    holds_is NoRule = unruled_is (kind i.op)
    holds_is ShallowDepth = Decides-or (ltb h (uses i)) (few (kind i.op)) (Decides-ltb h (uses i)) (few_is (kind i.op))
    holds_is OutsideFrame = outside_is (kind i.op)
    holds_is TooDeep = Decides-and (leb (uses i) h) (ltb 1000 (h - uses i + gives i)) (leb_is (uses i) h) (Decides-ltb 1000 (h - uses i + gives i))
    holds_is DifferentWays = never

    -- the next instruction
    abbrev onward : List Successor
    onward = to (after a i) (h - uses i + gives i) ∷ []

    -- the way back from a call
    abbrev back : Option UnitRecord → List Successor
    back None = []
    back (Some v) = to (pos (a + 3)) (h - v.arguments) ∷ []

    abbrev pub nexts : Kind → List Successor
    nexts Moves = onward
    nexts Ruleless = []
    nexts Pushes = elim call_at [ true ↦ back (called i.argument P.units) | false ↦ onward ]
    nexts Ends = []
    nexts Halts = []
    nexts Jumps = to i.argument h ∷ []
    nexts Branches = to i.argument (h - 1) ∷ to (after a i) (h - 1) ∷ []
    nexts Frames = onward
    nexts Counts = onward

    -- does no cause hold?
    abbrev pub fits : Bool
    fits = not (holds NoRule) && (not (holds ShallowDepth) && (not (holds OutsideFrame) && not (holds TooDeep)))

    module _ (small : h ≤ 1000) (enough : uses i ≤ h) (low : h - uses i + gives i ≤ 1000) where
      Fit : Kind → Type 0
      Fit k = RuleOf P a b h i (nexts k) k × Low (nexts k)

      pushing : (uses i ≡ 0) × (gives i ≡ 1) → unruled Pushes ≡ false → few Pushes ≡ false → (t : Bool) → call_at ≡ t → Fit Pushes
      unfolding Fit Wanting
      pushing f u w true t =
          let q = called_some i.argument P.units (entered.0 (not-false (some_unit (enters i.argument) P.units) (rw t at u))) in
          let v = q.0 in
          let x = subst (λ (y : UnitRecord). Listed P.units q.2.0 y × (i.argument ≡ pos y.entry)) q.2.3.0 (q.2.2, q.2.3.1) in
          let d : h < v.arguments + v.results → ⊥ = λ l. not_from_Decides (some_unit wants P.units) wanted (rw t at w) (q.2.0, v, x.0, (x.1, l)) in
          let n : nexts Pushes ≡ to (pos (a + 3)) (h - v.arguments) ∷ [] = rw (t, nexts) (ap back q.1) in
          (inl (call_is.0 t, (q.2.0, v, record { listed = x.0; enters = x.1; deep = omega (arith, d); under = omega (arith, f.0, f.1); back = n })), subst Low (sym n) (omega arith, tt))
      pushing f u w false t = (inr (not_from_Decides call_at call_is t, (enough, rw (t, nexts) refl)), rw (t, nexts) (low, tt))

      fit : (k : Kind) → Fixed k (table i.op (count i.argument)) → unruled k ≡ false → few k ≡ false → outside k ≡ false → Fit k
      unfolding Fit Ending
      fit Moves f u w o = ((enough, refl), (low, tt))
      fit Ruleless f u w o = absurd (true≢false u)
      fit Pushes f u w o = pushing f u w call_at refl
      fit Ends f u w o = ((closing_is.0 (not-false closing u), refl), tt)
      fit Halts f u w o = (refl, tt)
      fit Jumps f u w o = (refl, (small, tt))
      fit Branches f u w o = ((omega (arith, f.0), refl), (omega arith, (omega arith, tt)))
      fit Frames f u w o = (((in_frame i.argument).0 (not-false (is_in_frame i.argument) o), (enough, refl)), (low, tt))
      fit Counts f u w o = ((lt_z_no (to_t (not (lt_z i.argument (pos 0))) (not_from_false (lt_z i.argument (pos 0)) u)), (enough, refl)), (low, tt))

    -- where no cause holds, the rule fits
    pub fits_rule : h ≤ 1000 → fits ≡ true → Rule P a b h i (nexts (kind i.op)) × Low (nexts (kind i.op))
    unfolding Fit
    fits_rule small t =
        let q = and_parts (not (holds NoRule)) (not (holds ShallowDepth) && (not (holds OutsideFrame) && not (holds TooDeep))) t in
        let r = and_parts (not (holds ShallowDepth)) (not (holds OutsideFrame) && not (holds TooDeep)) q.1 in
        let w = and_parts (not (holds OutsideFrame)) (not (holds TooDeep)) r.1 in
        let x = or_parts (ltb h (uses i)) (few (kind i.op)) (not-true (holds ShallowDepth) r.0) in
        let e : uses i ≤ h = ltb-false h (uses i) x.0 in
        let d : 1000 < h - uses i + gives i → ⊥ = λ l. not_from_Decides (holds TooDeep) (holds_is TooDeep) (not-true (holds TooDeep) w.1) (e, l) in
        fit small e (omega (arith, d)) (kind i.op) (fixed i.op (count i.argument)) (not-true (holds NoRule) q.0) x.1 (not-true (holds OutsideFrame) w.0)

    -- where one holds, it is one of four
    pub unfit : fits ≡ false → (c : CheckCause) × (holds c ≡ true)
    unfit t = at (and_cases (not (holds NoRule)) (not (holds ShallowDepth) && (not (holds OutsideFrame) && not (holds TooDeep))) t)
      where
        last : (not (holds OutsideFrame) ≡ false) ⊎ (not (holds TooDeep) ≡ false) → (c : CheckCause) × (holds c ≡ true)
        last (inl e) = (OutsideFrame, not-false (holds OutsideFrame) e)
        last (inr e) = (TooDeep, not-false (holds TooDeep) e)

        more : (not (holds ShallowDepth) ≡ false) ⊎ ((not (holds OutsideFrame) && not (holds TooDeep)) ≡ false) → (c : CheckCause) × (holds c ≡ true)
        more (inl e) = (ShallowDepth, not-false (holds ShallowDepth) e)
        more (inr e) = last (and_cases (not (holds OutsideFrame)) (not (holds TooDeep)) e)

        at : (not (holds NoRule) ≡ false) ⊎ ((not (holds ShallowDepth) && (not (holds OutsideFrame) && not (holds TooDeep))) ≡ false) → (c : CheckCause) × (holds c ≡ true)
        at (inl e) = (NoRule, not-false (holds NoRule) e)
        at (inr e) = more (and_cases (not (holds ShallowDepth)) (not (holds OutsideFrame) && not (holds TooDeep)) e)

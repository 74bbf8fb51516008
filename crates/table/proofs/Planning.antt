-- A plan of the ends of all walks, and a test that it is lawful.
use Rattle.std.proofs.Common.{◌≡◌, ℕ, suc, ◌+◌, ◌≤◌, Bool, true, false, ◌&&◌, eqb, leb, List, [], ◌∷◌, ℤ, pos, negsuc, Some, None, Option, refl, ap, ◌∙◌, subst, inl, inr, arith}
use Rattle.std.specs.List.{AllByRecursion}
use Rattle.std.proofs.lemmas.Bool.{false≢true, eqb-true, leb-true, and_parts}
use Rattle.program.specs.declared.unit.Unit.{Unit as UnitRecord}
use Rattle.isa.specs.declared.instruction.Instruction.{Instruction}
use Rattle.isa.specs.Code.{instruction}
use Rattle.plan.specs.declared.planned.Planned.{Planned}
use Rattle.plan.specs.declared.successor.Successor.{Successor}
use Rattle.plan.specs.Kinds.{kind}
use Rattle.plan.specs.Programs.{Program, Sits}
use Rattle.plan.specs.Rules.{Steps}
use Rattle.plan.specs.Lawful.{Plan, planned, Has, Holds, Root, main, unit, Lawful}
use Rattle.plan.specs.Walks.{In}
use Rattle.plan.specs.Causes.{Sound}
use Rattle.plan.proofs.Walking.{due_not}
use Rattle.table.specs.Verdicts.{Passes}
use Rattle.table.proofs.Deciding.{each_unit, each_unit_lem, nexts, fits, fits_rule}
use Rattle.table.proofs.Standing.{sits, sits_is, sound, sound_is}
use Rattle.table.proofs.Tracing.{End, each, each_in, ends}

-- the plan of a list of ends
abbrev pub place_in : List End → Plan
place_in [] a = None
place_in (x ∷ xs) a = elim (eqb x.at a) [ true ↦ Some (planned x.body x.depth) | false ↦ place_in xs a ]

-- an end at a, with the body b and the depth h
At : List End → ℕ → ℕ → ℕ → Type 0
At S a b h = (x : End) × In S x × (x.at ≡ a) × (planned x.body x.depth ≡ planned b h)

abbrev or_planned : Option Planned → Planned → Planned
or_planned None d = d
or_planned (Some q) d = q

place_at : (S : List End) (a b h : ℕ) → place_in S a ≡ Some (planned b h) → At S a b h
unfolding At
place_at [] a b h e = let z : ◌≡◌ {A = ℕ} 0 1 = cc in absurd (omega arith)
place_at (x ∷ xs) a b h e = by (eqb x.at a) refl e (place_at xs a b h)
  where
    by : (t : Bool) → eqb x.at a ≡ t → elim t [ true ↦ Some (planned x.body x.depth) | false ↦ place_in xs a ] ≡ Some (planned b h) → (place_in xs a ≡ Some (planned b h) → At xs a b h) → At (x ∷ xs) a b h
    by true t e more = (x, inl refl, eqb-true x.at a t, ap (λ (o : Option Planned). or_planned o (planned b h)) e)
    by false t e more = let q = more e in (q.0, inr q.1, q.2, q.3)

-- is it this pair?
abbrev is_pair : ℕ → ℕ → Option Planned → Bool
is_pair b h None = false
is_pair b h (Some q) = eqb q.body b && eqb q.depth h

pair_is : (b h : ℕ) (o : Option Planned) → is_pair b h o ≡ true → o ≡ Some (planned b h)
pair_is b h None t = absurd (false≢true t)
pair_is b h (Some q) t = let r = and_parts (eqb q.body b) (eqb q.depth h) t in ap (λ (m : ℕ). Some (planned m q.depth)) (eqb-true q.body b r.0) ∙ ap (λ (m : ℕ). Some (planned b m)) (eqb-true q.depth h r.1)

each_all : {X : Type 0} (Q : X → Type 0) (f : X → Bool) → ((x : X) → f x ≡ true → Q x) → (xs : List X) → each f xs ≡ true → AllByRecursion Q xs
each_all Q f g [] t = tt
each_all Q f g (x ∷ xs) t = let q = and_parts (f x) (each f xs) t in (g x q.0, each_all Q f g xs q.1)

module _ (P : Program) (S : List End) where
  abbrev has : ℕ → ℕ → ℕ → Bool
  has a b h = is_pair b h (place_in S a)

  -- the plan has a successor
  abbrev goes : ℕ → Successor → Bool
  goes b s = elim s.address [ pos t ↦ has t b s.depth | negsuc t ↦ false ]

  abbrev ruled_by : End → Option Instruction → Bool
  ruled_by x None = false
  ruled_by x (Some i) = fits P x.at x.body x.depth i && each (goes x.body) (nexts P x.at x.body x.depth i (kind i.op))

  abbrev lawful_at : End → Bool
  lawful_at x = sits P x.at && (leb x.depth 1000 && ruled_by x (instruction P.code x.at))

  abbrev starts : ℕ → UnitRecord → Bool
  starts k v = has (v.entry + 3) (suc k) 0

  -- is the plan lawful?
  abbrev pub passing : Bool
  passing = sound P && (has 0 0 0 && (each_unit starts 0 P.units && each lawful_at S))

  goes_holds : (b : ℕ) (s : Successor) → goes b s ≡ true → Holds (place_in S) b s
  goes_holds b s t = at s.address refl t
    where
      at : (z : ℤ) → s.address ≡ z → elim z [ pos c ↦ has c b s.depth | negsuc c ↦ false ] ≡ true → Holds (place_in S) b s
      at (pos c) e f = (c, e, pair_is b s.depth (place_in S c) f)
      at (negsuc c) e f = absurd (false≢true f)

  -- what a lawful plan asks at a place
  Asked : ℕ → ℕ → ℕ → Type 0
  Asked a b h = ((ss : List Successor) × Steps P a b h ss × AllByRecursion (Holds (place_in S) b) ss) × ((h ≤ 1000) × Sits P a)

  asked : (x : End) → lawful_at x ≡ true → Asked x.at x.body x.depth
  unfolding Asked
  asked x t =
      let q = and_parts (sits P x.at) (leb x.depth 1000 && ruled_by x (instruction P.code x.at)) t in
      let r = and_parts (leb x.depth 1000) (ruled_by x (instruction P.code x.at)) q.1 in
      let l = leb-true x.depth 1000 r.0 in
      (at l (instruction P.code x.at) refl r.1, (l, sits_is P x.at q.0))
    where
      at : x.depth ≤ 1000 → (o : Option Instruction) → instruction P.code x.at ≡ o → ruled_by x o ≡ true → (ss : List Successor) × Steps P x.at x.body x.depth ss × AllByRecursion (Holds (place_in S) x.body) ss
      at l None e f = absurd (false≢true f)
      at l (Some i) e f =
          let ss = nexts P x.at x.body x.depth i (kind i.op) in
          let g = and_parts (fits P x.at x.body x.depth i) (each (goes x.body) ss) f in
          let r = fits_rule P x.at x.body x.depth i l g.0 in
          (ss, record { what = i; is = e; rule = r.0; low = r.1 }, each_all (Holds (place_in S) x.body) (goes x.body) (goes_holds x.body) ss g.1)

  pub passing_lawful : passing ≡ true → Lawful P (place_in S)
  unfolding At Asked
  passing_lawful t = record { divides = good.divided; units = good.opened; roots = roots; rules = λ a b h e. (every a b h e).0; places = λ a b h e. (every a b h e).1 }
    where
      q : (sound P ≡ true) × ((has 0 0 0 && (each_unit starts 0 P.units && each lawful_at S)) ≡ true)
      q = and_parts (sound P) (has 0 0 0 && (each_unit starts 0 P.units && each lawful_at S)) t

      r : (has 0 0 0 ≡ true) × ((each_unit starts 0 P.units && each lawful_at S) ≡ true)
      r = and_parts (has 0 0 0) (each_unit starts 0 P.units && each lawful_at S) q.1

      s : (each_unit starts 0 P.units ≡ true) × (each lawful_at S ≡ true)
      s = and_parts (each_unit starts 0 P.units) (each lawful_at S) r.1

      good : Sound P
      good = sound_is P q.0

      roots : (a b : ℕ) → Root P a b → Has (place_in S) a b 0
      roots a b main = pair_is 0 0 (place_in S 0) r.0
      roots a b (unit k v l) = let z : 0 + k ≡ k = omega arith in pair_is (suc k) 0 (place_in S (v.entry + 3)) (subst (λ (n : ℕ). starts n v ≡ true) z (each_unit_lem starts 0 P.units s.0 k v l))

      every : (a b h : ℕ) → Has (place_in S) a b h → Asked a b h
      every a b h e =
          let x = place_at S a b h e in
          subst (λ (y : Planned). Asked a y.body y.depth) x.3 (subst (λ (n : ℕ). Asked n x.0.body x.0.depth) x.2 (asked x.0 (each_in lawful_at S s.1 x.0 x.1)))

-- does the plan of the ends of all walks pass?
abbrev pub passed : Program → Bool
passed P = passing P (ends P)

pub passes : (P : Program) → passed P ≡ true → Passes P
passes P t = let law = passing_lawful P (ends P) t in record { lawful = (place_in (ends P), law); none = due_not P (place_in (ends P)) law }

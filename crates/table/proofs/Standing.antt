-- Tests that compute: whether the code divides, the units are good, and an address may have a place.
use Rattle.std.proofs.Common.{◌≡◌, ℕ, zero, suc, ◌+◌, ◌<◌, ◌≤◌, Bool, true, false, not, ◌&&◌, ◌||◌, eqb, ltb, leb, ◌⊎◌, List, length, ℤ, Some, None, Option, sym, refl, subst, inl, inr, arith}
use Rattle.std.proofs.lemmas.Bool.{false≢true, eqb-true, eqb-false, eq-eqb, ltb-true, lt-ltb, le-leb, and_parts, and_from, or_cases, not-true, both_ways}
use Rattle.std.proofs.lemmas.Bool.Decides.{Decides-not, Decides-and, Decides-ltb}
use Rattle.program.specs.declared.unit.Unit.{Unit as UnitRecord}
use Rattle.isa.specs.declared.opcode.Opcode.TheVariants.{Loadfp, Loadsp, Storefp}
use Rattle.isa.specs.declared.instruction.Instruction.{Instruction}
use Rattle.isa.specs.Code.{instruction, Divides, first, next}
use Rattle.isa.specs.Table.{size}
use Rattle.plan.specs.Programs.{Program, opcode_in, Listed, Opens, Sits}
use Rattle.plan.specs.Causes.{Sound}
use Rattle.plan.proofs.Dividing.{size_pos, divides_order, divides_le}
use Rattle.table.proofs.Deciding.{op_is, op_is_lem, leb_is, each_unit, each_unit_lem, unit_each}

-- does the division come from x to t, over at most n instructions?
abbrev pub comes : List ℤ → ℕ → ℕ → ℕ → Bool
comes code t zero x = eqb x t
comes code t (suc n) x = elim (eqb x t) [ true ↦ true | false ↦ elim (instruction code x) [ None ↦ false | Some i ↦ comes code t n (x + size i.op) ] ]

module _ (code : List ℤ) (t : ℕ) where
  comes_divides : (n x : ℕ) → Divides code x → comes code t n x ≡ true → Divides code t
  comes_divides zero x d e = subst (λ (y : ℕ). Divides code y) (eqb-true x t e) d
  comes_divides (suc n) x d e = at (eqb x t) refl e (λ y f g. comes_divides n y f g)
    where
      on : (o : Option Instruction) → instruction code x ≡ o → elim o [ None ↦ false | Some i ↦ comes code t n (x + size i.op) ] ≡ true → ((y : ℕ) → Divides code y → comes code t n y ≡ true → Divides code t) → Divides code t
      on None s f more = absurd (false≢true f)
      on (Some i) s f more = more (x + size i.op) (next x i d s) f

      at : (b : Bool) → eqb x t ≡ b → elim b [ true ↦ true | false ↦ elim (instruction code x) [ None ↦ false | Some i ↦ comes code t n (x + size i.op) ] ] ≡ true → ((y : ℕ) → Divides code y → comes code t n y ≡ true → Divides code t) → Divides code t
      at true s f more = subst (λ (y : ℕ). Divides code y) (eqb-true x t s) d
      at false s f more = on (instruction code x) refl f more

  comes_all : (n x : ℕ) → Divides code x → Divides code t → x ≤ t → t ≤ x + n → comes code t n x ≡ true
  comes_all zero x d e l m = eq-eqb x t (omega arith)
  comes_all (suc n) x d e l m = at (eqb x t) refl (λ y f g h. comes_all n y f e g h)
    where
      at : (b : Bool) → eqb x t ≡ b → ((y : ℕ) → Divides code y → y ≤ t → t ≤ y + n → comes code t n y ≡ true) → elim b [ true ↦ true | false ↦ elim (instruction code x) [ None ↦ false | Some i ↦ comes code t n (x + size i.op) ] ] ≡ true
      at true s more = refl
      at false s more =
          let ne = eqb-false x t s in
          let o = divides_order code x t d e (omega (arith, ne)) in
          subst (λ (z : Option Instruction). elim z [ None ↦ false | Some i ↦ comes code t n (x + size i.op) ] ≡ true) (sym o.1) (more (x + size o.0.op) (next x o.0 d o.1) o.2 (omega (arith, size_pos o.0.op)))

  -- does an instruction begin at t, or the code end there?
  abbrev pub begins : Bool
  begins = comes code t (length code) 0

  pub begins_divides : begins ≡ true → Divides code t
  begins_divides e = comes_divides (length code) 0 first e

  divides_begins : Divides code t → begins ≡ true
  divides_begins d = comes_all (length code) 0 first d (omega arith) (omega (arith, divides_le code t d))

module _ (P : Program) where
  abbrev apart : ℕ → ℕ → UnitRecord → Bool
  apart a k v = not (leb v.entry a && ltb a (v.entry + 3))

  -- may the address have a place?
  abbrev pub sits : ℕ → Bool
  sits a = begins P.code a && (ltb a (length P.code) && each_unit (apart a) 0 P.units)

  pub sits_is : (a : ℕ) → sits a ≡ true → Sits P a
  sits_is a e = record { divides = begins_divides P.code a q.0; inside = ltb-true a (length P.code) r.0; out = λ o. out o.0 o.1 o.2 o.3 o.4 }
    where
      q : (begins P.code a ≡ true) × ((ltb a (length P.code) && each_unit (apart a) 0 P.units) ≡ true)
      q = and_parts (begins P.code a) (ltb a (length P.code) && each_unit (apart a) 0 P.units) e

      r : (ltb a (length P.code) ≡ true) × (each_unit (apart a) 0 P.units ≡ true)
      r = and_parts (ltb a (length P.code)) (each_unit (apart a) 0 P.units) q.1

      out : (k : ℕ) (v : UnitRecord) → Listed P.units k v → v.entry ≤ a → a < v.entry + 3 → ⊥
      out k v l x y = both_ways (leb v.entry a && ltb a (v.entry + 3)) (not-true (leb v.entry a && ltb a (v.entry + 3)) (each_unit_lem (apart a) 0 P.units r.1 k v l)) (and_from (leb v.entry a) (ltb a (v.entry + 3)) (le-leb v.entry a x) (lt-ltb a (v.entry + 3) y))

  pub sits_all : (a : ℕ) → Sits P a → sits a ≡ true
  sits_all a s =
      and_from (begins P.code a) (ltb a (length P.code) && each_unit (apart a) 0 P.units) (divides_begins P.code a s.divides)
      (and_from (ltb a (length P.code)) (each_unit (apart a) 0 P.units) (lt-ltb a (length P.code) s.inside)
      (unit_each (apart a) 0 P.units λ k v l. (Decides-not (leb v.entry a && ltb a (v.entry + 3)) (Decides-and (leb v.entry a) (ltb a (v.entry + 3)) (leb_is v.entry a) (Decides-ltb a (v.entry + 3)))).1 (λ q. s.out (k, v, l, q.0, q.1))))

  -- has only the k-th unit the entry e?
  abbrev sole : ℕ → ℕ → ℕ → UnitRecord → Bool
  sole k e j w = not (eqb w.entry e) || eqb j k

  -- is the k-th unit good?
  abbrev good : ℕ → UnitRecord → Bool
  good k v = begins P.code v.entry && (op_is Loadfp (opcode_in P.code v.entry) && (op_is Loadsp (opcode_in P.code (v.entry + 1)) && (op_is Storefp (opcode_in P.code (v.entry + 2)) && each_unit (sole k v.entry) 0 P.units)))

  good_is : (k : ℕ) (v : UnitRecord) → good k v ≡ true → Opens P k v
  good_is k v t =
      let q = and_parts (begins P.code v.entry) (op_is Loadfp (opcode_in P.code v.entry) && (op_is Loadsp (opcode_in P.code (v.entry + 1)) && (op_is Storefp (opcode_in P.code (v.entry + 2)) && each_unit (sole k v.entry) 0 P.units))) t in
      let r = and_parts (op_is Loadfp (opcode_in P.code v.entry)) (op_is Loadsp (opcode_in P.code (v.entry + 1)) && (op_is Storefp (opcode_in P.code (v.entry + 2)) && each_unit (sole k v.entry) 0 P.units)) q.1 in
      let s = and_parts (op_is Loadsp (opcode_in P.code (v.entry + 1))) (op_is Storefp (opcode_in P.code (v.entry + 2)) && each_unit (sole k v.entry) 0 P.units) r.1 in
      let u = and_parts (op_is Storefp (opcode_in P.code (v.entry + 2))) (each_unit (sole k v.entry) 0 P.units) s.1 in
      record {
        divides = begins_divides P.code v.entry q.0;
        opening = record { one = (op_is_lem Loadfp (opcode_in P.code v.entry)).0 r.0; two = (op_is_lem Loadsp (opcode_in P.code (v.entry + 1))).0 s.0; three = (op_is_lem Storefp (opcode_in P.code (v.entry + 2))).0 u.0 };
        alone = λ j w l e. alone j w e (or_cases (not (eqb w.entry v.entry)) (eqb (0 + j) k) (each_unit_lem (sole k v.entry) 0 P.units u.1 j w l));
      }
    where
      alone : (j : ℕ) (w : UnitRecord) → w.entry ≡ v.entry → (not (eqb w.entry v.entry) ≡ true) ⊎ (eqb (0 + j) k ≡ true) → j ≡ k
      alone j w e (inl t) = absurd (both_ways (eqb w.entry v.entry) (not-true (eqb w.entry v.entry) t) (eq-eqb w.entry v.entry e))
      alone j w e (inr t) = omega (arith, eqb-true (0 + j) k t)

  -- does the code divide, and is every unit good?
  abbrev pub sound : Bool
  sound = begins P.code (length P.code) && each_unit good 0 P.units

  pub sound_is : sound ≡ true → Sound P
  sound_is t = let q = and_parts (begins P.code (length P.code)) (each_unit good 0 P.units) t in record { divided = begins_divides P.code (length P.code) q.0; opened = λ k v l. let z : 0 + k ≡ k = omega arith in good_is k v (subst (λ (n : ℕ). good n v ≡ true) z (each_unit_lem good 0 P.units q.1 k v l)) }

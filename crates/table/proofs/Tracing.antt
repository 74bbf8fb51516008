-- The ends of all walks, as a list: a test that a list is closed, and what it says of every walk.
use Rattle.std.proofs.Common.{◌≡◌, ℕ, zero, suc, ◌+◌, ◌≤◌, Bool, true, false, not, ◌&&◌, ◌||◌, eqb, leb, ◌⊎◌, List, [], ◌∷◌, ◌++◌, length, ℤ, pos, negsuc, Some, None, Option, sym, refl, ap, ◌∙◌, subst, inl, inr, arith}
use Rattle.std.specs.List.{flat_map, AllByRecursion}
use Rattle.std.proofs.lemmas.Bool.{false≢true, eqb-true, eq-eqb, leb-true, and_parts, or_cases, or_left, or_right, not-true, both_ways}
use Rattle.std.proofs.ByRecursion.{All-append}
use Rattle.program.specs.Names.{same}
use Rattle.program.specs.declared.unit.Unit.{Unit as UnitRecord}
use Rattle.isa.specs.declared.instruction.Instruction.{Instruction}
use Rattle.isa.specs.Code.{instruction}
use Rattle.plan.specs.declared.successor.Successor.{Successor}
use Rattle.plan.specs.Kinds.{kind}
use Rattle.plan.specs.Programs.{Program, Listed, Sits}
use Rattle.plan.specs.Rules.{Steps}
use Rattle.plan.specs.Lawful.{Root, main, unit}
use Rattle.plan.specs.Walks.{In, Walk, root, on}
use Rattle.plan.specs.Causes.{Sound}
use Rattle.plan.proofs.Walking.{pos_same, rule_same, holding_not, walk_low}
use Rattle.table.proofs.Deciding.{each_unit, each_unit_lem, holds_is, nexts, fits, fits_rule, unfit}
use Rattle.table.proofs.Standing.{sits, sits_is, sits_all}

-- the end of a walk: the addresses before it, newest first, its address, body and depth
pub record End : Type 0 where
  pub before : List ℕ
  pub at : ℕ
  pub body : ℕ
  pub depth : ℕ

abbrev pub end : List ℕ → ℕ → ℕ → ℕ → End
end ws a b h = record { before = ws; at = a; body = b; depth = h }

abbrev pub is_same_end : End → End → Bool
is_same_end x y = same x.before y.before && (eqb x.at y.at && (eqb x.body y.body && eqb x.depth y.depth))

same_is : (xs ys : List ℕ) → same xs ys ≡ true → xs ≡ ys
same_is [] [] t = refl
same_is [] (y ∷ ys) t = absurd (false≢true t)
same_is (x ∷ xs) [] t = absurd (false≢true t)
same_is (x ∷ xs) (y ∷ ys) t = by (eqb x y) refl t (same_is xs ys)
  where
    by : (b : Bool) → eqb x y ≡ b → elim b [ true ↦ same xs ys | false ↦ false ] ≡ true → (same xs ys ≡ true → xs ≡ ys) → x ∷ xs ≡ y ∷ ys
    by true s f more = let p = eqb-true x y s in let q = more f in cc
    by false s f more = absurd (false≢true f)

same_end : (x y : End) → is_same_end x y ≡ true → x ≡ y
same_end x y t =
    let q = and_parts (same x.before y.before) (eqb x.at y.at && (eqb x.body y.body && eqb x.depth y.depth)) t in
    let r = and_parts (eqb x.at y.at) (eqb x.body y.body && eqb x.depth y.depth) q.1 in
    let s = and_parts (eqb x.body y.body) (eqb x.depth y.depth) r.1 in
    ap (λ (z : List ℕ). end z x.at x.body x.depth) (same_is x.before y.before q.0)
    ∙ (ap (λ (z : ℕ). end y.before z x.body x.depth) (eqb-true x.at y.at r.0)
    ∙ (ap (λ (z : ℕ). end y.before y.at z x.depth) (eqb-true x.body y.body s.0)
    ∙ ap (λ (z : ℕ). end y.before y.at y.body z) (eqb-true x.depth y.depth s.1)))

pub or_not : (x y : Bool) → (not x || y) ≡ true → x ≡ true → y ≡ true
or_not true y t e = t
or_not false y t e = absurd (false≢true e)

-- does a test pass at some element, at each?
abbrev pub some : {X : Type 0} → (X → Bool) → List X → Bool
some f [] = false
some f (x ∷ xs) = f x || some f xs

abbrev pub each : {X : Type 0} → (X → Bool) → List X → Bool
each f [] = true
each f (x ∷ xs) = f x && each f xs

pub some_in : {X : Type 0} (f : X → Bool) (xs : List X) → some f xs ≡ true → (x : X) × In xs x × (f x ≡ true)
some_in f [] t = absurd (false≢true t)
some_in {X} f (x ∷ xs) t = at (or_cases (f x) (some f xs) t) (some_in f xs)
  where
    at : (f x ≡ true) ⊎ (some f xs ≡ true) → (some f xs ≡ true → (y : X) × In xs y × (f y ≡ true)) → (y : X) × In (x ∷ xs) y × (f y ≡ true)
    at (inl e) more = (x, inl refl, e)
    at (inr e) more = let q = more e in (q.0, inr q.1, q.2)

pub each_in : {X : Type 0} (f : X → Bool) (xs : List X) → each f xs ≡ true → (x : X) → In xs x → f x ≡ true
each_in f [] t x i = absurd i
each_in f (y ∷ ys) t x (inl e) = subst (λ z. f z ≡ true) e (and_parts (f y) (each f ys) t).0
each_in f (y ∷ ys) t x (inr i) = each_in f ys (and_parts (f y) (each f ys) t).1 x i

abbrev pub member : List End → End → Bool
member xs x = some (λ y. is_same_end y x) xs

pub member_in : (xs : List End) (x : End) → member xs x ≡ true → In xs x
member_in xs x t = let q = some_in (λ y. is_same_end y x) xs t in subst (λ (z : End). In xs z) (same_end q.0 x q.2) q.1

-- is a number among others?
abbrev pub seen : ℕ → List ℕ → Bool
seen a ws = some (λ w. eqb w a) ws

seen_in : (a : ℕ) (ws : List ℕ) → seen a ws ≡ true → In ws a
seen_in a ws t = let q = some_in (λ w. eqb w a) ws t in subst (λ (z : ℕ). In ws z) (eqb-true q.0 a q.2) q.1

in_seen : (a : ℕ) (ws : List ℕ) → In ws a → seen a ws ≡ true
in_seen a [] i = absurd i
in_seen a (w ∷ ws) (inl e) = or_left (eqb w a) (seen a ws) (eq-eqb w a e)
in_seen a (w ∷ ws) (inr i) = or_right (eqb w a) (seen a ws) (in_seen a ws i)

module _ (P : Program) where
  -- the successors of a place whose rule fits
  abbrev leaving : ℕ → ℕ → ℕ → Option Instruction → List Successor
  leaving a b h None = []
  leaving a b h (Some i) = elim (fits P a b h i) [ true ↦ nexts P a b h i (kind i.op) | false ↦ [] ]

  abbrev pub successors : ℕ → ℕ → ℕ → List Successor
  successors a b h = leaving a b h (instruction P.code a)

  -- a successor in the list, after a walk over ws
  abbrev arriving : List End → List ℕ → ℕ → Successor → Bool
  arriving S ws b s = elim s.address [ pos t ↦ member S (end ws t b s.depth) | negsuc t ↦ false ]

  -- what a walk comes to from an end is in the list
  abbrev kept : List End → End → Bool
  kept S x = leb x.depth 1000 && (not (sits P x.at) || (seen x.at x.before || each (arriving S (x.at ∷ x.before) x.body) (successors x.at x.body x.depth)))

  abbrev rooted : List End → ℕ → UnitRecord → Bool
  rooted S k v = member S (end [] (v.entry + 3) (suc k) 0)

  -- is the list closed?
  abbrev pub closed : List End → Bool
  closed S = member S (end [] 0 0 0) && (each_unit (rooted S) 0 P.units && each (kept S) S)

  -- a list that is closed has the end of every walk
  module _ (S : List End) (good : Sound P) (t : closed S ≡ true) where
    roots : (each_unit (rooted S) 0 P.units ≡ true) × (each (kept S) S ≡ true)
    roots = and_parts (each_unit (rooted S) 0 P.units) (each (kept S) S) (and_parts (member S (end [] 0 0 0)) (each_unit (rooted S) 0 P.units && each (kept S) S) t).1

    goes : (x : End) → In S x → (leb x.depth 1000 ≡ true) × ((not (sits P x.at) || (seen x.at x.before || each (arriving S (x.at ∷ x.before) x.body) (successors x.at x.body x.depth))) ≡ true)
    goes x i = and_parts (leb x.depth 1000) _ (each_in (kept S) S roots.1 x i)

    pub end_low : (x : End) → In S x → x.depth ≤ 1000
    end_low x i = leb-true x.depth 1000 (goes x i).0

    arrived : (ws : List ℕ) (b : ℕ) (s : Successor) (z : ℤ) → s.address ≡ z → elim z [ pos c ↦ member S (end ws c b s.depth) | negsuc c ↦ false ] ≡ true → (c : ℕ) × (s.address ≡ pos c) × In S (end ws c b s.depth)
    arrived ws b s (pos c) e f = (c, e, member_in S (end ws c b s.depth) f)
    arrived ws b s (negsuc c) e f = absurd (false≢true f)

    step_in : (ws : List ℕ) (a b h : ℕ) (ss : List Successor) (s : Successor) → In S (end ws a b h) → (In ws a → ⊥) → Sits P a → Steps P a b h ss → In ss s → (c : ℕ) × (s.address ≡ pos c) × In S (end (a ∷ ws) c b s.depth)
    step_in ws a b h ss s x n sit st i = past (or_cases (seen a ws) (each (arriving S (a ∷ ws) b) (successors a b h)) (or_not (sits P a) _ (goes (end ws a b h) x).1 (sits_all P a sit)))
      where
        small : h ≤ 1000
        small = end_low (end ws a b h) x

        by : (f : Bool) → fits P a b h st.what ≡ f → each (arriving S (a ∷ ws) b) (elim f [ true ↦ nexts P a b h st.what (kind st.what.op) | false ↦ [] ]) ≡ true → (c : ℕ) × (s.address ≡ pos c) × In S (end (a ∷ ws) c b s.depth)
        by true f e =
            let r = rule_same P good.opened a b h st.what ss (nexts P a b h st.what (kind st.what.op)) (kind st.what.op) st.rule (fits_rule P a b h st.what small f).0 in
            arrived (a ∷ ws) b s s.address refl (each_in (arriving S (a ∷ ws) b) (nexts P a b h st.what (kind st.what.op)) e s (subst (λ (z : List Successor). In z s) r i))
        by false f e = let q = unfit P a b h st.what f in absurd (holding_not P good.opened a b h small st.what ss q.0 ((holds_is P a b h st.what q.0).0 q.1) st.rule st.low)

        past : (seen a ws ≡ true) ⊎ (each (arriving S (a ∷ ws) b) (successors a b h) ≡ true) → (c : ℕ) × (s.address ≡ pos c) × In S (end (a ∷ ws) c b s.depth)
        past (inl e) = absurd (n (seen_in a ws e))
        past (inr e) = by (fits P a b h st.what) refl (subst (λ (o : Option Instruction). each (arriving S (a ∷ ws) b) (leaving a b h o) ≡ true) st.is e)

    root_in : (a b : ℕ) → Root P a b → In S (end [] a b 0)
    root_in a b main = member_in S (end [] 0 0 0) (and_parts (member S (end [] 0 0 0)) (each_unit (rooted S) 0 P.units && each (kept S) S) t).0
    root_in a b (unit k v l) = let z : 0 + k ≡ k = omega arith in member_in S (end [] (v.entry + 3) (suc k) 0) (subst (λ (n : ℕ). rooted S n v ≡ true) z (each_unit_lem (rooted S) 0 P.units roots.0 k v l))

    pub walk_in : (ws : List ℕ) (z : ℤ) (b h : ℕ) → Walk P ws z b h → (a : ℕ) × (z ≡ pos a) × In S (end ws a b h)
    walk_in ws z b h (root a c r) = (a, refl, root_in a c r)
    walk_in ws z b h (on xs a c k ss s w n sit st i) =
        let u = walk_in xs (pos a) c k w in
        let e : u.0 ≡ a = sym (pos_same a u.0 u.1) in
        step_in xs a c k ss s (subst (λ (y : ℕ). In S (end xs y c k)) e u.2) n sit st i

  -- an end that a walk has
  abbrev pub Ended : End → Type 0
  Ended x = Walk P x.before (pos x.at) x.body x.depth

  -- the ends of the walks that go on from a place, over at most n addresses
  abbrev trace : ℕ → List ℕ → ℕ → ℕ → ℕ → List End
  trace zero ws a b h = []
  trace (suc n) ws a b h =
      end ws a b h
      ∷ elim (sits P a && not (seen a ws)) [ false ↦ [] | true ↦ flat_map (λ s. elim s.address [ pos t ↦ trace n (a ∷ ws) t b s.depth | negsuc t ↦ [] ]) (successors a b h) ]

  all_joined : {X Y : Type 0} (Q : Y → Type 0) (f : X → List Y) (xs : List X) → ((x : X) → In xs x → AllByRecursion Q (f x)) → AllByRecursion Q (flat_map f xs)
  all_joined Q f [] g = tt
  all_joined Q f (x ∷ xs) g = All-append Q (f x) (flat_map f xs) (g x (inl refl)) (all_joined Q f xs (λ y i. g y (inr i)))

  successors_step : (a b h : ℕ) (s : Successor) → h ≤ 1000 → In (successors a b h) s → Steps P a b h (successors a b h)
  successors_step a b h s small i = at (instruction P.code a) refl i
    where
      by : (j : Instruction) → instruction P.code a ≡ Some j → (f : Bool) → fits P a b h j ≡ f → In (elim f [ true ↦ nexts P a b h j (kind j.op) | false ↦ [] ]) s → Steps P a b h (elim f [ true ↦ nexts P a b h j (kind j.op) | false ↦ [] ])
      by j e true f i = let r = fits_rule P a b h j small f in record { what = j; is = e; rule = r.0; low = r.1 }
      by j e false f i = absurd i

      at : (o : Option Instruction) → instruction P.code a ≡ o → In (leaving a b h o) s → Steps P a b h (leaving a b h o)
      at None e i = absurd i
      at (Some j) e i = by j e (fits P a b h j) refl i

  trace_walks : (n : ℕ) (ws : List ℕ) (a b h : ℕ) → Walk P ws (pos a) b h → AllByRecursion Ended (trace n ws a b h)
  trace_walks zero ws a b h w = tt
  trace_walks (suc n) ws a b h w = (w, at (sits P a && not (seen a ws)) refl (λ vs c d k x. trace_walks n vs c d k x))
    where
      from : ((vs : List ℕ) (c d k : ℕ) → Walk P vs (pos c) d k → AllByRecursion Ended (trace n vs c d k)) → (s : Successor) (z : ℤ) → s.address ≡ z → Walk P (a ∷ ws) s.address b s.depth → AllByRecursion Ended (elim z [ pos t ↦ trace n (a ∷ ws) t b s.depth | negsuc t ↦ [] ])
      from more s (pos t) e x = more (a ∷ ws) t b s.depth (subst (λ (z : ℤ). Walk P (a ∷ ws) z b s.depth) e x)
      from more s (negsuc t) e x = tt

      at : (g : Bool) → (sits P a && not (seen a ws)) ≡ g → ((vs : List ℕ) (c d k : ℕ) → Walk P vs (pos c) d k → AllByRecursion Ended (trace n vs c d k)) →
          AllByRecursion Ended (elim g [ false ↦ [] | true ↦ flat_map (λ s. elim s.address [ pos t ↦ trace n (a ∷ ws) t b s.depth | negsuc t ↦ [] ]) (successors a b h) ])
      at false g more = tt
      at true g more =
          let q = and_parts (sits P a) (not (seen a ws)) g in
          all_joined Ended (λ s. elim s.address [ pos t ↦ trace n (a ∷ ws) t b s.depth | negsuc t ↦ [] ]) (successors a b h) λ s i.
          from more s s.address refl (on ws a b h (successors a b h) s w (λ x. both_ways (seen a ws) (not-true (seen a ws) q.1) (in_seen a ws x)) (sits_is P a q.0) (successors_step a b h s (walk_low P ws (pos a) b h w) i) i)

  abbrev unit_ends : ℕ → ℕ → List UnitRecord → List End
  unit_ends n k [] = []
  unit_ends n k (v ∷ vs) = trace n [] (v.entry + 3) (suc k) 0 ++ unit_ends n (suc k) vs

  unit_walks : (n k : ℕ) (vs : List UnitRecord) → ((j : ℕ) (v : UnitRecord) → Listed vs j v → Walk P [] (pos (v.entry + 3)) (suc (k + j)) 0) → AllByRecursion Ended (unit_ends n k vs)
  unit_walks n k [] f = tt
  unit_walks n k (v ∷ vs) f =
      let z : k + 0 ≡ k = omega arith in
      All-append Ended (trace n [] (v.entry + 3) (suc k) 0) (unit_ends n (suc k) vs)
      (trace_walks n [] (v.entry + 3) (suc k) 0 (subst (λ (m : ℕ). Walk P [] (pos (v.entry + 3)) (suc m) 0) z (f 0 v (omega arith, refl))))
      (unit_walks n (suc k) vs λ j w l. let e : k + suc j ≡ suc k + j = omega arith in subst (λ (m : ℕ). Walk P [] (pos (w.entry + 3)) (suc m) 0) e (f (suc j) w (omega (arith, l.0), l.1)))

  -- the ends of all walks from the roots
  abbrev pub ends : List End
  ends = trace (suc (length P.code)) [] 0 0 0 ++ unit_ends (suc (length P.code)) 0 P.units

  pub ends_walks : AllByRecursion Ended ends
  ends_walks =
      All-append Ended (trace (suc (length P.code)) [] 0 0 0) (unit_ends (suc (length P.code)) 0 P.units)
      (trace_walks (suc (length P.code)) [] 0 0 0 (root 0 0 main))
      (unit_walks (suc (length P.code)) 0 P.units λ j v l. let z : 0 + j ≡ j = omega arith in root (v.entry + 3) (suc (0 + j)) (subst (λ (m : ℕ). Root P (v.entry + 3) (suc m)) (sym z) (unit j v l)))

-- The steps of the work.
use Rattle.std.proofs.Common.{◌≡◌, ℕ, zero, suc, ◌+◌, ◌<◌, ◌≤◌, ◌⊎◌, List, [], ◌∷◌, ◌++◌, length, get_or, set, ℤ, pos, Some, None, Ok, Err, Option, Result, MatchResult, sym, refl, ap, ◌∙◌, subst, inl, inr, ⊎_elim, arith}
use Rattle.std.specs.List.{AllByRecursion}
use Rattle.std.proofs.lemmas.List.{get_or-set_same, get_or-set_other, length_push, get_or_push, get_or_append_left}
use Rattle.std.proofs.lemmas.Bool.{cases_lt, cases_eq}
use Rattle.program.specs.declared.fault.CheckCause.{CheckCause}
use Rattle.program.specs.declared.fault.CheckCause.TheVariants.{TableSize, MemoryLength, NoDivision, BadEntry, NoInstruction, NoRule, ShallowDepth, OutsideFrame, TooDeep, DifferentWays}
use Rattle.program.specs.declared.unit.Unit.{Unit as UnitRecord}
use Rattle.isa.specs.declared.instruction.Instruction.{Instruction}
use Rattle.isa.specs.Code.{instruction, Divided}
use Rattle.plan.specs.declared.next.Next.{Next}
use Rattle.plan.specs.declared.planned.Planned.{Planned}
use Rattle.plan.specs.declared.successor.Successor.{Successor}
use Rattle.plan.specs.Programs.{Program, Listed, Opens, Sits}
use Rattle.plan.specs.Rules.{Steps}
use Rattle.plan.specs.Lawful.{Plan, planned, Has, Holds, main, unit, Lawful, Least, Table, plan_of}
use Rattle.plan.specs.Walks.{In, on}
use Rattle.plan.specs.Causes.{AtPlace, Due, Turn, Sound}
use Rattle.plan.specs.Rulings.{Ruling, successors, Ruled, LowIn}
use Rattle.plan.proofs.Dividing.{scan_none}
use Rattle.plan.proofs.Walking.{all_in, walk_planned, walk_low}
use Rattle.checker.specs.declared.finding.Finding.{Finding}
use Rattle.checker.specs.declared.work.Work.{Work}
use Rattle.checker.specs.Progress.{judged, places, came, Moved}
use Rattle.std.specs.Option.{IsSome}
use Rattle.std.specs.Result.{IsOk, IsErrAnd}
use Rattle.checker.specs.Work.{SetAt, filled, places_in, places_of, Route, Reached, Base, Grows, Arrived, Done, Rooted}

filled_le : (o : Option Planned) → filled o ≤ 1
filled_le None = omega arith
filled_le (Some s) = omega arith

pub count_le : (t : Table) (n : ℕ) → places_in t n ≤ n
count_le t zero = omega arith
count_le t (suc n) = omega (arith, filled_le (get_or t n None), count_le t n)

pub count_none : (t : Table) (n : ℕ) → ((a : ℕ) → get_or t a None ≡ None) → places_in t n ≡ 0
count_none t zero f = refl
count_none t (suc n) f = rw f (omega (arith, count_none t n f))

count_set_out : (t : Table) (n a : ℕ) (x : Option Planned) → n ≤ a → places_in (set t a x) n ≡ places_in t n
count_set_out t zero a x h = refl
count_set_out t (suc n) a x h = let e = get_or-set_other t a n x None (omega arith) in rw e (omega (arith, count_set_out t n a x (omega arith)))

pub count_set : (t : Table) (n a : ℕ) (s : Planned) → a < n → a < length t → get_or t a None ≡ None → places_in (set t a (Some s)) n ≡ suc (places_in t n)
count_set t zero a s h l e = absurd (omega arith)
count_set t (suc n) a s h l e = by (cases_eq a n) (λ g. count_set t n a s (omega arith) l e)
  where
    by : (a ≡ n) ⊎ (a ≡ n → ⊥) → ((a ≡ n → ⊥) → places_in (set t a (Some s)) n ≡ suc (places_in t n)) → filled (get_or (set t a (Some s)) n None) + places_in (set t a (Some s)) n ≡ suc (filled (get_or t n None) + places_in t n)
    by (inl q) f =
        let u : get_or (set t a (Some s)) n None ≡ Some s = subst (λ (z : ℕ). get_or (set t a (Some s)) z None ≡ Some s) q (get_or-set_same t a (Some s) None l) in
        let v : get_or t n None ≡ None = subst (λ (z : ℕ). get_or t z None ≡ None) q e in
        rw (u, v) (omega (arith, count_set_out t n a (Some s) (omega arith)))
    by (inr q) f = let u = get_or-set_other t a n (Some s) None (omega arith) in rw u (omega (arith, f q))

pub none_not : (t : Table) (a : ℕ) (s : Planned) → get_or t a None ≡ None → get_or t a None ≡ Some s → ⊥
none_not t a s p q = let z : ◌≡◌ {A = ℕ} 0 1 = cc in omega arith

pub grows_set : (t : Table) (a : ℕ) (s : Planned) → get_or t a None ≡ None → Grows t (set t a (Some s))
grows_set t a s e b q h = by (cases_eq b a)
  where
    by : (b ≡ a) ⊎ (b ≡ a → ⊥) → get_or (set t a (Some s)) b None ≡ Some q
    by (inl x) = absurd (none_not t a q e (subst (λ (z : ℕ). get_or t z None ≡ Some q) x h))
    by (inr x) = get_or-set_other t a b (Some s) None x ∙ h

all_grow : (t u : Table) (ws : List ℕ) → Grows t u → AllByRecursion (SetAt t) ws → AllByRecursion (SetAt u) ws
all_grow t u [] g h = tt
all_grow t u (w ∷ ws) g h = ((h.0.0, g w h.0.0 h.0.1), all_grow t u ws g h.1)

pub holds_grow : (t u : Table) (b : ℕ) (s : Successor) → Grows t u → Holds (plan_of t) b s → Holds (plan_of u) b s
holds_grow t u b s g h = (h.0, h.1, g h.0 (planned b s.depth) h.2)

alls_grow : (t u : Table) (b : ℕ) (ss : List Successor) → Grows t u → AllByRecursion (Holds (plan_of t) b) ss → AllByRecursion (Holds (plan_of u) b) ss
alls_grow t u b [] g h = tt
alls_grow t u b (s ∷ ss) g h = (holds_grow t u b s g h.0, alls_grow t u b ss g h.1)

pub done_grow : (P : Program) (t u : Table) (a : ℕ) → Grows t u → SetAt t a → Done P t a → Done P u a
done_grow P t u a g x d s e =
    let f = g a x.0 x.1 in let q : s ≡ x.0 = cc in
    let r = d s (x.1 ∙ ap Some (sym q)) in (r.0, r.1, alls_grow t u s.body r.0 g r.2)

module _ (P : Program) where
  pub arrived_trans : (t u v : Table) (q r s : List ℕ) → Arrived P t u q r → Arrived P u v r s → Arrived P t v q s
  arrived_trans t u v q r s x y =
      record {
        base = y.base;
        grows = λ a z h. y.grows a z (x.grows a z h);
        longer = record { more = omega (arith, x.longer.more, y.longer.more); same = λ j h. y.longer.same j (omega (arith, x.longer.more)) ∙ x.longer.same j h };
      }

  -- an address gets its planned
  module _ (t : Table) (q : List ℕ) (base : Base P t q) (a : ℕ) (s : Planned) (sits : Sits P a) (room : length P.code ≤ length t) (unset : get_or t a None ≡ None) (route : Route P t (pos a) s.body s.depth) where
    after : Table
    after = set t a (Some s)

    now_at : get_or after a None ≡ Some s
    unfolding after
    now_at = get_or-set_same t a (Some s) None (omega (arith, sits.inside))

    old : (b : ℕ) (z : Planned) → (b ≡ a → ⊥) → get_or after b None ≡ Some z → get_or t b None ≡ Some z
    unfolding after
    old b z n h = sym (get_or-set_other t a b (Some s) None n) ∙ h

    grown : Grows t after
    unfolding after
    grown = grows_set t a s unset

    length_after : length (q ++ a ∷ []) ≡ length q + 1
    length_after = length_push q a

    reached_new : (b : ℕ) (z : Planned) → get_or after b None ≡ Some z → Reached P after b z
    reached_new b z h = by (cases_eq b a)
      where
        by : (b ≡ a) ⊎ (b ≡ a → ⊥) → Reached P after b z
        by (inl x) =
            let e : z ≡ s = let i = now_at in let j = subst (λ (n : ℕ). get_or after n None ≡ Some z) x h in cc in
            subst (λ (n : ℕ). Reached P after n z) (sym x)
            (subst (λ (y : Planned). Reached P after a y) (sym e)
            (route.0, route.1, all_grow t after route.0 grown route.2, λ i. none_not t a (all_in (SetAt t) route.0 a route.2 i).0 unset (all_in (SetAt t) route.0 a route.2 i).1))
        by (inr x) = let r = base.reached b z (old b z x h) in (r.0, r.1, all_grow t after r.0 grown r.2, r.3)

    seated_new : (b : ℕ) (z : Planned) → get_or after b None ≡ Some z → Sits P b
    seated_new b z h = ⊎_elim (λ (x : b ≡ a). subst (λ (n : ℕ). Sits P n) (sym x) sits) (λ (x : b ≡ a → ⊥). base.seated b z (old b z x h)) (cases_eq b a)

    queued_new : (b : ℕ) (z : Planned) → get_or after b None ≡ Some z → (j : ℕ) × (j < length (q ++ a ∷ [])) × (get_or (q ++ a ∷ []) j 0 ≡ b)
    queued_new b z h = ⊎_elim (λ (x : b ≡ a). (length q, omega (arith, length_after), get_or_push q a 0 (length q) refl ∙ sym x)) (λ (x : b ≡ a → ⊥). before (base.queued b z (old b z x h))) (cases_eq b a)
      where
        before : ((j : ℕ) × (j < length q) × (get_or q j 0 ≡ b)) → (j : ℕ) × (j < length (q ++ a ∷ [])) × (get_or (q ++ a ∷ []) j 0 ≡ b)
        before r = (r.0, omega (arith, length_after, r.1), get_or_append_left q (a ∷ []) 0 r.0 r.1 ∙ r.2)

    placed_new : (j : ℕ) → j < length (q ++ a ∷ []) → SetAt after (get_or (q ++ a ∷ []) j 0)
    placed_new j h = by (cases_lt j (length q))
      where
        by : (j < length q) ⊎ (length q ≤ j) → SetAt after (get_or (q ++ a ∷ []) j 0)
        by (inl x) = let r = base.placed j x in let e = get_or_append_left q (a ∷ []) 0 j x in subst (λ (n : ℕ). SetAt after n) (sym e) (r.0, grown (get_or q j 0) r.0 r.1)
        by (inr x) = let e : length q ≡ j = omega (arith, length_after) in subst (λ (n : ℕ). SetAt after n) (sym (get_or_push q a 0 j e)) (s, now_at)

    counted_new : length (q ++ a ∷ []) ≡ places_in after (length P.code)
    unfolding after
    counted_new = omega (arith, length_after, base.counted, count_set t (length P.code) a s sits.inside (omega (arith, sits.inside)) unset)

    pub arrived_new : Arrived P t (set t a (Some s)) q (q ++ a ∷ []) × Has (plan_of (set t a (Some s))) a s.body s.depth
    unfolding after
    arrived_new = (
      record {
        base = record { reached = reached_new; seated = seated_new; queued = queued_new; placed = placed_new; counted = counted_new };
        grows = grown;
        longer = record { more = omega (arith, length_after); same = λ j h. get_or_append_left q (a ∷ []) 0 j h };
      },
      now_at,
    )

    -- the list has room
    pub room_left : length q < length P.code
    unfolding after
    room_left = omega (arith, base.counted, count_set t (length P.code) a s sits.inside (omega (arith, sits.inside)) unset, count_le (set t a (Some s)) (length P.code))

  -- before the first address
  pub base_none : (t : Table) → ((a : ℕ) → get_or t a None ≡ None) → Base P t []
  base_none t f =
      record {
        reached = λ a s h. absurd (none_not t a s (f a) h);
        seated = λ a s h. absurd (none_not t a s (f a) h);
        queued = λ a s h. absurd (none_not t a s (f a) h);
        placed = λ j h. absurd (omega arith);
        counted = sym (count_none t (length P.code) f);
      }

  -- where a step leads
  pub route_on : (t : Table) (q : List ℕ) → Base P t q → (a : ℕ) (s : Planned) → get_or t a None ≡ Some s → (ss : List Successor) (n : Successor) → Steps P a s.body s.depth ss → In ss n → Route P t n.address s.body n.depth
  route_on t q b a s e ss n st i = let r = b.reached a s e in (a ∷ r.0, on r.0 a s.body s.depth ss n r.1 r.3 (b.seated a s e) st i, ((s, e), r.2))

  pub done_at : (t u : Table) (a : ℕ) (s : Planned) (ss : List Successor) → Grows t u → get_or t a None ≡ Some s → Steps P a s.body s.depth ss → AllByRecursion (Holds (plan_of u) s.body) ss → Done P u a
  done_at t u a s ss g e st h z f = let x = g a s e in let q : s ≡ z = cc in subst (λ (y : Planned). (ss : List Successor) × Steps P a y.body y.depth ss × AllByRecursion (Holds (plan_of u) y.body) ss) q (ss, st, h)

  pub depth_low : (t : Table) (q : List ℕ) → Base P t q → (a : ℕ) (s : Planned) → get_or t a None ≡ Some s → s.depth ≤ 1000
  depth_low t q b a s e = let w = b.reached a s e in walk_low P w.0 (pos a) s.body s.depth w.1

  pub steps_to : (a : ℕ) (s : Planned) (n m : Next) → n ≡ m → Steps P a s.body s.depth (successors n) → Steps P a s.body s.depth (successors m)
  steps_to a s n m e st = subst (λ (x : Next). Steps P a s.body s.depth (successors x)) e st

  pub seat_instruction : (a : ℕ) → Sits P a → Divided P.code → None ≡ instruction P.code a → ⊥
  seat_instruction a s d e = scan_none P.code a (length P.code) s.inside s.divides e d

  pub due_held : (c : CheckCause) (t : ℤ) → AtPlace P c t → Due P c t
  due_held TableSize t x = x.holds
  due_held MemoryLength t x = x.holds
  due_held NoDivision t x = absurd x.holds
  due_held BadEntry t x = absurd x.holds
  due_held NoInstruction t x = absurd x.holds
  due_held NoRule t x = x
  due_held ShallowDepth t x = x
  due_held OutsideFrame t x = x
  due_held TooDeep t x = x
  due_held DifferentWays t x = absurd x.holds

  -- of the ruling at a place: the step that it gives, or its cause
  pub ruling_said : (t : Table) (q : List ℕ) → Base P t q → (a : ℕ) (s : Planned) → get_or t a None ≡ Some s → (i : Instruction) → instruction P.code a ≡ Some i → (r : Ruling) → Ruled P a s.body s.depth i r → LowIn r →
      MatchResult r (λ n. Steps P a s.body s.depth (successors n)) (λ c. Due P c (pos a))
  ruling_said t q b a s e i is (Ok n) g l = record { what = i; is = is; rule = g; low = l }
  ruling_said t q b a s e i is (Err c) g l =
      let w = b.reached a s e in
      due_held c (pos a) (record { a = a; b = s.body; h = s.depth; i = i; address = refl; walked = (w.0, w.1); sits = b.seated a s e; is = is; holds = g })

  pub rooted : (t : Table) → Has (plan_of t) 0 0 0 → ((k : ℕ) (v : UnitRecord) → Listed P.units k v → Has (plan_of t) (v.entry + 3) (suc k) 0) → Rooted P t
  rooted t z f a b main = z
  rooted t z f a b (unit k v l) = f k v l

  pub rooted_grow : (t u : Table) → Grows t u → Rooted P t → Rooted P u
  rooted_grow t u g r a b x = g a (planned b 0) (r a b x)

  -- one more address is done
  module _ (t u : Table) (q r : List ℕ) (i a : ℕ) where
    pub drain_more : Base P t q → ((j : ℕ) → j < i → Done P t (get_or q j 0)) → Arrived P t u q r → Done P u a → i < length q → a ≡ get_or q i 0 → (j : ℕ) → j < i + 1 → Done P u (get_or r j 0)
    drain_more b d x e l at j h = by (cases_lt j i)
      where
        by : (j < i) ⊎ (i ≤ j) → Done P u (get_or r j 0)
        by (inl k) = subst (λ (n : ℕ). Done P u n) (sym (x.longer.same j (omega arith))) (done_grow P t u (get_or q j 0) x.grows (b.placed j (omega arith)) (d j k))
        by (inr k) = let f : j ≡ i = omega arith in subst (λ (n : ℕ). Done P u n) (at ∙ (sym (x.longer.same i l) ∙ ap (λ (n : ℕ). get_or r n 0) (sym f))) e

  -- at the end
  pub finished : (t : Table) (q : List ℕ) → Base P t q → ((j : ℕ) → j < length q → Done P t (get_or q j 0)) → Rooted P t → Divided P.code → ((k : ℕ) (v : UnitRecord) → Listed P.units k v → Opens P k v) → Least P (plan_of t)
  finished t q b d r divides opened =
      record {
        lawful = record { divides = divides; units = opened; roots = r; rules = rules; places = places };
        least = λ o law a c h e. least o law a c h (b.reached a (planned c h) e);
      }
    where
      rules : (a c h : ℕ) → Has (plan_of t) a c h → (ss : List Successor) × Steps P a c h ss × AllByRecursion (Holds (plan_of t) c) ss
      rules a c h e = let j = b.queued a (planned c h) e in subst (λ (n : ℕ). Done P t n) j.2 (d j.0 j.1) (planned c h) e

      places : (a c h : ℕ) → Has (plan_of t) a c h → (h ≤ 1000) × Sits P a
      places a c h e = let w = b.reached a (planned c h) e in (walk_low P w.0 (pos a) c h w.1, b.seated a (planned c h) e)

      least : (o : Plan) → Lawful P o → (a c h : ℕ) → Reached P t a (planned c h) → Has o a c h
      least o law a c h w = let u = walk_planned P o law w.0 (pos a) c h w.1 in let e = u.1 in let f : u.0 ≡ a = cc in subst (λ (n : ℕ). Has o n c h) f u.2

-- the causes of begin and drain are causes of walks
pub turned : (P : Program) (c : CheckCause) (t : ℤ) → Sound P → Due P c t → Turn P c
turned P TableSize t s d = d
turned P MemoryLength t s d = d
turned P NoDivision t s d = tt
turned P BadEntry t s d = s.divided
turned P NoInstruction t s d = s
turned P NoRule t s d = s
turned P ShallowDepth t s d = s
turned P OutsideFrame t s d = s
turned P TooDeep t s d = s
turned P DifferentWays t s d = s

-- a call that cannot fail
pub there : {X : Type 0} (o : Option X) → (None ≡ o → ⊥) → IsSome o
there None f = absurd (f refl)
there (Some x) f = refl

pub passes : {X Y : Type 0} (r : Result X Y) (P : X → Type 0) (Q : Y → Type 0) → MatchResult r P Q → ((y : Y) → Q y → ⊥) → IsOk r
passes (Ok x) P Q m f = refl
passes (Err y) P Q m f = absurd (f y m)

-- what is said of a result, of the one that `map_err` makes of it
pub mapped : {X Y Z : Type 0} (r : Result X Y) (q : Result X Z) (P : X → Type 0) (Q : Y → Type 0) (R : Z → Type 0) (L : Y → Z → Type 0) → MatchResult r (λ x. q ≡ Ok x) (λ y. IsErrAnd q (L y)) → MatchResult r P Q → ((y : Y) (z : Z) → L y z → Q y → R z) → MatchResult q P R
mapped (Ok x) q P Q R L m p f = subst (λ u. MatchResult u P R) (sym m) p
mapped (Err y) (Ok x) P Q R L m p f = absurd m
mapped (Err y) (Err z) P Q R L m p f = f y z m p

-- what calls say of the program that they are handed, of the program that it is
pub moved_back : (P : Program) (v w : Work) → Moved (judged v) v w → judged v ≡ P → Moved P v w
moved_back P v w m e = subst (λ (Q : Program). Moved Q v w) e m

pub moved_trans : (P : Program) (u v w : Work) → Moved P u v → Moved (judged v) v w → Moved P u w
moved_trans P u v w a b =
    let c = moved_back P v w b a.is in
    record { is = c.is; marked = c.marked; arrived = arrived_trans P (places u) (places v) (places w) (came u) (came v) (came w) a.arrived c.arrived }

-- at the end of the work, on the table t that was lent to it
pub explored : (P : Program) (t u : Table) (r : Result (Unit {0}) Finding) → t ≡ u → Sound P → MatchResult r (λ _. Least P (plan_of (places_of u))) (λ f. Due P f.cause f.address) → MatchResult r (λ _. Least P (plan_of (places_of t))) (λ f. Due P f.cause f.address × Turn P f.cause)
explored P t u (Ok x) e s m = subst (λ (z : Table). Least P (plan_of (places_of z))) (sym e) m
explored P t u (Err f) e s m = (m, turned P f.cause f.address s m)

-- From the ends of all walks to what the check says.
use Rattle.std.proofs.Common.{◌≡◌, ℕ, Bool, true, false, not, ◌&&◌, ◌||◌, eqb, ◌⊎◌, List, [], ◌∷◌, ℤ, pos, Some, None, Option, sym, refl, ap, ◌∙◌, subst, inl, inr}
use Rattle.std.specs.List.{AllByRecursion}
use Rattle.std.proofs.lemmas.Bool.{false≢true, eqb-true, eq-eqb, and_parts, and_from, or_cases, not-true, both_ways}
use Rattle.program.specs.declared.fault.CheckCause.{CheckCause}
use Rattle.program.specs.declared.fault.CheckCause.TheVariants.{TableSize, MemoryLength, NoDivision, BadEntry, NoInstruction, NoRule, ShallowDepth, OutsideFrame, TooDeep, DifferentWays}
use Rattle.program.specs.Faults.{check_number}
use Rattle.isa.specs.declared.instruction.Instruction.{Instruction}
use Rattle.isa.specs.Code.{instruction}
use Rattle.plan.specs.declared.planned.Planned.{Planned}
use Rattle.plan.specs.Programs.{Program, Sits}
use Rattle.plan.specs.Lawful.{planned}
use Rattle.plan.specs.Walks.{In, Walk}
use Rattle.plan.specs.Causes.{Sound, AtNone, AtPlace, AtTwo, Due, Turn}
use Rattle.plan.proofs.Dividing.{stops_not}
use Rattle.plan.proofs.Walking.{all_in, pos_same, due_not}
use Rattle.table.specs.Verdicts.{Gives}
use Rattle.table.proofs.Deciding.{holds, holds_is}
use Rattle.table.proofs.Standing.{sits, sits_is, sits_all, sound, sound_is}
use Rattle.table.proofs.Tracing.{End, end, each, each_in, some, some_in, closed, or_not, walk_in, Ended, ends, ends_walks}

-- the causes that hold at a place
abbrev local : List CheckCause
local = NoRule ∷ ShallowDepth ∷ OutsideFrame ∷ TooDeep ∷ []

-- do two ends disagree about an address?
abbrev clash : End → End → Bool
clash x y = eqb x.at y.at && not (eqb x.body y.body && eqb x.depth y.depth)

module _ (P : Program) where
  abbrev holds_by : End → CheckCause → Option Instruction → Bool
  holds_by x c None = false
  holds_by x c (Some i) = holds P x.at x.body x.depth i c

  -- does a cause hold at an end?
  abbrev holds_at : CheckCause → End → Bool
  holds_at c x = holds_by x c (instruction P.code x.at)

  -- a cause that holds has the number n and the address a
  abbrev expected : ℕ → ℕ → End → CheckCause → Bool
  expected n a x c = not (holds_at c x) || (eqb (check_number c) n && eqb x.at a)

  abbrev agreed : ℕ → ℕ → End → End → Bool
  agreed n a x y = not (clash x y) || (eqb 20 n && eqb x.at a)

  abbrev seated : ℕ → ℕ → End → Bool
  seated n a x = sits P x.at || (eqb 15 n && eqb x.at a)

  abbrev only : ℕ → ℕ → List End → Bool
  only n a S = each (λ x. each (expected n a x) local) S && (each (λ x. each (agreed n a x) S) S && each (seated n a) S)

  module _ (S : List End) (n a : ℕ) (good : Sound P) (c : closed P S ≡ true) (t : only n a S ≡ true) where
    Named : CheckCause → ℤ → Type 0
    Named d z = (check_number d ≡ n) × (z ≡ pos a)

    parts : (each (λ x. each (expected n a x) local) S ≡ true) × ((each (λ x. each (agreed n a x) S) S && each (seated n a) S) ≡ true)
    parts = and_parts (each (λ x. each (expected n a x) local) S) (each (λ x. each (agreed n a x) S) S && each (seated n a) S) t

    rest : (each (λ x. each (agreed n a x) S) S ≡ true) × (each (seated n a) S ≡ true)
    rest = and_parts (each (λ x. each (agreed n a x) S) S) (each (seated n a) S) parts.1

    none_only : (z : ℤ) → AtNone P z → Named NoInstruction z
    unfolding Named
    none_only z p = let u = walk_in P S good c p.walked.0 z p.b p.h p.walked.1 in by u.0 u.1 (or_cases (sits P u.0) (eqb 15 n && eqb u.0 a) (each_in (seated n a) S rest.1 (end p.walked.0 u.0 p.b p.h) u.2))
      where
        by : (x : ℕ) → z ≡ pos x → (sits P x ≡ true) ⊎ ((eqb 15 n && eqb x a) ≡ true) → Named NoInstruction z
        by x e (inl t) = absurd (p.unfit x e (sits_is P x t))
        by x e (inr t) = let q = and_parts (eqb 15 n) (eqb x a) t in (eqb-true 15 n q.0, e ∙ ap pos (eqb-true x a q.1))

    place_only : (d : CheckCause) → In local d → (z : ℤ) → AtPlace P d z → Named d z
    unfolding Named
    place_only d l z p =
        let u = walk_in P S good c p.walked.0 (pos p.a) p.b p.h p.walked.1 in
        let e : u.0 ≡ p.a = sym (pos_same p.a u.0 u.1) in
        let x : End = end p.walked.0 p.a p.b p.h in
        let i : In S x = subst (λ (y : ℕ). In S (end p.walked.0 y p.b p.h)) e u.2 in
        let h : holds_at d x ≡ true = subst (λ (o : Option Instruction). holds_by x d o ≡ true) (sym p.is) ((holds_is P p.a p.b p.h p.i d).1 p.holds) in
        let q = and_parts (eqb (check_number d) n) (eqb p.a a) (or_not (holds_at d x) _ (each_in (expected n a x) local (each_in (λ y. each (expected n a y) local) S parts.0 x i) d l) h) in
        (eqb-true (check_number d) n q.0, p.address ∙ ap pos (eqb-true p.a a q.1))

    two_only : (z : ℤ) → AtTwo P z → Named DifferentWays z
    unfolding Named
    two_only z p =
        let u = walk_in P S good c p.walked.0 (pos p.a) p.one.body p.one.depth p.walked.1 in
        let v = walk_in P S good c p.also.0 (pos p.a) p.two.body p.two.depth p.also.1 in
        let x : End = end p.walked.0 u.0 p.one.body p.one.depth in
        let y : End = end p.also.0 v.0 p.two.body p.two.depth in
        let e : u.0 ≡ v.0 = sym (pos_same p.a u.0 u.1) ∙ pos_same p.a v.0 v.1 in
        let k : clash x y ≡ true = and_from (eqb u.0 v.0) _ (eq-eqb u.0 v.0 e) (apart p.one p.two p.unlike) in
        let q = and_parts (eqb 20 n) (eqb u.0 a) (or_not (clash x y) _ (each_in (agreed n a x) S (each_in (λ w. each (agreed n a w) S) S rest.0 x u.2) y v.2) k) in
        (eqb-true 20 n q.0, p.address ∙ (u.1 ∙ ap pos (eqb-true u.0 a q.1)))
      where
        apart : (x y : Planned) → (x ≡ y → ⊥) → not (eqb x.body y.body && eqb x.depth y.depth) ≡ true
        apart x y f = at (eqb x.body y.body && eqb x.depth y.depth) refl
          where
            at : (b : Bool) → (eqb x.body y.body && eqb x.depth y.depth) ≡ b → not b ≡ true
            at true e = let q = and_parts (eqb x.body y.body) (eqb x.depth y.depth) e in absurd (f (ap (λ (m : ℕ). planned m x.depth) (eqb-true x.body y.body q.0) ∙ ap (λ (m : ℕ). planned y.body m) (eqb-true x.depth y.depth q.1)))
            at false e = refl

    pub due_only : (d : CheckCause) (z : ℤ) → Due P d z → (check_number d ≡ n) × (z ≡ pos a)
    unfolding Named
    due_only TableSize z q = absurd q
    due_only MemoryLength z q = absurd q
    due_only NoDivision z q = absurd (stops_not P.code q.0 q.2 good.divided)
    due_only BadEntry z q = absurd (q.bad (good.opened q.k q.v q.listed))
    due_only NoInstruction z q = none_only z q
    due_only NoRule z q = place_only NoRule (inl refl) z q
    due_only ShallowDepth z q = place_only ShallowDepth (inr (inl refl)) z q
    due_only OutsideFrame z q = place_only OutsideFrame (inr (inr (inl refl))) z q
    due_only TooDeep z q = place_only TooDeep (inr (inr (inr (inl refl)))) z q
    due_only DifferentWays z q = two_only z q

  -- a cause holds at an end
  abbrev local_at : End → Bool
  local_at x = sits P x.at && some (λ d. holds_at d x) local

  -- does a cause hold somewhere?
  abbrev occurs : List End → Bool
  occurs S = some local_at S || (some (λ x. some (clash x) S) S || some (λ x. not (sits P x.at)) S)

  -- a cause that is due
  abbrev Happens : Type 0
  Happens = (d : CheckCause) × (z : ℕ) × Turn P d × Due P d (pos z)

  module _ (S : List End) (good : Sound P) (w : AllByRecursion (Ended P) S) where
    ended : (x : End) → In S x → Ended P x
    ended x i = all_in (Ended P) S x w i

    place_due : (x : End) → In S x → Sits P x.at → (d : CheckCause) → holds_at d x ≡ true → AtPlace P d (pos x.at)
    place_due x i s d h = at (instruction P.code x.at) refl h
      where
        at : (o : Option Instruction) → instruction P.code x.at ≡ o → holds_by x d o ≡ true → AtPlace P d (pos x.at)
        at None e h = absurd (false≢true h)
        at (Some j) e h = record { a = x.at; b = x.body; h = x.depth; i = j; address = refl; walked = (x.before, ended x i); sits = s; is = e; holds = (holds_is P x.at x.body x.depth j d).0 h }

    local_due : (d : CheckCause) (z : ℤ) → In local d → AtPlace P d z → Turn P d × Due P d z
    local_due d z (inl e) = subst (λ (b : CheckCause). AtPlace P b z → Turn P b × Due P b z) e (λ p. (good, p))
    local_due d z (inr (inl e)) = subst (λ (b : CheckCause). AtPlace P b z → Turn P b × Due P b z) e (λ p. (good, p))
    local_due d z (inr (inr (inl e))) = subst (λ (b : CheckCause). AtPlace P b z → Turn P b × Due P b z) e (λ p. (good, p))
    local_due d z (inr (inr (inr (inl e)))) = subst (λ (b : CheckCause). AtPlace P b z → Turn P b × Due P b z) e (λ p. (good, p))
    local_due d z (inr (inr (inr (inr e)))) = absurd e

    clash_due : (x y : End) → In S x → In S y → clash x y ≡ true → AtTwo P (pos x.at)
    clash_due x y i j t =
        let q = and_parts (eqb x.at y.at) (not (eqb x.body y.body && eqb x.depth y.depth)) t in
        record {
          a = x.at;
          one = planned x.body x.depth;
          two = planned y.body y.depth;
          address = refl;
          walked = (x.before, ended x i);
          also = (y.before, subst (λ (m : ℕ). Walk P y.before (pos m) y.body y.depth) (sym (eqb-true x.at y.at q.0)) (ended y j));
          unlike = λ e. both_ways (eqb x.body y.body && eqb x.depth y.depth) (not-true (eqb x.body y.body && eqb x.depth y.depth) q.1) (and_from (eqb x.body y.body) (eqb x.depth y.depth) (eq-eqb x.body y.body (ap (λ (m : Planned). m.body) e)) (eq-eqb x.depth y.depth (ap (λ (m : Planned). m.depth) e)));
        }

    none_due : (x : End) → In S x → not (sits P x.at) ≡ true → AtNone P (pos x.at)
    none_due x i t = record { b = x.body; h = x.depth; walked = (x.before, ended x i); unfit = λ a e s. both_ways (sits P x.at) (not-true (sits P x.at) t) (sits_all P x.at (subst (λ (m : ℕ). Sits P m) (sym (pos_same x.at a e)) s)) }

    happens : occurs S ≡ true → Happens
    happens t = at (or_cases (some local_at S) (some (λ x. some (clash x) S) S || some (λ x. not (sits P x.at)) S) t)
      where
        more : (some (λ x. some (clash x) S) S ≡ true) ⊎ (some (λ x. not (sits P x.at)) S ≡ true) → Happens
        more (inl e) =
            let q = some_in (λ x. some (clash x) S) S e in
            let r = some_in (clash q.0) S q.2 in
            (DifferentWays, q.0.at, good, clash_due q.0 r.0 q.1 r.1 r.2)
        more (inr e) = let q = some_in (λ x. not (sits P x.at)) S e in (NoInstruction, q.0.at, good, none_due q.0 q.1 q.2)

        at : (some local_at S ≡ true) ⊎ ((some (λ x. some (clash x) S) S || some (λ x. not (sits P x.at)) S) ≡ true) → Happens
        at (inl e) =
            let q = some_in local_at S e in
            let s = and_parts (sits P q.0.at) (some (λ d. holds_at d q.0) local) q.2 in
            let r = some_in (λ d. holds_at d q.0) local s.1 in
            let u = local_due r.0 (pos q.0.at) r.1 (place_due q.0 q.1 (sits_is P q.0.at s.0) r.0 r.2) in
            (r.0, q.0.at, u.0, u.1)
        at (inr e) = more (or_cases (some (λ x. some (clash x) S) S) (some (λ x. not (sits P x.at)) S) e)

  -- does every cause have the number n and the address a?
  abbrev pub refuses : ℕ → ℕ → Bool
  refuses n a = sound P && (closed P (ends P) && (only n a (ends P) && occurs (ends P)))

  pub gives : (n a : ℕ) → refuses n a ≡ true → Gives n (pos a) P
  gives n a t = record { due = (h.0, h.2, subst (λ (z : ℤ). Due P h.0 z) (o h.0 (pos h.1) h.3).1 h.3); unlawful = λ p law. due_not P p law h.0 (pos h.1) h.3; only = o }
    where
      q : (sound P ≡ true) × ((closed P (ends P) && (only n a (ends P) && occurs (ends P))) ≡ true)
      q = and_parts (sound P) (closed P (ends P) && (only n a (ends P) && occurs (ends P))) t

      r : (closed P (ends P) ≡ true) × ((only n a (ends P) && occurs (ends P)) ≡ true)
      r = and_parts (closed P (ends P)) (only n a (ends P) && occurs (ends P)) q.1

      s : (only n a (ends P) ≡ true) × (occurs (ends P) ≡ true)
      s = and_parts (only n a (ends P)) (occurs (ends P)) r.1

      h : Happens
      h = happens (ends P) (sound_is P q.0) (ends_walks P) s.1

      o : (d : CheckCause) (z : ℤ) → Due P d z → (check_number d ≡ n) × (z ≡ pos a)
      o = due_only (ends P) n a (sound_is P q.0) r.0 s.0

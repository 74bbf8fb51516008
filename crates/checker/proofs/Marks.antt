-- Tables with marks.
use Rattle.std.proofs.Common.{◌≡◌, ℕ, ◌+◌, ◌<◌, ◌≤◌, ◌⊎◌, List, length, get_or, set, ℤ, Some, None, Option, sym, refl, ap, ◌∙◌, subst, inl, inr, arith, MatchOption}
use Rattle.std.proofs.lemmas.List.{get_or-set_same, get_or-set_other, get_or-map, get_or_past, length-map, map-set}
use Rattle.std.proofs.lemmas.Bool.{cases_lt, cases_eq, cases_order, cond_above}
use Rattle.isa.specs.declared.instruction.Instruction.{Instruction}
use Rattle.isa.specs.Code.{instruction, Divides}
use Rattle.isa.specs.Table.{size}
use Rattle.plan.specs.declared.planned.Planned.{Planned}
use Rattle.plan.specs.Lawful.{Table}
use Rattle.plan.proofs.Dividing.{scan_under, size_pos}
use Rattle.checker.specs.Work.{place_in, places_of, Marked}

pub places_at : (t : Table) (a : ℕ) → get_or (places_of t) a None ≡ place_in (get_or t a None)
places_at t a = by (cases_lt a (length t))
  where
    by : (a < length t) ⊎ (length t ≤ a) → get_or (places_of t) a None ≡ place_in (get_or t a None)
    by (inl h) = get_or-map place_in t a None None h
    by (inr h) = get_or_past (places_of t) a None (omega (arith, length-map t place_in)) ∙ sym (ap place_in (get_or_past t a None h))

pub places_room : (t : Table) (n : ℕ) → n ≤ length t → n ≤ length (places_of t)
places_room t n h = omega (arith, length-map t place_in)

-- a place is set in the view too
pub places_set : (t : Table) (a : ℕ) (s : Planned) → s.depth ≤ 1000 → places_of (set t a (Some s)) ≡ set (places_of t) a (Some s)
places_set t a s h = map-set place_in t a (Some s) ∙ ap (λ (z : Option Planned). set (places_of t) a z) (sym (cond_above 1000 s.depth None (Some s) (Some s) h refl))

abbrev MarkedAt : List ℤ → ℕ → Option Planned → Type 0
MarkedAt code a o = MatchOption o (Divides code a → ⊥) (λ _. Divides code a)

-- the marks are right below n
abbrev pub MarkedTo : List ℤ → Table → ℕ → Type 0
MarkedTo code t n = (a : ℕ) → a < n → MarkedAt code a (get_or t a None)

module _ (code : List ℤ) (t : Table) (a : ℕ) (s : Planned) (room : length code ≤ length t) (divides : Divides code a) where
  at_same : (b : ℕ) → b ≡ a → b < length code → MarkedAt code b (get_or (set t a (Some s)) b None)
  at_same b x h =
      let e : get_or (set t a (Some s)) b None ≡ Some s = subst (λ (z : ℕ). get_or (set t a (Some s)) z None ≡ Some s) (sym x) (get_or-set_same t a (Some s) None (omega arith)) in
      subst (λ (o : Option Planned). MarkedAt code b o) (sym e) (subst (λ (z : ℕ). Divides code z) (sym x) divides)

  at_other : (b : ℕ) → (b ≡ a → ⊥) → MarkedAt code b (get_or t b None) → MarkedAt code b (get_or (set t a (Some s)) b None)
  at_other b x m = subst (λ (o : Option Planned). MarkedAt code b o) (sym (get_or-set_other t a b (Some s) None x)) m

  -- a place in the stead of a mark
  pub marked_set : Marked code t → Marked code (set t a (Some s))
  marked_set m b h = by (cases_eq b a)
    where
      by : (b ≡ a) ⊎ (b ≡ a → ⊥) → MarkedAt code b (get_or (set t a (Some s)) b None)
      by (inl x) = at_same b x h
      by (inr x) = at_other b x (m b h)

  -- a step of the marking, at the instruction i of r cells
  module _ (i : Instruction) (r : ℕ) (inside : a < length code) (is : Some i ≡ instruction code a) (long : r ≡ size i.op) (rest : (b : ℕ) → a ≤ b → get_or t b None ≡ None) where
    pub mark_more : MarkedTo code t a → MarkedTo code (set t a (Some s)) (a + r)
    mark_more m b h = by (cases_order b a)
      where
        by : (b ≡ a) ⊎ ((b < a) ⊎ (a < b)) → MarkedAt code b (get_or (set t a (Some s)) b None)
        by (inl x) = at_same b x (omega arith)
        by (inr (inl x)) = at_other b (λ e. omega arith) (m b x)
        by (inr (inr x)) = at_other b (λ e. omega arith) (subst (λ (o : Option Planned). MarkedAt code b o) (sym (rest b (omega arith))) (λ q. absurd (omega (arith, scan_under code a b i r x divides is long q))))

    pub mark_rest : (b : ℕ) → a + r ≤ b → get_or (set t a (Some s)) b None ≡ None
    mark_rest b h = get_or-set_other t a b (Some s) None (λ e. omega (arith, size_pos i.op, long)) ∙ rest b (omega arith)

-- a mark is no place
pub mark_bare : (t : Table) (a : ℕ) (s : Planned) → a < length t → place_in (Some s) ≡ None → ((b : ℕ) → get_or (places_of t) b None ≡ None) → (b : ℕ) → get_or (places_of (set t a (Some s))) b None ≡ None
mark_bare t a s room e f b = places_at (set t a (Some s)) b ∙ by (cases_eq b a)
  where
    by : (b ≡ a) ⊎ (b ≡ a → ⊥) → place_in (get_or (set t a (Some s)) b None) ≡ None
    by (inl x) = subst (λ (z : ℕ). place_in (get_or (set t a (Some s)) z None) ≡ None) (sym x) (ap place_in (get_or-set_same t a (Some s) None room) ∙ e)
    by (inr x) = ap place_in (get_or-set_other t a b (Some s) None x) ∙ (sym (places_at t b) ∙ f b)

pub unset_bare : (t : Table) → ((b : ℕ) → get_or t b None ≡ None) → (b : ℕ) → get_or (places_of t) b None ≡ None
unset_bare t f b = places_at t b ∙ ap place_in (f b)

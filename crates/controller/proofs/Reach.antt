-- The cells that a lawful LOAD or STORE reaches.
use Rattle.std.proofs.Common.{◌≡◌, ℕ, zero, suc, ◌+◌, ◌-◌, ◌<◌, ◌≤◌, ◌⊎◌, List, [], ◌∷◌, ℤ, pos, negsuc, ◌+ℤ◌, neg_ℤ, ◌≤ℤ◌, ◌<ℤ◌, refl, inl, inr, arith}
use Rattle.std.proofs.lemmas.Int.{ints}
use Rattle.plan.specs.Rules.{InFrame, InCall}
use Rattle.plan.specs.Lawful.{Plan}
use Rattle.plan.proofs.Listing.{listed_same}
use Rattle.controller.proofs.Chain.{Box, Frame, Chain, lim, chain_top, chain_lim_top}

pub record Reached (B : Box) (F : List Frame) (f sp : ℕ) (z : ℤ) : Type 0 where
  pub j : ℕ
  pub is : z ≡ pos j
  pub low : sp ≤ j
  pub high : j < B.size
  pub side : (j ≤ f) ⊎ ((f + 3 ≤ j) × (j < lim B F))

reach_own : (B : Box) (F : List Frame) (f sp h : ℕ) (n : ℤ) → sp + h ≡ f + 1 → f + 1 ≤ B.size → neg_ℤ (pos h) <ℤ n → n ≤ℤ pos 0 → Reached B F f sp (pos f +ℤ n)
reach_own B F f sp h (pos k) s t u v = record { j = f + k; is = refl; low = omega (arith, ints); high = omega (arith, ints); side = inl (omega (arith, ints)) }
reach_own B F f sp h (negsuc k) s t u v = record { j = f - suc k; is = omega (arith, ints); low = omega (arith, ints); high = omega (arith, ints); side = inl (omega (arith, ints)) }

reach_arg : (B : Box) (p : Plan) (m : List ℤ) (F : List Frame) (f sp h b : ℕ) (n : ℤ) → sp + h ≡ f + 1 → Chain B p m F f b → InCall B.program.units b n → Reached B F f sp (pos f +ℤ n)
reach_arg B p m F f sp h zero n s c a = absurd a
reach_arg B p m [] f sp h (suc i) n s c a = absurd (omega arith)
reach_arg B p m (g ∷ F) f sp h (suc i) (pos k) s c (v, w, lo, hi) =
    let q : i ≡ g.index = omega arith in
    let e : v ≡ g.unit = listed_same B.program.units g.index v g.unit (rw q at w) c.3.listed in
    let t : lim B (g ∷ F) ≤ B.size = chain_lim_top B p m (g ∷ F) f (suc i) c in
    let l : 3 ≤ k = omega (arith, ints) in
    let u : k ≤ v.arguments + 2 + v.results = omega (arith, ints) in
    let u' : k ≤ g.unit.arguments + 2 + g.unit.results = rw e at u in
    record { j = f + k; is = refl; low = omega arith; high = omega arith; side = inr (omega arith, omega arith) }
reach_arg B p m (g ∷ F) f sp h (suc i) (negsuc k) s c (v, w, lo, hi) = absurd (omega (arith, ints))

pub reach : (B : Box) (p : Plan) (m : List ℤ) (F : List Frame) (f sp h b : ℕ) (n : ℤ) → sp + h ≡ f + 1 → Chain B p m F f b → InFrame B.program.units b h n → Reached B F f sp (pos f +ℤ n)
reach B p m F f sp h b n s c (inl o) = reach_own B F f sp h n s (chain_top B p m F f b c) o.0 o.1
reach B p m F f sp h b n s c (inr a) = reach_arg B p m F f sp h b n s c a

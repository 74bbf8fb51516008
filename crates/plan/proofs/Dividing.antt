-- How the code divides.
use Rattle.std.proofs.Common.{◌≡◌, ℕ, zero, suc, ◌+◌, ◌<◌, ◌≤◌, Bool, true, false, cond, ltb, leb, ◌⊎◌, List, length, get_or, ℤ, pos, Some, None, Option, sym, refl, ap, ◌∙◌, subst, inl, inr, arith}
use Rattle.std.proofs.lemmas.Bool.{cases_order, leb-true}
use Rattle.isa.specs.declared.opcode.Opcode.{Opcode}
use Rattle.isa.specs.declared.opcode.Operand.{Operand}
use Rattle.isa.specs.declared.opcode.Operand.TheVariants.{Absent, Value, Target, Count, Number}
use Rattle.isa.specs.declared.instruction.Instruction.{Instruction}
use Rattle.isa.specs.Code.{argument, whole, instruction, Divides, first, next, Divided}
use Rattle.isa.specs.Table.{operand_cells, operand, decoded, size}
use Rattle.plan.specs.Programs.{Stops}

cells_low : (o : Operand) → operand_cells o ≤ 1
cells_low Absent = omega arith
cells_low Value = omega arith
cells_low Target = omega arith
cells_low Count = omega arith
cells_low Number = omega arith

-- an instruction takes one or two cells
pub size_low : (op : Opcode) → size op ≤ 2
size_low op = omega (arith, cells_low (operand op))

pub size_pos : (op : Opcode) → 0 < size op
size_pos op = omega arith

pub some_same : (i j : Instruction) → Some i ≡ Some j → i ≡ j
some_same i j e = cc

ops_same : (i j : Instruction) → Some i ≡ Some j → i.op ≡ j.op
ops_same i j e = ap (λ (x : Instruction). x.op) (some_same i j e)

module _ (code : List ℤ) (a : ℕ) (i : Instruction) where
  whole_fits : (o : Option Opcode) → whole code a o ≡ Some i → a + size i.op ≤ length code
  whole_fits None e = let z : ◌≡◌ {A = ℕ} 0 1 = cc in absurd (omega arith)
  whole_fits (Some op) e = by (leb (a + 1 + operand_cells (operand op)) (length code)) refl e
    where
      by : (t : Bool) → leb (a + 1 + operand_cells (operand op)) (length code) ≡ t → cond t (Some (record { op = op; argument = argument (operand op) code a })) None ≡ Some i → a + size i.op ≤ length code
      by true t e = let s : op ≡ i.op = ops_same (record { op = op; argument = argument (operand op) code a }) i e in omega (arith, ap size s, leb-true (a + 1 + operand_cells (operand op)) (length code) t)
      by false t e = let z : ◌≡◌ {A = ℕ} 0 1 = cc in absurd (omega arith)

  -- an instruction lies whole in the code
  pub fits_in : instruction code a ≡ Some i → a + size i.op ≤ length code
  fits_in e = by (ltb a (length code)) e
    where
      by : (t : Bool) → cond t (whole code a (decoded (get_or code a (pos 0)))) None ≡ Some i → a + size i.op ≤ length code
      by true e = whole_fits (decoded (get_or code a (pos 0))) e
      by false e = let z : ◌≡◌ {A = ℕ} 0 1 = cc in absurd (omega arith)

module _ (code : List ℤ) where
  -- the instruction at x ends at or before y
  Ends_by : ℕ → ℕ → Type 0
  Ends_by x y = (i : Instruction) × (instruction code x ≡ Some i) × (x + size i.op ≤ y)

  order_by : (x a : ℕ) (i : Instruction) → instruction code a ≡ Some i → x < a + size i.op → (x ≡ a) ⊎ ((x < a) ⊎ (a < x)) → (x < a → Ends_by x a) → (a < x → Ends_by a x) → Ends_by x (a + size i.op)
  unfolding Ends_by
  order_by x a i e h (inl s) f g = (i, ap (λ (z : ℕ). instruction code z) s ∙ e, omega arith)
  order_by x a i e h (inr (inl s)) f g = let r = f s in (r.0, r.1, omega (arith, r.2))
  order_by x a i e h (inr (inr s)) f g = let r = g s in let u : i.op ≡ r.0.op = ops_same i r.0 (sym e ∙ r.1) in absurd (omega (arith, r.2, ap size u))

  -- of two addresses that the division comes to, the lower one's instruction ends before the other
  ordered : (n x y : ℕ) → y ≤ n → Divides code x → Divides code y → x < y → Ends_by x y
  ordered n x y l p first h = absurd (omega arith)
  ordered zero x y l p (next a i q e) h = absurd (omega arith)
  ordered (suc n) x y l p (next a i q e) h = order_by x a i e h (cases_order x a) (λ s. ordered n x a (omega arith) p q s) (λ s. ordered n a x (omega arith) q p s)

  pub divides_order : (x y : ℕ) → Divides code x → Divides code y → x < y → (i : Instruction) × (instruction code x ≡ Some i) × (x + size i.op ≤ y)
  unfolding Ends_by
  divides_order x y p q h = ordered y x y (omega arith) p q h

  none_some : (x : Option Instruction) (i : Instruction) → x ≡ None → x ≡ Some i → ⊥
  none_some x i p q = let z : ◌≡◌ {A = ℕ} 0 1 = cc in omega arith

  -- code that divides stops nowhere
  pub stops_not : (a : ℕ) → Stops code a → Divided code → ⊥
  stops_not a s b = let r = divides_order a (length code) s.divides b s.inside in none_some (instruction code a) r.0 s.none r.1

  pub divides_le : (a : ℕ) → Divides code a → a ≤ length code
  divides_le a first = omega arith
  divides_le a (next x i b e) = fits_in code x i e

  -- the code stops at one address only
  pub stops_one : (a b : ℕ) → Stops code a → Stops code b → a ≡ b
  stops_one a b s r = by (cases_order a b)
    where
      by : (a ≡ b) ⊎ ((a < b) ⊎ (b < a)) → a ≡ b
      by (inl e) = e
      by (inr (inl l)) = let o = divides_order a b s.divides r.divides l in absurd (none_some (instruction code a) o.0 s.none o.1)
      by (inr (inr l)) = let o = divides_order b a r.divides s.divides l in absurd (none_some (instruction code b) o.0 r.none o.1)

  -- a step of a scan
  pub scan_next : (a : ℕ) (i : Instruction) (r : ℕ) → Divides code a → Some i ≡ instruction code a → r ≡ size i.op → Divides code (a + r) × (a + r ≤ length code)
  scan_next a i r b e s = (subst (λ (n : ℕ). Divides code (a + n)) (sym s) (next a i b (sym e)), omega (arith, s, fits_in code a i (sym e)))

  pub scan_under : (a t : ℕ) (i : Instruction) (r : ℕ) → a < t → Divides code a → Some i ≡ instruction code a → r ≡ size i.op → Divides code t → a + r ≤ t
  scan_under a t i r l b e s q = let o = divides_order a t b q l in let v : i.op ≡ o.0.op = ops_same i o.0 (e ∙ o.1) in omega (arith, s, o.2, ap size v)

  pub scan_none : (a t : ℕ) → a < t → Divides code a → None ≡ instruction code a → Divides code t → ⊥
  scan_none a t l b e q = let o = divides_order a t b q l in none_some (instruction code a) o.0 (sym e) o.1

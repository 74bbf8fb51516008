-- Which faults values give, and the addresses that tests let pass.
use Rattle.std.proofs.Common.{◌≡◌, ℕ, ◌^◌, ◌<◌, ◌≤◌, Bool, true, false, cond, ◌&&◌, ltb, leb, ℤ, pos, negsuc, ◌+ℤ◌, ◌-ℤ◌, ◌*ℤ◌, neg_ℤ, Ok, Err, refl, arith}
use lib.Signed.{mag, quot_z, rem_z}
use Rattle.std.proofs.lemmas.Bool.{cond_both, and_parts, leb-true, ltb-true, le-leb, lt-ltb}
use Rattle.program.specs.declared.fault.MachineCause.{MachineCause}
use Rattle.program.specs.declared.fault.MachineCause.TheVariants.{Overflow, DivisorZero, NullReference, ReferenceRange, NoCharacter}
use Rattle.program.specs.Faults.{machine_number}
use Rattle.arithmetic.specs.Cells.{binary, unary, within, is_zero}
use Rattle.arithmetic.specs.declared.operation.Binary.{Binary}
use Rattle.arithmetic.specs.declared.operation.Binary.TheVariants as B
use Rattle.arithmetic.specs.declared.operation.Unary.{Unary}
use Rattle.arithmetic.specs.declared.operation.Unary.TheVariants as U
use Rattle.instructions.specs.declared.layout.Layout.{Layout}
use Rattle.instructions.specs.Tests.{placed, referred, lettered}
use Rattle.controller.proofs.Inv.{Late}

within_late : (z : ℤ) → Late (within z)
within_late z = cond_both (ltb (mag z) (2 ^ 31)) (Ok z) (Err Overflow) Late (λ _. tt) (λ _. omega arith)

pub binary_late : (o : Binary) (a b : ℤ) → Late (binary o a b)
binary_late B.Add a b = within_late (a +ℤ b)
binary_late B.Sub a b = within_late (a -ℤ b)
binary_late B.Mul a b = within_late (a *ℤ b)
binary_late B.Div a b = cond_both (is_zero b) (Err DivisorZero) (within (quot_z a b)) Late (λ _. omega arith) (λ _. within_late (quot_z a b))
binary_late B.Mod a b = cond_both (is_zero b) (Err DivisorZero) (Ok (rem_z a b)) Late (λ _. omega arith) (λ _. tt)
binary_late B.And a b = tt
binary_late B.Or a b = tt
binary_late B.Eq a b = tt
binary_late B.Ne a b = tt
binary_late B.Lt a b = tt
binary_late B.Gt a b = tt
binary_late B.Le a b = tt
binary_late B.Ge a b = tt

pub unary_late : (o : Unary) (a : ℤ) → Late (unary o a)
unary_late U.Neg a = within_late (neg_ℤ a)
unary_late U.Not a = within_late (pos 1 -ℤ a)

pub placed_late : (f : MachineCause) (low high : ℕ) (z : ℤ) → 27 ≤ machine_number f → Late (placed f low high z)
placed_late f low high (pos j) l = cond_both (leb low j && ltb j high) (Ok j) (Err f) Late (λ _. tt) (λ _. l)
placed_late f low high (negsuc j) l = l

pub lettered_late : (z : ℤ) → Late (lettered z)
lettered_late (pos b) = cond_both (ltb b 256) (Ok b) (Err NoCharacter) Late (λ _. tt) (λ _. omega arith)
lettered_late (negsuc b) = omega arith

pub referred_late : (lay : Layout) (limit : ℕ) (r k : ℤ) → Late (referred lay limit r k)
referred_late lay limit r k = cond_both (is_zero r) (Err NullReference) (placed ReferenceRange lay.code limit (r +ℤ k)) Late (λ _. omega arith) (λ _. placed_late ReferenceRange lay.code limit (r +ℤ k) (omega arith))

chosen : (b : Bool) (j a : ℕ) (f : MachineCause) → cond b (Ok j) (Err f) ≡ Ok a → (b ≡ true) × (j ≡ a)
chosen true j a f e = (refl, cc)
chosen false j a f e = let z : ◌≡◌ {A = ℕ} 0 1 = cc in absurd (omega arith)

pub placed_ok : (f : MachineCause) (low high : ℕ) (z : ℤ) (a : ℕ) → placed f low high z ≡ Ok a → (low ≤ a) × (a < high)
placed_ok f low high (pos j) a e =
    let c = chosen (leb low j && ltb j high) j a f e in
    let t = and_parts (leb low j) (ltb j high) c.0 in
    (omega (arith, leb-true low j t.0, c.1), omega (arith, ltb-true j high t.1, c.1))
placed_ok f low high (negsuc j) a e = let z : ◌≡◌ {A = ℕ} 0 1 = cc in absurd (omega arith)

-- an address that a test lets pass
pub placed_at : (f : MachineCause) (low high j : ℕ) (z : ℤ) → z ≡ pos j → low ≤ j → j < high → placed f low high z ≡ Ok j
placed_at f low high j z e l h = rw (e, le-leb low j l, lt-ltb j high h)

pub referred_ok : (lay : Layout) (limit : ℕ) (r k : ℤ) (a : ℕ) → referred lay limit r k ≡ Ok a → (lay.code ≤ a) × (a < limit)
referred_ok lay limit r k a e = go (is_zero r) e
  where
    go : (b : Bool) → cond b (Err NullReference) (placed ReferenceRange lay.code limit (r +ℤ k)) ≡ Ok a → (lay.code ≤ a) × (a < limit)
    go true q = let z : ◌≡◌ {A = ℕ} 0 1 = cc in absurd (omega arith)
    go false q = placed_ok ReferenceRange lay.code limit (r +ℤ k) a q

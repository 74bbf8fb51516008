-- The tests that instructions make, each with its fault.
use Rattle.std.specs.Prelude.{ℕ, ◌+◌, cond, ◌&&◌, length, ℤ, pos, negsuc, ◌+ℤ◌, Ok, Err, Result, nat_le, nat_lt}
use Rattle.program.specs.declared.fault.MachineCause.{MachineCause}
use Rattle.program.specs.declared.fault.MachineCause.TheVariants.{NegativeCount, StackUnderflow, OutsideStack, StackMeetsHeap, NullReference, ReferenceRange, NoCharacter}
use Rattle.arithmetic.specs.Cells.{is_zero}
use Rattle.instructions.specs.declared.layout.Layout.{Layout}
use Rattle.instructions.specs.Core.{Act, faults}

-- 23
abbrev pub counted : ℤ → (ℕ → Act) → Act
counted (pos k) act c = act k c
counted (negsuc k) act c = faults NegativeCount c

-- 24: the stack has k cells
abbrev pub uses : ℕ → Act → Act
uses k act c = cond (nat_le (c.reg.sp + k) (length c.mem)) (act c) (faults StackUnderflow c)

-- 27: k more cells stay above the heap
abbrev pub room : ℕ → Act → Act
room k act c = cond (nat_le (c.reg.limit + k) c.reg.sp) (act c) (faults StackMeetsHeap c)

-- a test that gives a value, or its fault
abbrev pub fine : {X : Type 0} → Result X MachineCause → (X → Act) → Act
fine (Ok x) act c = act x c
fine (Err f) act c = faults f c

-- an address from low, below high
abbrev pub placed : MachineCause → ℕ → ℕ → ℤ → Result ℕ MachineCause
placed f low high (pos a) = cond (nat_le low a && nat_lt a high) (Ok a) (Err f)
placed f low high (negsuc a) = Err f

-- 25: fp + k is the address of a cell in use
abbrev pub in_use : ℤ → (ℕ → Act) → Act
in_use k act c = fine (placed OutsideStack c.reg.sp (length c.mem) (c.reg.fp +ℤ k)) act c

-- 28, 29: the reference is not 0, and k past it is from the code's end to the heap's
abbrev pub referred : Layout → ℕ → ℤ → ℤ → Result ℕ MachineCause
referred lay limit r k = cond (is_zero r) (Err NullReference) (placed ReferenceRange lay.code limit (r +ℤ k))

abbrev pub refers : Layout → ℤ → ℤ → (ℕ → Act) → Act
refers lay r k act c = fine (referred lay c.reg.limit r k) act c

-- 32
abbrev pub lettered : ℤ → Result ℕ MachineCause
lettered (pos b) = cond (nat_lt b 256) (Ok b) (Err NoCharacter)
lettered (negsuc b) = Err NoCharacter

abbrev pub character : ℤ → (ℕ → Act) → Act
character z act c = fine (lettered z) act c

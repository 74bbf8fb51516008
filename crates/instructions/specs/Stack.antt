-- What the instructions share. pc stands past the instruction already.
use Rattle.std.specs.Prelude.{ℕ, ◌+◌, ◌-◌, Bool, true, false, cond, not, List, [], ◌∷◌, length, ℤ, pos, ◌+ℤ◌, Result}
use Rattle.std.specs.Fmt.{signed_decimal}
use Rattle.program.specs.declared.fault.MachineCause.{MachineCause}
use Rattle.program.specs.declared.fault.MachineCause.TheVariants.{StackPointer, HeapLimit}
use Rattle.arithmetic.specs.Cells.{is_zero}
use Rattle.instructions.specs.declared.layout.Layout.{Layout}
use Rattle.instructions.specs.Core.{Core, Act, goes, shows, cell, top, under}
use Rattle.instructions.specs.Tests.{counted, uses, room, placed, in_use, refers, fine, character}
use Rattle.instructions.specs.Moves.{at_pc, at_sp, at_limit, put, popped, pushed}

-- M[sp + 1] := op(M[sp + 1], M[sp]); sp := sp + 1
abbrev pub joins : (ℤ → ℤ → Result ℤ MachineCause) → Act
joins op = uses 2 (λ c. fine (op (under c) (top c)) (λ x c. goes (popped 1 (put (c.reg.sp + 1) x c))) c)

-- M[sp] := op(M[sp])
abbrev pub turns : (ℤ → Result ℤ MachineCause) → Act
turns op = uses 1 (λ c. fine (op (top c)) (λ x c. goes (put c.reg.sp x c)) c)

abbrev pub pushes : (Core → ℤ) → Act
pushes x = room 1 (λ c. goes (pushed (x c) c))

-- the top goes, for what it says
abbrev pub pops : (ℤ → Core → Core) → Act
pops to = uses 1 (λ c. goes (popped 1 (to (top c) c)))

abbrev pub swaps : Act
swaps = uses 2 (λ c. goes (put c.reg.sp (under c) (put (c.reg.sp + 1) (top c) c)))

abbrev pub loads : ℤ → Act
loads k = in_use k (λ a. pushes (λ c. cell c a))

abbrev pub stores : ℤ → Act
stores k = uses 1 (in_use k (λ a c. goes (popped 1 (put a (top c) c))))

abbrev pub fetches : Layout → ℤ → Act
fetches lay k = uses 1 (λ c. refers lay (top c) k (λ a c. goes (put c.reg.sp (cell c a) c)) c)

abbrev pub assigns : Layout → ℤ → Act
assigns lay k = uses 2 (λ c. refers lay (under c) k (λ a c. goes (popped 2 (put a (top c) c))) c)

abbrev pub jumps : ℤ → Act
jumps to c = goes (at_pc to c)

-- the top goes; to an address where it is true, or where it is false
abbrev pub branches : Bool → ℤ → Act
branches true to = pops (λ x c. cond (is_zero x) c (at_pc to c))
branches false to = pops (λ x c. cond (is_zero x) (at_pc to c) c)

abbrev pub calls : Act
calls = uses 1 (λ c. goes (at_pc (top c) (put c.reg.sp c.reg.pc c)))

abbrev pub reserves : ℤ → Act
reserves k = counted k (λ k. room k (λ c. goes (at_sp (c.reg.sp - k) c)))

abbrev pub releases : ℤ → Act
releases k = counted k (λ k. uses k (λ c. goes (popped k c)))

abbrev pub returns : ℤ → Act
returns k = counted k (λ k. uses (k + 1) (λ c. goes (popped (k + 1) (at_pc (top c) c))))

-- 26: from hl + 1 to the number of cells
abbrev pub tops : Act
tops = uses 1 (λ c. fine (placed StackPointer c.reg.limit (length c.mem + 1) (top c)) (λ a c. goes (at_sp a c)) c)

-- 33: from C + D - 1 to sp before the pop; limit is one more
abbrev pub limits : Layout → Act
limits lay = uses 1 (λ c. fine (placed HeapLimit lay.floor (c.reg.sp + 2) (top c +ℤ pos 1)) (λ a c. goes (popped 1 (at_limit a c))) c)

abbrev pub spelled : Bool → List ℕ
spelled true = 116 ∷ 114 ∷ 117 ∷ 101 ∷ []
spelled false = 102 ∷ 97 ∷ 108 ∷ 115 ∷ 101 ∷ []

abbrev pub flags : Act
flags = uses 1 (λ c. shows (spelled (not (is_zero (top c)))) (popped 1 c))

abbrev pub letters : Act
letters = uses 1 (λ c. character (top c) (λ b c. shows (b ∷ []) (popped 1 c)) c)

abbrev pub numbers : Act
numbers = uses 1 (λ c. shows (signed_decimal (top c)) (popped 1 c))

-- the byte referred to; 0 ends the string, and after another the same instruction goes on at the next
abbrev pub strings : Layout → ℤ → Act
strings lay at = uses 1 (λ c. refers lay (top c) (pos 0) (λ a c. cond (is_zero (cell c a)) (goes (popped 1 c)) (character (cell c a) (λ b c. shows (b ∷ []) (put c.reg.sp (top c +ℤ pos 1) (at_pc at c))) c)) c)

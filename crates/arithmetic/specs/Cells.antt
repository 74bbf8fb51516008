-- What the arithmetic instructions make of cells.
use Rattle.std.specs.Prelude.{◌^◌, Bool, true, false, cond, not, ◌&&◌, ◌||◌, ℤ, pos, negsuc, ◌+ℤ◌, ◌-ℤ◌, ◌*ℤ◌, neg_ℤ, Ok, Err, Result, ◌==◌, int_div, int_le, int_lt, int_rem, nat_lt}
use Rattle.std.specs.Int.Signed.{mag}
use Rattle.program.specs.declared.fault.MachineCause.{MachineCause}
use Rattle.program.specs.declared.fault.MachineCause.TheVariants.{DivisorZero, Overflow}
use Rattle.arithmetic.specs.declared.operation.Binary.{Binary}
use Rattle.arithmetic.specs.declared.operation.Binary.TheVariants.{Add, Sub, Mul, Div, Mod, And, Or, Eq, Ne, Lt, Gt, Le, Ge}
use Rattle.arithmetic.specs.declared.operation.Unary.{Unary}
use Rattle.arithmetic.specs.declared.operation.Unary.TheVariants.{Neg, Not}

-- true is 1, and false 0
abbrev pub bit : Bool → ℤ
bit true = pos 1
bit false = pos 0

-- zero stands for false
abbrev pub is_zero : ℤ → Bool
is_zero (pos a) = a == 0
is_zero (negsuc a) = false

-- are two cells equal?
abbrev pub equal_z : ℤ → ℤ → Bool
equal_z (pos a) (pos b) = a == b
equal_z (pos a) (negsuc b) = false
equal_z (negsuc a) (pos b) = false
equal_z (negsuc a) (negsuc b) = a == b

-- a result within 32 signed bits, or fault 31
abbrev pub within : ℤ → Result ℤ MachineCause
within z = cond (nat_lt (mag z) (2 ^ 31)) (Ok z) (Err Overflow)

-- truncated toward zero; fault 30 at a divisor of 0
abbrev pub divided : ℤ → ℤ → Result ℤ MachineCause
divided a b = cond (is_zero b) (Err DivisorZero) (within (int_div a b))

-- with the dividend's sign; fault 30 at a divisor of 0
abbrev pub remained : ℤ → ℤ → Result ℤ MachineCause
remained a b = cond (is_zero b) (Err DivisorZero) (Ok (int_rem a b))

-- one cell of two
abbrev pub binary : Binary → ℤ → ℤ → Result ℤ MachineCause
binary Add a b = within (a +ℤ b)
binary Sub a b = within (a -ℤ b)
binary Mul a b = within (a *ℤ b)
binary Div a b = divided a b
binary Mod a b = remained a b
binary And a b = Ok (bit (not (is_zero a) && not (is_zero b)))
binary Or a b = Ok (bit (not (is_zero a) || not (is_zero b)))
binary Eq a b = Ok (bit (equal_z a b))
binary Ne a b = Ok (bit (not (equal_z a b)))
binary Lt a b = Ok (bit (int_lt a b))
binary Gt a b = Ok (bit (int_lt b a))
binary Le a b = Ok (bit (int_le a b))
binary Ge a b = Ok (bit (int_le b a))

-- one cell of another
abbrev pub unary : Unary → ℤ → Result ℤ MachineCause
unary Neg a = within (neg_ℤ a)
unary Not a = within (pos 1 -ℤ a)

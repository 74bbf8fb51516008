-- One line an instruction: at is its address, k its argument cell, and pc stands past it already.
use Rattle.std.specs.Prelude.{true, false, [], ◌∷◌, ℤ, pos, ◌-ℤ◌}
use Rattle.arithmetic.specs.Cells.{binary, unary}
use Rattle.arithmetic.specs.declared.operation.Binary.TheVariants as B
use Rattle.arithmetic.specs.declared.operation.Unary.TheVariants as U
use Rattle.instructions.specs.declared.layout.Layout.{Layout}
use Rattle.isa.specs.declared.opcode.Opcode.{Opcode}
use Rattle.isa.specs.declared.opcode.Opcode.TheVariants.{Push, Add, Sub, Mul, Div, Mod, Neg, And, Or, Not, Eq, Ne, Lt, Gt, Le, Ge, Dup, Pop, Swap, Jump, Bf, Bt, Nop, Read, Bprint, Cprint, Iprint, Sprint, Prnln, Load, Store, Loadref, Storeref, Deref, Call, Loadfp, Loadsp, Storefp, Rmem, Fmem, Ret, Halt, Loadpc, Storepc, Storesp, Loadhp, Storehp, Loadhl, Storehl}
use Rattle.instructions.specs.Core.{Act, goes, halts, takes, shows, top}
use Rattle.instructions.specs.Tests.{uses, room}
use Rattle.instructions.specs.Moves.{at_pc, at_fp, at_hp}
use Rattle.instructions.specs.Stack.{joins, turns, pushes, pops, swaps, loads, stores, fetches, assigns, jumps, branches, calls, reserves, releases, returns, tops, limits, flags, letters, numbers, strings}

abbrev pub exec : Layout → ℤ → Opcode → ℤ → Act
exec lay at Push k = pushes (λ _. k)
exec lay at Add k = joins (binary B.Add)
exec lay at Sub k = joins (binary B.Sub)
exec lay at Mul k = joins (binary B.Mul)
exec lay at Div k = joins (binary B.Div)
exec lay at Mod k = joins (binary B.Mod)
exec lay at Neg k = turns (unary U.Neg)
exec lay at And k = joins (binary B.And)
exec lay at Or k = joins (binary B.Or)
exec lay at Not k = turns (unary U.Not)
exec lay at Eq k = joins (binary B.Eq)
exec lay at Ne k = joins (binary B.Ne)
exec lay at Lt k = joins (binary B.Lt)
exec lay at Gt k = joins (binary B.Gt)
exec lay at Le k = joins (binary B.Le)
exec lay at Ge k = joins (binary B.Ge)
exec lay at Dup k = uses 1 (pushes top)
exec lay at Pop k = pops (λ x c. c)
exec lay at Swap k = swaps
exec lay at Jump k = jumps k
exec lay at Bf k = branches false k
exec lay at Bt k = branches true k
exec lay at Nop k = goes
exec lay at Read k = room 1 takes
exec lay at Bprint k = flags
exec lay at Cprint k = letters
exec lay at Iprint k = numbers
exec lay at Sprint k = strings lay at
exec lay at Prnln k = shows (10 ∷ [])
exec lay at Load k = loads k
exec lay at Store k = stores k
exec lay at Loadref k = fetches lay k
exec lay at Storeref k = assigns lay k
exec lay at Deref k = fetches lay (pos 0)
exec lay at Call k = calls
exec lay at Loadfp k = pushes (λ c. c.reg.fp)
exec lay at Loadsp k = pushes (λ c. pos c.reg.sp -ℤ pos 1)
exec lay at Storefp k = pops at_fp
exec lay at Rmem k = reserves k
exec lay at Fmem k = releases k
exec lay at Ret k = returns k
exec lay at Halt k = halts
exec lay at Loadpc k = pushes (λ _. at)
exec lay at Storepc k = pops at_pc
exec lay at Storesp k = tops
exec lay at Loadhp k = pushes (λ c. c.reg.hp)
exec lay at Storehp k = pops at_hp
exec lay at Loadhl k = pushes (λ c. pos c.reg.limit -ℤ pos 1)
exec lay at Storehl k = limits lay

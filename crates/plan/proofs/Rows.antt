-- Rows whose cells their kind decides.
use Rattle.std.proofs.Common.{◌≡◌, ℕ, refl}
use Rattle.isa.specs.declared.opcode.Opcode.{Opcode}
use Rattle.isa.specs.declared.opcode.Opcode.TheVariants.{Push, Add, Sub, Mul, Div, Mod, Neg, And, Or, Not, Eq, Ne, Lt, Gt, Le, Ge, Dup, Pop, Swap, Jump, Bf, Bt, Nop, Read, Bprint, Cprint, Iprint, Sprint, Prnln, Load, Store, Loadref, Storeref, Deref, Call, Loadfp, Loadsp, Storefp, Rmem, Fmem, Ret, Halt, Loadpc, Storepc, Storesp, Loadhp, Storehp, Loadhl, Storehl}
use Rattle.plan.specs.declared.row.Row.{Row}
use Rattle.plan.specs.declared.kind.Kind.{Kind}
use Rattle.plan.specs.declared.kind.Kind.TheVariants.{Moves, Ruleless, Pushes, Ends, Halts, Jumps, Branches, Frames, Counts}
use Rattle.plan.specs.Kinds.{table, kind}

abbrev pub Fixed : Kind → Row → Type 0
Fixed Moves r = Unit {0}
Fixed Ruleless r = Unit {0}
Fixed Pushes r = (r.uses ≡ 0) × (r.gives ≡ 1)
Fixed Ends r = (r.uses ≡ 0) × (r.gives ≡ 0)
Fixed Halts r = (r.uses ≡ 0) × (r.gives ≡ 0)
Fixed Jumps r = (r.uses ≡ 0) × (r.gives ≡ 0)
Fixed Branches r = (r.uses ≡ 1) × (r.gives ≡ 0)
Fixed Frames r = Unit {0}
Fixed Counts r = Unit {0}

pub fixed : (op : Opcode) (n : ℕ) → Fixed (kind op) (table op n)
fixed Push n = (refl, refl)
fixed Add n = tt
fixed Sub n = tt
fixed Mul n = tt
fixed Div n = tt
fixed Mod n = tt
fixed Neg n = tt
fixed And n = tt
fixed Or n = tt
fixed Not n = tt
fixed Eq n = tt
fixed Ne n = tt
fixed Lt n = tt
fixed Gt n = tt
fixed Le n = tt
fixed Ge n = tt
fixed Dup n = tt
fixed Pop n = tt
fixed Swap n = tt
fixed Jump n = (refl, refl)
fixed Bf n = (refl, refl)
fixed Bt n = (refl, refl)
fixed Nop n = tt
fixed Read n = tt
fixed Bprint n = tt
fixed Cprint n = tt
fixed Iprint n = tt
fixed Sprint n = tt
fixed Prnln n = tt
fixed Load n = tt
fixed Store n = tt
fixed Loadref n = tt
fixed Storeref n = tt
fixed Deref n = tt
fixed Call n = tt
fixed Loadfp n = tt
fixed Loadsp n = tt
fixed Storefp n = (refl, refl)
fixed Rmem n = tt
fixed Fmem n = tt
fixed Ret n = tt
fixed Halt n = (refl, refl)
fixed Loadpc n = tt
fixed Storepc n = tt
fixed Storesp n = tt
fixed Loadhp n = tt
fixed Storehp n = tt
fixed Loadhl n = tt
fixed Storehl n = tt

-- One register or one cell altered.
use Rattle.std.specs.Prelude.{ℕ, ◌+◌, ◌-◌, ℤ, slice_set}
use Rattle.instructions.specs.Core.{Core, core}

abbrev pub at_pc : ℤ → Core → Core
at_pc x c = core (record { pc = x; sp = c.reg.sp; fp = c.reg.fp; hp = c.reg.hp; limit = c.reg.limit }) c.mem

abbrev pub at_sp : ℕ → Core → Core
at_sp x c = core (record { pc = c.reg.pc; sp = x; fp = c.reg.fp; hp = c.reg.hp; limit = c.reg.limit }) c.mem

abbrev pub at_fp : ℤ → Core → Core
at_fp x c = core (record { pc = c.reg.pc; sp = c.reg.sp; fp = x; hp = c.reg.hp; limit = c.reg.limit }) c.mem

abbrev pub at_hp : ℤ → Core → Core
at_hp x c = core (record { pc = c.reg.pc; sp = c.reg.sp; fp = c.reg.fp; hp = x; limit = c.reg.limit }) c.mem

abbrev pub at_limit : ℕ → Core → Core
at_limit x c = core (record { pc = c.reg.pc; sp = c.reg.sp; fp = c.reg.fp; hp = c.reg.hp; limit = x }) c.mem

abbrev pub put : ℕ → ℤ → Core → Core
put a x c = core c.reg (slice_set c.mem a x)

abbrev pub popped : ℕ → Core → Core
popped k c = at_sp (c.reg.sp + k) c

abbrev pub pushed : ℤ → Core → Core
pushed x c = put (c.reg.sp - 1) x (at_sp (c.reg.sp - 1) c)

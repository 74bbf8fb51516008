-- What a function that does an instruction leaves.
use Rattle.std.specs.Prelude.{◌≡◌, Result}
use Rattle.program.specs.declared.fault.MachineCause.{MachineCause}
use Rattle.instructions.specs.declared.processor.Processor.{Processor}
use Rattle.instructions.specs.declared.effect.Effect.{Effect}
use Rattle.instructions.specs.Core.{Act, core}
use Rattle.instructions.specs.Effects.{left, Held}

-- it answers and leaves, in the same memory, what the act comes to, with what is asked of the port still to be written
pub record Does (act : Act) (before after : Processor) (result : Result Effect MachineCause) : Type 0 where
  pub lender : after.memory.ghost_name ≡ before.memory.ghost_name
  pub is : left result after.registers after.memory.now ≡ act (core before.registers before.memory.now)
  pub held : Held result after.registers before.memory.now after.memory.now

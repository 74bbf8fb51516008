-- What a call of code left, as the instruction's next.
use Rattle.std.specs.Prelude.{◌≡◌, ℕ, ◌+◌, ◌<◌, ◌≤◌, List, [], ◌∷◌, length, ℤ, Ok, Err, Result}
use Rattle.std.specs.Fmt.{signed_decimal}
use Rattle.program.specs.declared.fault.MachineCause.{MachineCause}
use Rattle.instructions.specs.declared.registers.Registers.{Registers}
use Rattle.instructions.specs.declared.effect.Text.{Text}
use Rattle.instructions.specs.declared.effect.Text.TheVariants.{Byte, Flag, Number}
use Rattle.instructions.specs.declared.effect.Effect.{Effect}
use Rattle.instructions.specs.declared.effect.Effect.TheVariants.{Done, Halt, Take, Show, Spell}
use Rattle.instructions.specs.Core.{Next, Act, goes, halts, takes, shows, faults, core}
use Rattle.instructions.specs.Moves.{put}
use Rattle.instructions.specs.Stack.{spelled}

-- the bytes of a text
abbrev pub written : Text → List ℕ
written (Byte b) = b ∷ []
written (Flag b) = spelled b
written (Number z) = signed_decimal z

-- what is asked of the port
abbrev pub asks : Effect → Act
asks Done c = goes c
asks Halt c = halts c
asks Take c = takes c
asks (Show t) c = shows (written t) c
asks (Spell b x) c = shows (b ∷ []) (put c.reg.sp x c)

abbrev pub left : Result Effect MachineCause → Registers → List ℤ → Next
left (Ok e) r m = asks e (core r m)
left (Err f) r m = faults f (core r m)

-- what is still to be written has a place
abbrev pub Roomy : Effect → Registers → ℕ → Type 0
Roomy Done r n = Unit {0}
Roomy Halt r n = Unit {0}
Roomy Take r n = r.limit + 1 ≤ r.sp
Roomy (Show t) r n = Unit {0}
Roomy (Spell b x) r n = r.sp < n

-- only what is done has written
abbrev pub Unwritten : Effect → List ℤ → List ℤ → Type 0
Unwritten Done before after = Unit {0}
Unwritten Halt before after = after ≡ before
Unwritten Take before after = after ≡ before
Unwritten (Show t) before after = after ≡ before
Unwritten (Spell b x) before after = after ≡ before

abbrev pub Held : Result Effect MachineCause → Registers → List ℤ → List ℤ → Type 0
Held (Ok e) r before after = Roomy e r (length before) × Unwritten e before after
Held (Err f) r before after = after ≡ before

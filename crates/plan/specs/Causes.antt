-- When a program is refused, and where.
use Rattle.std.specs.Prelude.{◌≡◌, ℕ, ◌+◌, ◌-◌, ◌<◌, ◌≤◌, ◌⊎◌, ℤ, pos, ◌<ℤ◌, Some, ◌≢◌}
use Rattle.program.specs.declared.fault.CheckCause.{CheckCause}
use Rattle.program.specs.declared.fault.CheckCause.TheVariants.{TableSize, MemoryLength, NoDivision, BadEntry, NoInstruction, NoRule, ShallowDepth, OutsideFrame, TooDeep, DifferentWays}
use Rattle.program.specs.declared.unit.Unit.{Unit as UnitRecord}
use Rattle.isa.specs.declared.instruction.Instruction.{Instruction}
use Rattle.isa.specs.Code.{instruction, Divided}
use Rattle.plan.specs.declared.kind.Kind.{Kind}
use Rattle.plan.specs.declared.kind.Kind.TheVariants.{Moves, Ruleless, Pushes, Ends, Halts, Jumps, Branches, Frames, Counts}
use Rattle.plan.specs.declared.planned.Planned.{Planned}
use Rattle.plan.specs.Kinds.{uses, gives, kind}
use Rattle.plan.specs.Programs.{Program, Stops, Listed, Opens, Opened, Sits}
use Rattle.plan.specs.Rules.{CallFollows, Closes, InFrame}
use Rattle.plan.specs.Walks.{Walked}

-- 14: the first bad unit in their order, with its entry
pub record BadUnit (P : Program) (t : ℤ) : Type 0 where
  pub k : ℕ
  pub v : UnitRecord
  pub address : t ≡ pos v.entry
  pub listed : Listed P.units k v
  pub bad : Opens P k v → ⊥
  pub before : (j : ℕ) (w : UnitRecord) → j < k → Listed P.units j w → Opens P j w

-- 16: no rule fits the instruction i at a place
abbrev pub Unruled : Program → ℕ → ℕ → ℕ → Instruction → Kind → Type 0
Unruled P a b h i Moves = ⊥
Unruled P a b h i Ruleless = Unit {0}
Unruled P a b h i Pushes = CallFollows P.code a × ((k : ℕ) (v : UnitRecord) → Listed P.units k v → i.argument ≢ pos v.entry)
Unruled P a b h i Ends = (k : ℕ) (v : UnitRecord) → Closes P a b h k v → ⊥
Unruled P a b h i Halts = ⊥
Unruled P a b h i Jumps = ⊥
Unruled P a b h i Branches = ⊥
Unruled P a b h i Frames = ⊥
Unruled P a b h i Counts = i.argument <ℤ pos 0

-- a call of a unit with more argument and result cells than the depth has
abbrev pub FewForCall : Program → ℕ → ℕ → Instruction → Kind → Type 0
FewForCall P a h i Moves = ⊥
FewForCall P a h i Ruleless = ⊥
FewForCall P a h i Pushes = CallFollows P.code a × ((k : ℕ) × (v : UnitRecord) × Listed P.units k v × (i.argument ≡ pos v.entry) × (h < v.arguments + v.results))
FewForCall P a h i Ends = ⊥
FewForCall P a h i Halts = ⊥
FewForCall P a h i Jumps = ⊥
FewForCall P a h i Branches = ⊥
FewForCall P a h i Frames = ⊥
FewForCall P a h i Counts = ⊥

-- 18: the offset of a LOAD or STORE is outside the frame
abbrev pub Outside : Program → ℕ → ℕ → Instruction → Kind → Type 0
Outside P b h i Moves = ⊥
Outside P b h i Ruleless = ⊥
Outside P b h i Pushes = ⊥
Outside P b h i Ends = ⊥
Outside P b h i Halts = ⊥
Outside P b h i Jumps = ⊥
Outside P b h i Branches = ⊥
Outside P b h i Frames = InFrame P.units b h i.argument → ⊥
Outside P b h i Counts = ⊥

-- a cause from 16 to 19 holds at a place with the instruction i
abbrev pub Holding : Program → ℕ → ℕ → ℕ → Instruction → CheckCause → Type 0
Holding P a b h i TableSize = ⊥
Holding P a b h i MemoryLength = ⊥
Holding P a b h i NoDivision = ⊥
Holding P a b h i BadEntry = ⊥
Holding P a b h i NoInstruction = ⊥
Holding P a b h i NoRule = Unruled P a b h i (kind i.op)
Holding P a b h i ShallowDepth = (h < uses i) ⊎ FewForCall P a h i (kind i.op)
Holding P a b h i OutsideFrame = Outside P b h i (kind i.op)
Holding P a b h i TooDeep = (uses i ≤ h) × (1000 < h - uses i + gives i)
Holding P a b h i DifferentWays = ⊥

-- 15: a walk leads to an address that begins no instruction or lies in an opening
pub record AtNone (P : Program) (t : ℤ) : Type 0 where
  pub b : ℕ
  pub h : ℕ
  pub walked : Walked P t b h
  pub unfit : (a : ℕ) → t ≡ pos a → Sits P a → ⊥

-- 16 to 19: a walk leads to an instruction where the cause holds
pub record AtPlace (P : Program) (c : CheckCause) (t : ℤ) : Type 0 where
  pub a : ℕ
  pub b : ℕ
  pub h : ℕ
  pub i : Instruction
  pub address : t ≡ pos a
  pub walked : Walked P (pos a) b h
  pub sits : Sits P a
  pub is : instruction P.code a ≡ Some i
  pub holds : Holding P a b h i c

-- 20: two walks lead to an address with different bodies or depths
pub record AtTwo (P : Program) (t : ℤ) : Type 0 where
  pub a : ℕ
  pub one : Planned
  pub two : Planned
  pub address : t ≡ pos a
  pub walked : Walked P (pos a) one.body one.depth
  pub also : Walked P (pos a) two.body two.depth
  pub unlike : one ≡ two → ⊥

-- the refusal with the cause c at the address t is due
abbrev pub Due : Program → CheckCause → ℤ → Type 0
Due P TableSize t = ⊥
Due P MemoryLength t = ⊥
Due P NoDivision t = (a : ℕ) × (t ≡ pos a) × Stops P.code a
Due P BadEntry t = BadUnit P t
Due P NoInstruction t = AtNone P t
Due P NoRule t = AtPlace P NoRule t
Due P ShallowDepth t = AtPlace P ShallowDepth t
Due P OutsideFrame t = AtPlace P OutsideFrame t
Due P TooDeep t = AtPlace P TooDeep t
Due P DifferentWays t = AtTwo P t

-- what is tested before walks: the code divides, and every unit is good
pub record Sound (P : Program) : Type 0 where
  pub divided : Divided P.code
  pub opened : Opened P

-- it is a cause's turn: 13 comes first, then 14, then the causes of walks
abbrev pub Turn : Program → CheckCause → Type 0
Turn P TableSize = ⊥
Turn P MemoryLength = ⊥
Turn P NoDivision = Unit {0}
Turn P BadEntry = Divided P.code
Turn P NoInstruction = Sound P
Turn P NoRule = Sound P
Turn P ShallowDepth = Sound P
Turn P OutsideFrame = Sound P
Turn P TooDeep = Sound P
Turn P DifferentWays = Sound P

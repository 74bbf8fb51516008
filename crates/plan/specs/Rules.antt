-- The rule of the instruction i at a place: at address a, in body b, with depth h.
use Rattle.std.specs.Prelude.{◌≡◌, ℕ, zero, suc, ◌+◌, ◌-◌, ◌<◌, ◌≤◌, ◌⊎◌, List, [], ◌∷◌, ℤ, pos, neg_ℤ, ◌≤ℤ◌, ◌<ℤ◌, Some}
use Rattle.std.specs.List.{AllByRecursion}
use Rattle.program.specs.declared.unit.Unit.{Unit as UnitRecord}
use Rattle.isa.specs.declared.opcode.Opcode.TheVariants.{Call, Ret}
use Rattle.isa.specs.declared.instruction.Instruction.{Instruction}
use Rattle.isa.specs.Code.{instruction}
use Rattle.isa.specs.Table.{size}
use Rattle.plan.specs.declared.kind.Kind.{Kind}
use Rattle.plan.specs.declared.kind.Kind.TheVariants.{Moves, Ruleless, Pushes, Ends, Halts, Jumps, Branches, Frames, Counts}
use Rattle.plan.specs.declared.successor.Successor.{Successor}
use Rattle.plan.specs.Kinds.{uses, gives, kind}
use Rattle.plan.specs.Programs.{Program, opcode_in, Listed}

-- a successor: its address, and the depth there; it stays in the body
abbrev pub to : ℤ → ℕ → Successor
to t d = record { address = t; depth = d }

-- the address after an instruction
abbrev pub after : ℕ → Instruction → ℤ
after a i = pos (a + size i.op)

-- the cells that it uses are there, and the next instruction follows
abbrev pub Onto : ℕ → ℕ → Instruction → List Successor → Type 0
Onto a h i ss = (uses i ≤ h) × (ss ≡ to (after a i) (h - uses i + gives i) ∷ [])

-- a CALL stands after the PUSH at a
abbrev pub CallFollows : List ℤ → ℕ → Type 0
CallFollows code a = opcode_in code (a + 2) ≡ Some Call

-- a call of v, the k-th unit, whose entry is e: its cells are there, also after the PUSH the depth is at most 1,000,
-- and it comes back after the CALL, without the arguments
pub record Calls (us : List UnitRecord) (a h : ℕ) (e : ℤ) (k : ℕ) (v : UnitRecord) (ss : List Successor) : Type 0 where
  pub listed : Listed us k v
  pub enters : e ≡ pos v.entry
  pub deep : v.arguments + v.results ≤ h
  pub under : h < 1000
  pub back : ss ≡ to (pos (a + 3)) (h - v.arguments) ∷ []

-- the end of v, the k-th unit: no cells of its own are left, and a RET of its arguments follows
pub record Closes (P : Program) (a b h k : ℕ) (v : UnitRecord) : Type 0 where
  pub returns : instruction P.code (a + 1) ≡ Some (record { op = Ret; argument = pos v.arguments })
  pub listed : Listed P.units k v
  pub body : b ≡ suc k
  pub empty : h ≡ 0

-- the offset n is that of an argument or of the result, if the body is a unit's
abbrev pub InCall : List UnitRecord → ℕ → ℤ → Type 0
InCall us zero n = ⊥
InCall us (suc k) n = (v : UnitRecord) × Listed us k v × (pos 3 ≤ℤ n) × (n ≤ℤ pos (v.arguments + 2 + v.results))

-- the offset n lies in the frame: among the body's own cells, its arguments and its result
abbrev pub InFrame : List UnitRecord → ℕ → ℕ → ℤ → Type 0
InFrame us b h n = ((neg_ℤ (pos h) <ℤ n) × (n ≤ℤ pos 0)) ⊎ InCall us b n

-- the rule of each kind: when it fits, and its successors
abbrev pub RuleOf : Program → ℕ → ℕ → ℕ → Instruction → List Successor → Kind → Type 0
RuleOf P a b h i ss Moves = Onto a h i ss
RuleOf P a b h i ss Ruleless = ⊥
RuleOf P a b h i ss Pushes = (CallFollows P.code a × ((k : ℕ) × (v : UnitRecord) × Calls P.units a h i.argument k v ss)) ⊎ ((CallFollows P.code a → ⊥) × Onto a h i ss)
RuleOf P a b h i ss Ends = ((k : ℕ) × (v : UnitRecord) × Closes P a b h k v) × (ss ≡ [])
RuleOf P a b h i ss Halts = ss ≡ []
RuleOf P a b h i ss Jumps = ss ≡ to i.argument h ∷ []
RuleOf P a b h i ss Branches = (1 ≤ h) × (ss ≡ to i.argument (h - 1) ∷ to (after a i) (h - 1) ∷ [])
RuleOf P a b h i ss Frames = InFrame P.units b h i.argument × Onto a h i ss
RuleOf P a b h i ss Counts = (pos 0 ≤ℤ i.argument) × Onto a h i ss

-- the rule of the instruction fits, and gives the successors ss
abbrev pub Rule : Program → ℕ → ℕ → ℕ → Instruction → List Successor → Type 0
Rule P a b h i ss = RuleOf P a b h i ss (kind i.op)

-- the depths of successors are at most 1,000
abbrev pub Low : List Successor → Type 0
Low ss = AllByRecursion (λ (s : Successor). s.depth ≤ 1000) ss

-- the rule of the place fits, with the successors ss
pub record Steps (P : Program) (a b h : ℕ) (ss : List Successor) : Type 0 where
  pub what : Instruction
  pub is : instruction P.code a ≡ Some what
  pub rule : Rule P a b h what ss
  pub low : Low ss

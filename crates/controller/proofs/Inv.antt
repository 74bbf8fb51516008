-- Where a lawful machine can be, and what a step leads to.
use Rattle.std.proofs.Common.{◌≡◌, ℕ, ◌+◌, ◌-◌, ◌<◌, ◌≤◌, Bool, true, false, cond, leb, List, [], ◌∷◌, length, take, ℤ, pos, ◌+ℤ◌, Some, None, Ok, Err, Option, Result, sym, refl, ap, ◌∙◌, subst, arith}
use Rattle.std.proofs.lemmas.Bool.{cond_both, leb-true, leb-false}
use Rattle.program.specs.declared.fault.MachineCause.{MachineCause}
use Rattle.program.specs.declared.fault.MachineCause.TheVariants.{StackUnderflow, StackMeetsHeap}
use Rattle.program.specs.declared.unit.Unit.{Unit as UnitRecord}
use Rattle.program.specs.Faults.{machine_number}
use Rattle.isa.specs.declared.opcode.Opcode.{Opcode}
use Rattle.isa.specs.declared.opcode.Opcode.TheVariants.{Call, Ret}
use Rattle.isa.specs.declared.instruction.Instruction.{Instruction}
use Rattle.isa.specs.Code.{instruction}
use Rattle.isa.specs.Table.{size}
use Rattle.instructions.specs.Core.{Core, Next, Act, goes, halts, takes, shows, faults, cell, top}
use Rattle.instructions.specs.Exec.{exec}
use Rattle.instructions.specs.Moves.{at_pc, pushed}
use Rattle.instructions.specs.Tests.{uses, room, fine}
use Rattle.machine.specs.declared.fetch.Fetched.{Fetched}
use Rattle.machine.specs.Fetch.{fetched, followed}
use Rattle.machine.specs.Step.{does, performed}
use Rattle.plan.specs.Programs.{Listed, opcode_in, opcode_of}
use Rattle.plan.specs.Lawful.{Plan, Has as Planned}
use Rattle.controller.specs.Law.{doing, is_op}
use Rattle.controller.proofs.Chain.{Box, Frame, Waits, Chain, lim}

pub record Ground (B : Box) (x : Core) : Type 0 where
  pub len : length x.mem ≡ B.size
  pub code : take B.layout.code x.mem ≡ B.program.code
  pub ordered : B.layout.code ≤ B.layout.floor
  pub low : x.reg.limit ≤ x.reg.sp
  pub above : B.layout.floor ≤ x.reg.limit

-- at a place of the plan
pub record Placed (B : Box) (p : Plan) (F : List Frame) (x : Core) : Type 0 where
  pub a : ℕ
  pub f : ℕ
  pub h : ℕ
  pub b : ℕ
  pub pc_is : x.reg.pc ≡ pos a
  pub fp_is : x.reg.fp ≡ pos f
  pub sp_is : x.reg.sp + h ≡ f + 1
  pub planned : Planned p a b h
  pub chain : Chain B p x.mem F f b

-- a call of v, the k-th unit, from the place a
pub record Enters (B : Box) (p : Plan) (a b h : ℕ) (e : ℤ) (k : ℕ) (v : UnitRecord) : Type 0 where
  pub is_call : opcode_in B.program.code (a + 2) ≡ Some Call
  pub listed : Listed B.program.units k v
  pub enters : e ≡ pos v.entry
  pub deep : v.arguments + v.results ≤ h
  pub back : Planned p (a + 3) b (h - v.arguments)

-- between the PUSH and the CALL
pub record Calls (B : Box) (p : Plan) (F : List Frame) (x : Core) : Type 0 where
  pub a : ℕ
  pub f : ℕ
  pub h : ℕ
  pub b : ℕ
  pub u : ℕ
  pub v : UnitRecord
  pub k : ℤ
  pub pc_is : x.reg.pc ≡ pos (a + 2)
  pub fp_is : x.reg.fp ≡ pos f
  pub sp_is : x.reg.sp + 1 + h ≡ f + 1
  pub calls : Enters B p a b h k u v
  pub top_is : top x ≡ k
  pub chain : Chain B p x.mem F f b

-- in the opening, after n of its instructions
pub record Opens (B : Box) (p : Plan) (n : ℕ) (x : Core) (g : Frame) (F : List Frame) : Type 0 where
  pub pc_is : x.reg.pc ≡ pos (g.unit.entry + n)
  pub fp_is : x.reg.fp ≡ pos g.link
  pub sp_is : x.reg.sp + n ≡ g.cell
  pub linked : 1 ≤ n → cell x (g.cell - 1) ≡ pos g.link
  pub level : 2 ≤ n → top x ≡ pos x.reg.sp
  pub waits : Waits B p x.mem g
  pub chain : Chain B p x.mem F g.link g.caller

-- between the STOREFP and the RET of an end
pub record Closes (B : Box) (p : Plan) (x : Core) (g : Frame) (F : List Frame) : Type 0 where
  pub a : ℕ
  pub pc_is : x.reg.pc ≡ pos a
  pub is_ret : instruction B.program.code a ≡ Some (record { op = Ret; argument = pos g.unit.arguments })
  pub fp_is : x.reg.fp ≡ pos g.link
  pub sp_is : x.reg.sp ≡ g.cell
  pub waits : Waits B p x.mem g
  pub chain : Chain B p x.mem F g.link g.caller

abbrev pub Newest : (Frame → List Frame → Type 0) → List Frame → Type 0
Newest Q [] = ⊥
Newest Q (g ∷ F) = Q g F

pub data Inv (B : Box) (p : Plan) (F : List Frame) (x : Core) : Type 0 where
  placed : Placed B p F x → Inv B p F x
  calling : Calls B p F x → Inv B p F x
  opens : (n : ℕ) → n < 3 → Newest (Opens B p n x) F → Inv B p F x
  closes : Newest (Closes B p x) F → Inv B p F x

-- how the frames move by a step that does m
pub data Moves (x y : Core) (m : Option Fetched) (F G : List Frame) : Type 0 where
  same : is_op Call m ≡ 0 → is_op Ret m ≡ 0 → G ≡ F → Moves x y m F G
  more : is_op Call m ≡ 1 → is_op Ret m ≡ 0 → (g : Frame) → G ≡ g ∷ F → top x ≡ pos g.unit.entry → g.cell ≡ x.reg.sp → x.reg.fp ≡ pos g.link → x.reg.pc +ℤ pos 1 ≡ pos g.back → Moves x y m F G
  less : is_op Call m ≡ 0 → is_op Ret m ≡ 1 → (g : Frame) → F ≡ g ∷ G → y.reg.sp ≡ g.cell + 1 + g.unit.arguments → y.reg.fp ≡ pos g.link → y.reg.pc ≡ pos g.back → Moves x y m F G

pub record After (B : Box) (p : Plan) (F : List Frame) (x y : Core) : Type 0 where
  pub frames : List Frame
  pub inv : Inv B p frames y
  pub ground : Ground B y
  pub kept : (i : ℕ) → lim B F ≤ i → cell y i ≡ cell x i
  pub moves : Moves x y (doing B.layout x) F frames

-- faults are 27 or later, and all else leads to such a state again
abbrev pub Good : Box → Plan → List Frame → Core → Next → Type 0
Good B p F x (goes y) = After B p F x y
Good B p F x (halts y) = After B p F x x
Good B p F x (takes y) = (v : ℤ) → After B p F x (pushed v y)
Good B p F x (shows bs y) = After B p F x y
Good B p F x (faults f y) = 27 ≤ machine_number f

-- a result whose fault is 27 or later
abbrev pub Late : {X : Type 0} → Result X MachineCause → Type 0
Late (Ok v) = Unit {0}
Late (Err f) = 27 ≤ machine_number f

module _ (B : Box) (p : Plan) (F : List Frame) (x : Core) where
  pub uses_good : (k : ℕ) (act : Act) (c : Core) → c.reg.sp + k ≤ length c.mem → Good B p F x (act c) → Good B p F x (uses k act c)
  uses_good k act c h g = cond_both (leb (c.reg.sp + k) (length c.mem)) (act c) (faults StackUnderflow c) (Good B p F x) (λ _. g) (λ e. let l = leb-false (c.reg.sp + k) (length c.mem) e in absurd (omega arith))

  pub room_good : (k : ℕ) (act : Act) (c : Core) → (c.reg.limit + k ≤ c.reg.sp → Good B p F x (act c)) → Good B p F x (room k act c)
  room_good k act c g = cond_both (leb (c.reg.limit + k) c.reg.sp) (act c) (faults StackMeetsHeap c) (Good B p F x) (λ e. g (leb-true _ _ e)) (λ e. omega arith)

  pub fine_good : {X : Type 0} (r : Result X MachineCause) (act : X → Act) (c : Core) → Late r → ((v : X) → r ≡ Ok v → Good B p F x (act v c)) → Good B p F x (fine r act c)
  fine_good (Ok v) act c l g = g v refl
  fine_good (Err f) act c l g = l

  pub either : (b : Bool) (m n : Next) → Good B p F x m → Good B p F x n → Good B p F x (cond b m n)
  either true m n g h = g
  either false m n g h = h

-- the instruction at pc, by the program's code
pub at_place : (B : Box) (x : Core) (a : ℕ) (op : Opcode) (k : ℤ) → Ground B x → x.reg.pc ≡ pos a → instruction B.program.code a ≡ Some (record { op = op; argument = k }) → doing B.layout x ≡ Some (record { instruction = record { op = op; argument = k }; next = pos (a + size op) })
at_place B x a op k g e d = ap (fetched (take B.layout.code x.mem)) e ∙ ap (λ m. followed a (instruction m a)) g.code ∙ ap (followed a) d

opcode_some : (o : Option Instruction) (op : Opcode) → opcode_of o ≡ Some op → (k : ℤ) × (o ≡ Some (record { op = op; argument = k }))
opcode_some None op e = let z : ◌≡◌ {A = ℕ} 0 1 = cc in absurd (omega arith)
opcode_some (Some i) op e = let q : i.op ≡ op = cc in (i.argument, ap (λ y. Some (record { op = y; argument = i.argument })) q)

pub opcode_is : (code : List ℤ) (a : ℕ) (op : Opcode) → opcode_in code a ≡ Some op → (k : ℤ) × (instruction code a ≡ Some (record { op = op; argument = k }))
opcode_is code a op e = opcode_some (instruction code a) op e

pub act_good : (B : Box) (p : Plan) (F : List Frame) (x : Core) (op : Opcode) (k n : ℤ) → doing B.layout x ≡ Some (record { instruction = record { op = op; argument = k }; next = n }) → Good B p F x (exec B.layout x.reg.pc op k (at_pc n x)) → Good B p F x (performed B.layout x)
unfolding performed
act_good B p F x op k n e g = subst (λ o. Good B p F x (does B.layout o x)) (sym e) g

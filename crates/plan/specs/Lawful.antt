-- Plans, lawful plans, and the least of them.
use Rattle.isa.specs.Code.{Divided}
use Rattle.std.specs.Prelude.{◌≡◌, ℕ, suc, ◌+◌, ◌≤◌, List, pos, Some, None, Option, slice_index_or}
use Rattle.std.specs.List.{AllByRecursion}
use Rattle.program.specs.declared.unit.Unit.{Unit as UnitRecord}
use Rattle.plan.specs.declared.planned.Planned.{Planned}
use Rattle.plan.specs.declared.successor.Successor.{Successor}
use Rattle.plan.specs.Programs.{Program, Listed, Opened, Sits}
use Rattle.plan.specs.Rules.{Steps}

-- a plan gives some addresses a body and a depth
abbrev pub Plan : Type 0
Plan = ℕ → Option Planned

abbrev pub planned : ℕ → ℕ → Planned
planned b h = record { body = b; depth = h }

-- the plan has the address a, with the body b and the depth h
abbrev pub Has : Plan → ℕ → ℕ → ℕ → Type 0
Has p a b h = p a ≡ Some (planned b h)

-- the plan has a successor, in the body b
abbrev pub Holds : Plan → ℕ → Successor → Type 0
Holds p b s = (a : ℕ) × (s.address ≡ pos a) × Has p a b s.depth

-- a root: where a body begins, with depth 0. The main program begins at 0, a unit after its opening
pub data Root (P : Program) : ℕ → ℕ → Type 0 where
  main : Root P 0 0
  unit : (k : ℕ) (v : UnitRecord) → Listed P.units k v → Root P (v.entry + 3) (suc k)

-- the code divides and its units are good; the plan has all roots; at each of its addresses the rule fits and the plan
-- has the successors; and each of them begins an instruction outside all openings, with a depth of at most 1,000
pub record Lawful (P : Program) (p : Plan) : Type 0 where
  pub divides : Divided P.code
  pub units : Opened P
  pub roots : (a b : ℕ) → Root P a b → Has p a b 0
  pub rules : (a b h : ℕ) → Has p a b h → (ss : List Successor) × Steps P a b h ss × AllByRecursion (Holds p b) ss
  pub places : (a b h : ℕ) → Has p a b h → (h ≤ 1000) × Sits P a

-- a lawful plan that every lawful plan contains
pub record Least (P : Program) (p : Plan) : Type 0 where
  pub lawful : Lawful P p
  pub least : (o : Plan) → Lawful P o → (a b h : ℕ) → Has p a b h → Has o a b h

-- a plan table: a place for each address, and maybe more
abbrev pub Table : Type 0
Table = List (Option Planned)

-- the plan that a table holds
abbrev pub plan_of : Table → Plan
plan_of t a = slice_index_or t a None

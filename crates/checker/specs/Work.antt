-- The state of the work: a table, and the addresses that have a place in it, in the order in which they came.
use Rattle.std.specs.Prelude.{◌≡◌, ℕ, zero, suc, ◌+◌, ◌<◌, ◌≤◌, cond, List, map, length, ℤ, pos, Some, None, Option, MatchOption, nat_lt, slice_index, slice_index_or}
use Rattle.std.specs.List.{AllByRecursion}
use Rattle.isa.specs.Code.{Divides}
use Rattle.plan.specs.declared.planned.Planned.{Planned}
use Rattle.plan.specs.declared.successor.Successor.{Successor}
use Rattle.plan.specs.Programs.{Program, Sits}
use Rattle.plan.specs.Rules.{Steps}
use Rattle.plan.specs.Lawful.{Has, Holds, Root, Table, plan_of}
use Rattle.plan.specs.Walks.{In, Walk}

-- the place that is held at an address: a pair deeper than any place is a mark, and no place
abbrev pub place_in : Option Planned → Option Planned
place_in None = None
place_in (Some q) = cond (nat_lt 1000 q.depth) None (Some q)

-- a table without its marks
abbrev pub places_of : Table → Table
places_of t = map place_in t

-- a table has a mark or a place at an address of the code exactly if an instruction begins there
abbrev pub Marked : List ℤ → Table → Type 0
Marked code t = (a : ℕ) → a < length code → MatchOption (slice_index_or t a None) (Divides code a → ⊥) (λ _. Divides code a)

-- the table has a place at a
abbrev pub SetAt : Table → ℕ → Type 0
SetAt t a = (q : Planned) × (slice_index_or t a None ≡ Some q)

abbrev pub filled : Option Planned → ℕ
filled None = 0
filled (Some q) = 1

-- how many of the first n addresses have a place
abbrev pub places_in : Table → ℕ → ℕ
places_in t zero = 0
places_in t (suc n) = filled (slice_index_or t n None) + places_in t n

-- a walk to an address over addresses that have places
abbrev pub Route : Program → Table → ℤ → ℕ → ℕ → Type 0
Route P t to b h = (ws : List ℕ) × Walk P ws to b h × AllByRecursion (SetAt t) ws

-- the same to an address with a place, which does not come before its end
abbrev pub Reached : Program → Table → ℕ → Planned → Type 0
Reached P t a q = (ws : List ℕ) × Walk P ws (pos a) q.body q.depth × AllByRecursion (SetAt t) ws × (In ws a → ⊥)

-- q lists the addresses with a place; each may have one, and is reached
pub record Base (P : Program) (t : Table) (q : List ℕ) : Type 0 where
  pub reached : (a : ℕ) (s : Planned) → slice_index_or t a None ≡ Some s → Reached P t a s
  pub seated : (a : ℕ) (s : Planned) → slice_index_or t a None ≡ Some s → Sits P a
  pub queued : (a : ℕ) (s : Planned) → slice_index_or t a None ≡ Some s → (j : ℕ) × (j < length q) × (slice_index q j ≡ a)
  pub placed : (j : ℕ) → j < length q → SetAt t (slice_index q j)
  pub counted : length q ≡ places_in t (length P.code)

-- u has what t has
abbrev pub Grows : Table → Table → Type 0
Grows t u = (a : ℕ) (s : Planned) → slice_index_or t a None ≡ Some s → slice_index_or u a None ≡ Some s

-- r begins with q
pub record Longer (q r : List ℕ) : Type 0 where
  pub more : length q ≤ length r
  pub same : (j : ℕ) → j < length q → slice_index r j ≡ slice_index q j

-- an address came to its place, or had it
pub record Arrived (P : Program) (t u : Table) (q r : List ℕ) : Type 0 where
  pub base : Base P u r
  pub grows : Grows t u
  pub longer : Longer q r

-- the successors of a place at a have their places
abbrev pub Done : Program → Table → ℕ → Type 0
Done P t a = (s : Planned) → slice_index_or t a None ≡ Some s → (ss : List Successor) × Steps P a s.body s.depth ss × AllByRecursion (Holds (plan_of t) s.body) ss

-- the roots have their places
abbrev pub Rooted : Program → Table → Type 0
Rooted P t = (a b : ℕ) → Root P a b → Has (plan_of t) a b 0

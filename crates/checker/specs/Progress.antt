-- The work as its struct holds it, and what a step of it makes.
use Rattle.std.specs.Prelude.{◌≡◌, ℕ, List}
use Rattle.slots.specs.Items.{items}
use Rattle.plan.specs.Programs.{Program, seen}
use Rattle.plan.specs.Lawful.{Table}
use Rattle.checker.specs.declared.work.Work.{Work}
use Rattle.checker.specs.Work.{places_of, Marked, Base, Arrived}

-- the program that it judges
abbrev pub judged : Work → Program
judged w = seen w.program

-- its table without the marks
abbrev pub places : Work → Table
places w = places_of w.plan.now

-- the addresses that have a place, in the order in which they came
abbrev pub came : Work → List ℕ
came w = items w.list.now

-- w is at work on P: the marks are right, and so are the places and the list so far
pub record Underway (P : Program) (w : Work) : Type 0 where
  pub is : judged w ≡ P
  pub marked : Marked P.code w.plan.now
  pub base : Base P (places w) (came w)

-- the work is right so far
abbrev pub Ready : Work → Type 0
Ready w = Underway (judged w) w

-- the work on P came from v to w: the marks are right, and addresses came to their places in the table and the list
pub record Moved (P : Program) (v w : Work) : Type 0 where
  pub is : judged w ≡ P
  pub marked : Marked P.code w.plan.now
  pub arrived : Arrived P (places v) (places w) (came v) (came w)

-- The rows, computed.
use Rattle.std.proofs.Common.{◌≡◌, ℕ, ◌-◌, true, List, [], ◌∷◌, ◌++◌, map, length, take, replicate, ℤ, pos, negsuc, codes, sym, refl, ap, subst, arith}
use Rattle.std.specs.Fmt.{digits}
use Rattle.std.specs.List.{AllByRecursion}
use Rattle.program.specs.declared.name.Name.{Name}
use Rattle.program.specs.declared.section.Section.TheVariants.{Code}
use Rattle.program.specs.declared.unit.Unit.{Unit as UnitRecord}
use Rattle.machine.specs.Run.{runs}
use Rattle.machine.specs.Step.{step, performed}
use Rattle.assembler.specs.Assembly as A
use Rattle.assembler.specs.Marks.{Mark, mark, Entry, entry, entry_of}
use Rattle.plan.specs.Programs.{Program, coded}
use Rattle.table.specs.Verdicts.{Passes, Gives, Checked}
use Rattle.table.specs.Answers.{Accepts, Refuses, Answers}
use Rattle.table.specs.Rows.{Stands}
use Rattle.table.specs.Examples.{examples}
use Rattle.table.proofs.Planning.{passed, passes}
use Rattle.table.proofs.Verdicts.{refuses, gives}
use Rattle.table.proofs.Answering.{pass_answers, give_answers}

-- a unit with the numbers of an entry
abbrev unit_of : Name → Entry → UnitRecord
unit_of w e = record { name = w; entry = e.entry; arguments = e.arguments; results = e.results }

abbrev first_of : List Entry → Entry → Entry
first_of [] d = d
first_of (e ∷ es) d = e

-- a unit table that holds one entry has one unit, under some name
with_unit : (Q : Program → Type 0) (code : List ℤ) (e : Entry) → ((w : Name) → Q (coded code (unit_of w e ∷ []))) → (us : List UnitRecord) → map entry_of us ≡ e ∷ [] → Q (coded code us)
with_unit Q code e f [] q = let z : ◌≡◌ {A = ℕ} 0 1 = cc in absurd (omega arith)
with_unit Q code e f (u ∷ []) q = let s : entry_of u ≡ e = ap (λ (es : List Entry). first_of es e) q in subst (λ (x : Entry). Q (coded code (unit_of u.name x ∷ []))) (sym s) (f u.name)
with_unit Q code e f (u ∷ v ∷ us) q = let z : ◌≡◌ {A = ℕ} 0 1 = cc in absurd (omega arith)

-- a program with these cells, labels and units
abbrev made : ℕ → List ℤ → List Mark → List Entry → A.Program
made n code ls us =
    record {
      counts = record { cells = n; code = length code; «data» = 0; heap = 0; labels = length ls; units = length us };
      cells = code ++ replicate (n - length code) (pos 0);
      labels = ls;
      units = us;
    }

-- the code of the call's example, with the arguments of its first LOAD and its RET
abbrev net_code : ℕ → ℕ → List ℤ
net_code k m = pos 39 ∷ pos 1 ∷ pos 1 ∷ pos 40 ∷ pos 1 ∷ negsuc 54 ∷ pos 1 ∷ pos 11 ∷ pos 35 ∷ pos 27 ∷ pos 42 ∷ pos 36 ∷ pos 37 ∷ pos 38 ∷ pos 30 ∷ pos k ∷ pos 30 ∷ pos 3 ∷ pos 2 ∷ pos 31 ∷ pos 5 ∷ pos 38 ∷ pos 41 ∷ pos m ∷ []

abbrev net_unit : Entry
net_unit = entry (codes "net") 11 2 1

abbrev net_of : ℕ → ℕ → A.Program
net_of k m = made 31 (net_code k m) (mark (codes "net") Code 11 ∷ []) (net_unit ∷ [])

net_passes : (k m : ℕ) → ((w : Name) → passed (coded (net_code k m) (unit_of w net_unit ∷ [])) ≡ true) → Checked Passes (net_of k m) × Answers Accepts (net_of k m)
net_passes k m t = pass_answers (net_of k m) refl (λ us. with_unit Passes (net_code k m) net_unit (λ w. passes (coded (net_code k m) (unit_of w net_unit ∷ [])) (t w)) (take 1 us))

net_gives : (k m n a : ℕ) → ((w : Name) → refuses (coded (net_code k m) (unit_of w net_unit ∷ [])) n a ≡ true) → Checked (Gives n (pos a)) (net_of k m) × Answers (Refuses n (pos a)) (net_of k m)
net_gives k m n a t = give_answers (net_of k m) refl n (pos a) (λ us. with_unit (Gives n (pos a)) (net_code k m) net_unit (λ w. gives (coded (net_code k m) (unit_of w net_unit ∷ [])) n a (t w)) (take 1 us))

-- a: PUSH 1, JUMP a
abbrev loop_code : List ℤ
loop_code = pos 1 ∷ pos 1 ∷ pos 20 ∷ pos 0 ∷ []

abbrev loop : A.Program
loop = made 16 loop_code (mark (codes "a") Code 0 ∷ []) []

-- RMEM 1000, HALT
abbrev full_code : List ℤ
full_code = pos 39 ∷ pos 1000 ∷ pos 42 ∷ []

abbrev full : A.Program
full = made 16 full_code [] []

-- RMEM 1000, PUSH 1, HALT
abbrev over_code : List ℤ
over_code = pos 39 ∷ pos 1000 ∷ pos 1 ∷ pos 1 ∷ pos 42 ∷ []

abbrev over : A.Program
over = made 16 over_code [] []

-- no line
abbrev none : A.Program
none = made 16 [] [] []

-- a row, and those after it
infixr 10 ◌⨾◌
abbrev ◌⨾◌ : {X Y : Type 0} → X → Y → X × Y
x ⨾ y = (x, y)

-- runs compute; of the check its test computes
pub examples_stand_lem : AllByRecursion Stands examples
unfolding runs step performed digits
examples_stand_lem =
    (_, refl, refl)
    ⨾ (_, refl, (refl, refl, refl, refl))
    ⨾ (_, refl, (refl, refl, refl))
    ⨾ (_, refl, (refl, refl))
    ⨾ (_, refl, (refl, refl))
    ⨾ (_, refl, (refl, refl, refl))
    ⨾ (net_of 4 2, refl, net_passes 4 2 (λ w. refl))
    ⨾ (net_of 5 2, refl, net_passes 5 2 (λ w. refl))
    ⨾ (net_of 6 2, refl, net_gives 6 2 18 14 (λ w. refl))
    ⨾ (net_of 2 2, refl, net_gives 2 2 18 14 (λ w. refl))
    ⨾ (net_of 4 1, refl, net_gives 4 1 16 21 (λ w. refl))
    ⨾ (loop, refl, give_answers loop refl 20 (pos 0) (λ us e. gives (coded loop_code []) 20 0 refl))
    ⨾ (full, refl, pass_answers full refl (λ us e. passes (coded full_code []) refl))
    ⨾ (over, refl, give_answers over refl 19 (pos 2) (λ us e. gives (coded over_code []) 19 2 refl))
    ⨾ (none, refl, give_answers none refl 15 (pos 0) (λ us e. gives (coded [] []) 15 0 refl))
    ⨾ tt

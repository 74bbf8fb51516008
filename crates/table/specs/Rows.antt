-- A row of the table: a text, and what holds of the program that it assembles to.
use Rattle.std.specs.Prelude.{◌≡◌, ℕ, List, [], ◌∷◌, ◌++◌, take, ℤ, codes}
use Prim.Native.String.{String}
use Rattle.program.specs.declared.fault.Place.TheVariants.{Counter}
use Rattle.program.specs.Faults.{refusal, refused}
use Rattle.instructions.specs.Core.{core, top}
use Rattle.machine.specs.declared.outcome.Outcome.{Outcome}
use Rattle.machine.specs.declared.outcome.Outcome.TheVariants.{Spent, Halted, Reading, Space, Fault}
use Rattle.machine.specs.Console.{Console}
use Rattle.machine.specs.Run.{Ran, runs}
use Rattle.machine.specs.Start.{layout_of, initial}
use Rattle.assembler.specs.Assembly.{Program, program, assembled}
use Rattle.table.specs.Verdicts.{Passes, Gives, Checked}
use Rattle.table.specs.Answers.{Accepts, Refuses, Answers}

-- lines as a text
abbrev pub text : List String → List ℕ
text [] = []
text (l ∷ ls) = codes l ++ 10 ∷ text ls

-- a port with no reading, nothing shown and space for 64 bytes
abbrev pub blank : Console
blank = record { waiting = []; shown = []; space = 64 }

-- a program's first run, with the largest allowance
abbrev pub ran_of : Program → Ran
ran_of p = runs (layout_of p.counts) 0 4294967295 (core (initial p.counts) p.cells) blank

-- an outcome is the fault of that number at pc
abbrev pub Fails : ℕ → ℤ → Outcome → Type 0
Fails n pc Spent = ⊥
Fails n pc Halted = ⊥
Fails n pc Reading = ⊥
Fails n pc Space = ⊥
Fails n pc (Fault f) = refusal f ≡ refused n (Counter pc)

-- what a row says of its program
pub data Claim : Type 0 where
  -- its code has these cells
  codes_to : List ℤ → Claim
  -- its run halts at pc after so many steps, and has shown these bytes
  halts : ℕ → ℤ → List ℕ → Claim
  -- its run halts, with this cell on top of the stack
  leaves : ℤ → Claim
  -- its run ends with the fault of that number at pc, after so many steps
  faults : ℕ → ℤ → ℕ → Claim
  -- it has a lawful plan, and check accepts it
  passes : Claim
  -- it has no lawful plan, and check refuses it with that number at that address
  gives : ℕ → ℤ → Claim

-- what it means
abbrev pub Holds : Claim → Program → Type 0
Holds (codes_to zs) p = take p.counts.code p.cells ≡ zs
Holds (halts n pc bs) p = ((ran_of p).steps ≡ n) × ((ran_of p).outcome ≡ Halted) × ((ran_of p).core.reg.pc ≡ pc) × ((ran_of p).console.shown ≡ bs)
Holds (leaves z) p = ((ran_of p).outcome ≡ Halted) × (top (ran_of p).core ≡ z)
Holds (faults k pc n) p = ((ran_of p).steps ≡ n) × Fails k pc (ran_of p).outcome × ((ran_of p).core.reg.pc ≡ pc)
Holds passes p = Checked Passes p × Answers Accepts p
Holds (gives n x) p = Checked (Gives n x) p × Answers (Refuses n x) p

-- the site text, with no library text; how many cells its memory has; and what is claimed
pub record Row : Type 0 where
  pub site : List ℕ
  pub cells : ℕ
  pub claim : Claim

-- a row of lines
abbrev pub row : List String → ℕ → Claim → Row
row ls n c = record { site = text ls; cells = n; claim = c }

-- the text assembles, with all label and unit slots, to a program of which the claim holds
abbrev pub Stands : Row → Type 0
Stands r = (p : Program) × (assembled r.site [] r.cells 512 64 ≡ program p) × Holds r.claim p

-- What the bench prints.
use Rattle.std.specs.Prelude.{ℕ, List, [], ◌∷◌, ◌++◌, ℤ, codes, decimal}
use Rattle.std.specs.Fmt.{signed_decimal}
use Rattle.program.specs.Faults.{Refusal, refusal, place_number}
use Rattle.machine.specs.declared.outcome.Outcome.{Outcome}
use Rattle.machine.specs.declared.outcome.Outcome.TheVariants.{Spent, Halted, Reading, Space, Fault}

abbrev pub outcome_word : Outcome → List ℕ
outcome_word Spent = codes "spent"
outcome_word Halted = codes "halted"
outcome_word Reading = codes "reading"
outcome_word Space = codes "space"
outcome_word (Fault f) = codes "fault"

-- the number of the fault; 0 where there is none
abbrev pub outcome_cause : Outcome → ℕ
outcome_cause Spent = 0
outcome_cause Halted = 0
outcome_cause Reading = 0
outcome_cause Space = 0
outcome_cause (Fault f) = (refusal f).number

-- fields with single spaces between them
abbrev pub spaced : List (List ℕ) → List ℕ
spaced [] = []
spaced (f ∷ []) = f
spaced (f ∷ g ∷ gs) = f ++ 32 ∷ spaced (g ∷ gs)

-- how a run ended: outcome, steps, pc and cause
abbrev pub text_of_outcome : Outcome → ℕ → ℤ → List ℕ
text_of_outcome o steps pc = spaced (outcome_word o ∷ decimal steps ∷ signed_decimal pc ∷ decimal (outcome_cause o) ∷ [])

-- why there was no run: cause, and line, address or 0
abbrev pub text_of_refusal : Refusal → List ℕ
text_of_refusal f = spaced (codes "refused" ∷ decimal f.number ∷ signed_decimal (place_number f.place) ∷ [])

-- the report of a program that ran: the shown bytes and a line
abbrev pub ran_report : List ℕ → Outcome → ℕ → ℤ → List ℕ
ran_report shown o steps pc = shown ++ 10 ∷ (text_of_outcome o steps pc ++ 10 ∷ [])

-- the report of a refused program: one line
abbrev pub refused_report : Refusal → List ℕ
refused_report f = text_of_refusal f ++ 10 ∷ []

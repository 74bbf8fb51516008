-- From what holds of a program to what check answers.
use Rattle.std.proofs.Common.{◌≡◌, ℕ, ◌⊎◌, List, length, ℤ, Ok, Err, Result, sym, ap, ◌∙◌, subst, inl, inr}
use Rattle.program.specs.declared.assembled.Assembled.{Assembled}
use Rattle.program.specs.declared.counts.Counts.{Counts}
use Rattle.program.specs.declared.fault.Fault.{Fault}
use Rattle.program.specs.declared.fault.Place.TheVariants.{Address}
use Rattle.program.specs.declared.refused.Refused.{Refused}
use Rattle.program.specs.declared.unit.Unit.{Unit as UnitRecord}
use Rattle.program.specs.Faults.{refusal, refused}
use Rattle.assembler.specs.Assembly.{Program}
use Rattle.plan.specs.Lawful.{Table}
use Rattle.plan.specs.Programs as Plan
use Rattle.checker.specs.declared.passed.Passed.{Passed}
use Rattle.checker.specs.Verdict.{Roomy, Answered, TooShort, OtherMemory, Unlawful}
use Rattle.table.specs.Verdicts.{Passes, Gives, Checked}
use Rattle.table.specs.Answers.{Accepts, Refuses, Answers}

module _ (p : Program) (fills : length p.cells ≡ p.counts.cells) where
  module _ (a : Assembled) (us : List UnitRecord) (t u : Table) (q v : List ℕ) (same : a.counts ≡ p.counts) (room : Roomy p.counts us t q) where
    -- the tables have room and the memory is the program's, so a refusal says that no plan is lawful
    unlawful : (f : Fault) → TooShort a p.cells us t u q v f ⊎ (OtherMemory a p.cells us t u q v f ⊎ Unlawful a p.cells us t u q v f) → Unlawful a p.cells us t u q v f
    unlawful f (inl x) = absurd (x.short (subst (λ (c : Counts). Roomy c us t q) (sym same) room))
    unlawful f (inr (inl x)) = absurd (x.other (fills ∙ ap (λ (c : Counts). c.cells) (sym same)))
    unlawful f (inr (inr x)) = x

    accepts : Passes (Plan.program_of p.counts p.cells us) → (r : Result Passed (Refused Assembled)) → Answered a p.cells us t u q v r → Accepts r
    accepts h (Ok r) w = tt
    accepts h (Err f) w =
        let x = unlawful f.fault w.1 in
        let l = subst (λ (c : Counts). Passes (Plan.program_of c p.cells us)) (sym same) h in
        x.none l.lawful.0 l.lawful.1

    refuses : (n : ℕ) (z : ℤ) → Gives n z (Plan.program_of p.counts p.cells us) → (r : Result Passed (Refused Assembled)) → Answered a p.cells us t u q v r → Refuses n z r
    refuses n z h (Ok r) w = (subst (λ (c : Counts). Gives n z (Plan.program_of c p.cells us)) (sym same) h).unlawful _ w.least.lawful
    refuses n z h (Err f) w =
        let x = unlawful f.fault w.1 in
        let e = (subst (λ (c : Counts). Gives n z (Plan.program_of c p.cells us)) (sym same) h).only x.cause x.address x.due in
        ap refusal x.fault ∙ (ap (λ (m : ℕ). refused m (Address x.address)) e.0 ∙ ap (λ (y : ℤ). refused n (Address y)) e.1)

  pub pass_answers : Checked Passes p → Checked Passes p × Answers Accepts p
  pass_answers h = (h, λ a us t u q v r same held room w. accepts a us t u q v same room (h us held) r w)

  pub give_answers : (n : ℕ) (z : ℤ) → Checked (Gives n z) p → Checked (Gives n z) p × Answers (Refuses n z) p
  give_answers n z h = (h, λ a us t u q v r same held room w. refuses a us t u q v same room n z (h us held) r w)

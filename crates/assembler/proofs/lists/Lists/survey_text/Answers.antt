use Rattle.std.proofs.Common.{◌≡◌, ◌+◌, ◌-◌, ◌*◌, map, length, sym, ap, ◌∙◌, subst, arith}
use Rattle.std.specs.Iterator.Adapters.{zip_first, zip_second}
use Rattle.slots.specs.Items.{room}
use Rattle.syntax.specs.Forms.{form}
use Rattle.syntax.specs.Left.{lines_left}
use Rattle.assembler.specs.Progress.{Grows, stepped, survey_of}
use Rattle.assembler.specs.Survey.{survey}
use Rattle.assembler.proofs.Exits.{mapped_ok}
use Rattle.assembler.proofs.Surveys.{both_then, survey_more}
use Rattle.assembler.proofs.lists.Lists.survey_text.Goals as goal

pub loop-line-preserved : goal.loop-line-preserved
loop-line-preserved c =
    let a = c.loop-line.self in
    let b = c.survey_line.new.self in
    let n = (zip_second c.loop-line.line-iterator).start in
    let left = lines_left (zip_first c.next.new.self) in
    let s = survey_of c.in_ok-tally.tally b in
    let e = c.survey_line.ensures.kept in
    let i = c.loop-line.invariant in
    let h = rw c.in-Some.is at c.next.ensures.steps in
    let j = ap length h.0 in
    let o : (zip_second c.next.new.self).start ≡ n + 1 = omega (arith, h.1.0, h.1.1) in
    let m = mapped_ok c.survey_line.result c.map_err.result _ c.in_ok-tally.tally c.map_err.ensures.cases c.in_ok-tally.was in
    let g = subst (Grows c.loop-line.tally) m c.survey_line.ensures.grows in (
      (tt, tt),
      tt,
      ap (λ k. survey (room b.labels.now) (room b.units.now) k s (map form left)) o
          ∙ ap (λ l. survey l (room b.units.now) (n + 1) s (map form left)) e.labels.room
          ∙ ap (λ u. survey (room a.labels.now) u (n + 1) s (map form left)) e.units.room
          ∙ survey_more (room a.labels.now) (room a.units.now) n (survey_of c.loop-line.tally a) c.in-Some.line.now (lines_left (zip_first c.loop-line.line-iterator)) left h.0 s (sym (ap (λ r. stepped r b) m) ∙ c.survey_line.ensures.step)
          ∙ i.2,
      both_then c.args.self.now a b i.3 e,
      λ k small.
          let t = g (k + 1000 * (n - 1)) (i.4 k small) in
          (omega arith, omega arith, omega arith),
      omega arith,
      omega arith,
    )

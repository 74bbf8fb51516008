use Rattle.std.proofs.Common.{◌≡◌, ℕ, false, not, List, sym, refl, ap, ◌∙◌, arith}
use Rattle.std.proofs.lemmas.Result.{err_from_is_err_and}
use Rattle.program.specs.Names.{smalls}
use Rattle.program.specs.declared.fault.AssemblyCause.TheVariants.{LateUnit}
use Rattle.slots.specs.Items.{room}
use Rattle.assembler.specs.declared.lists.Lists.{Lists}
use Rattle.assembler.specs.declared.tally.Tally.{Tally}
use Rattle.assembler.specs.Marks.{Entry}
use Rattle.assembler.specs.Progress.{marks, survey_of}
use Rattle.assembler.specs.Survey.{demand, surveyed, declaring, go}
use Rattle.assembler.proofs.Clips.{kept_same}
use Rattle.assembler.proofs.Surveys.{refused}
use Rattle.assembler.proofs.lists.Lists.declare.Goals as goal

-- a unit in time, whose numbers are m and r
in_time : (a : Lists) (t : Tally) (w : List ℕ) (m r m' r' : ℕ) → t.begun ≡ false → m ≡ m' → r ≡ r'
    → demand (not t.begun) LateUnit (declaring (room a.labels.now) (room a.units.now) (survey_of t a) w m' r') ≡ declaring (room a.labels.now) (room a.units.now) (survey_of t a) w m r
in_time a t w m r m' r' e f g =
    let d = declaring (room a.labels.now) (room a.units.now) (survey_of t a) w in
    ap (λ b. demand (not b) LateUnit (d m' r')) e ∙ ap (λ k. d k r') (sym f) ∙ ap (λ k. d m k) (sym g)

pub returns : goal.returns
returns c =
    let a = c.args.self.now in
    record {
      step = sym (in_time a c.args.tally (smalls c.args.word.now) c.octet_of.result c.octet_of-2.result _ _ c.if-tally.false c.octet_of.ensures c.octet_of-2.ensures
          ∙ c.in_ok-add_unit.ensures.added (λ (vs : List Entry). go (surveyed c.args.tally (marks a.labels.now) vs)));
      kept = record { labels = kept_same a.labels.now; units = c.add_unit.ensures.kept; labels_at = refl; units_at = refl };
      grows = λ n h. (omega arith, omega arith, omega arith);
    }

pub returns-in_err-add_unit : goal.returns-in_err-add_unit
returns-in_err-add_unit c =
    let a = c.args.self.now in
    let p = err_from_is_err_and c.from_residual.result c.from_residual.ensures.1 in
    refused a _ c.args.tally c.from_residual.result _ p.0 _ p.1 p.2
    (sym (in_time a c.args.tally (smalls c.args.word.now) c.octet_of.result c.octet_of-2.result _ _ c.if-tally.false c.octet_of.ensures c.octet_of-2.ensures
    ∙ c.in_err-add_unit.ensures.added (λ (vs : List Entry). go (surveyed c.args.tally (marks a.labels.now) vs))))
    (record { labels = kept_same a.labels.now; units = c.add_unit.ensures.kept; labels_at = refl; units_at = refl })

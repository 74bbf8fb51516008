use Rattle.std.proofs.Common.{◌≡◌, sym, ap, ◌∙◌, subst, arith, rules}
use Rattle.std.proofs.lemmas.Result.{err_from_is_err_and}
use Rattle.program.specs.declared.fault.Fault.TheVariants as F
use Rattle.program.specs.declared.fault.Place.TheVariants.{Line}
use Rattle.program.specs.declared.fault.Text.TheVariants.{Site}
use Rattle.slots.specs.Items.{room}
use Rattle.assembler.specs.Assembly.{forms}
use Rattle.assembler.specs.Builds.{Surveys, Tallied}
use Rattle.assembler.specs.Progress.{Bounded, entries, marks, surveyed_to}
use Rattle.assembler.specs.Survey.{fresh}
use Rattle.assembler.proofs.Exits.{mapped_err, mapped_ok}
use Rattle.assembler.proofs.Passes.{passes, refused_first}
use Rattle.assembler.proofs.Surveys.{both_then}
use Rattle.assembler.proofs.lists.Lists.survey_both.Goals as goal

pub returns-in_err-tally : goal.returns-in_err-tally
returns-in_err-tally c =
    let a = c.args.self.now in
    let b = c.survey_text.new.self in
    let site = forms c.args.texts.site.now in
    let library = forms c.args.texts.library.now in
    let p = err_from_is_err_and c.from_residual.result c.from_residual.ensures.1 in
    let m = mapped_err c.survey_text.result c.map_err.result _ c.in_err-tally.field-0.0 c.map_err.ensures.cases c.in_err-tally.was in
    let q = m.2 in
    let k : c.in_err-tally.field-0.0 ≡ F.Assembly m.0.cause (Line Site m.0.line) = search rules in
    let f = refused_first site library a b c.survey_text.result m.0 p.0 c.requires.no_labels c.requires.no_units c.survey_text.ensures.survey m.1 (p.2 ∙ k) in
    record {
      surveys = subst (λ r. Surveys site library (room a.labels.now) (room a.units.now) r (marks b.labels.now) (entries b.units.now)) (sym p.1) f;
      small = subst Tallied (sym p.1) tt;
      kept = c.survey_text.ensures.kept;
    }

pub returns : goal.returns
returns c =
    let a = c.args.self.now in
    let b = c.survey_text.new.self in
    let d = c.survey_text-2.new.self in
    let m = mapped_ok c.survey_text.result c.map_err.result _ c.in_ok-tally.tally c.map_err.ensures.cases c.in_ok-tally.was in
    let t = subst (Bounded fresh.tally) m c.survey_text.ensures.grows 0 (omega arith, omega arith, omega arith) in
    let f = passes (forms c.args.texts.site.now) (forms c.args.texts.library.now) a b d c.in_ok-tally.tally c.requires.no_labels c.requires.no_units (sym (ap (λ r. surveyed_to r b) m) ∙ c.survey_text.ensures.survey) c.survey_text.ensures.kept t
    c.survey_text-2.result c.map_err-2.result _ c.reopened.result c.reopened.ensures.is c.survey_text-2.ensures.survey c.survey_text-2.ensures.grows c.map_err-2.ensures.cases (λ e g k. search rules) in
    record { surveys = f.0; small = f.1; kept = both_then a b d c.survey_text.ensures.kept c.survey_text-2.ensures.kept }

use Rattle.std.proofs.Common.{List, sym, refl, ap, ◌∙◌, rules}
use Rattle.std.proofs.lemmas.Result.{err_from_is_err_and}
use Rattle.slots.specs.Items.{room}
use Rattle.syntax.specs.Stated.{label_of}
use Rattle.assembler.specs.Marks.{Mark}
use Rattle.assembler.specs.Progress.{entries, marks, survey_of}
use Rattle.assembler.specs.Survey.{go, surveyed, putting, grown}
use Rattle.assembler.proofs.Clips.{kept_same}
use Rattle.assembler.proofs.Surveys.{refused}
use Rattle.assembler.proofs.lists.Lists.put_cells.Goals as goal
use Rattle.assembler.proofs.lists.Lists.put_cells.Goals.{in-Some+in_ok-add_label, in_default}

pub returns : goal.returns
returns c =
    let a = c.args.self.now in
    elim c.match-label.branch [
      | in-Some+in_ok-add_label w ↦
          rw w.self-is (record {
            step =
                sym (ap (λ l. putting (room a.labels.now) (room a.units.now) (survey_of c.args.tally a) (label_of l) c.args.n) w.in-Some.is
                ∙ w.in_ok-add_label.ensures.added (λ (ls : List Mark). go (surveyed (grown c.args.tally c.args.n) ls (entries a.units.now)))
                ∙ ap (λ t. go (surveyed t (marks w.add_label.new.labels) (entries a.units.now))) (sym c.grow.ensures.is));
            kept = record { labels = w.add_label.ensures.kept; units = kept_same a.units.now; labels_at = refl; units_at = refl };
            grows = c.grow.ensures.grows;
          })
      | in_default w ↦ rw w.self-is (search rules)
    ]

pub returns-in_err-add_label : goal.returns-in_err-add_label
returns-in_err-add_label c =
    let a = c.args.self.now in
    let p = err_from_is_err_and c.from_residual.result c.from_residual.ensures.1 in
    refused a _ c.args.tally c.from_residual.result _ p.0 _ p.1 p.2
    (sym (ap (λ l. putting (room a.labels.now) (room a.units.now) (survey_of c.args.tally a) (label_of l) c.args.n) c.in-Some.is
    ∙ c.in_err-add_label.ensures.added (λ (ls : List Mark). go (surveyed (grown c.args.tally c.args.n) ls (entries a.units.now)))))
    (record { labels = c.add_label.ensures.kept; units = kept_same a.units.now; labels_at = refl; units_at = refl })

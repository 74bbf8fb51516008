use Rattle.std.proofs.Common.{◌∙◌}
use Rattle.std.proofs.lemmas.Int.{to_z-of_z}
use Rattle.bench.specs.Output.{text_of_outcome}
use Rattle.bench.proofs.Wording.{report_joined}
use Rattle.bench.proofs.reports.ran.Goals as goal

pub returns : goal.returns
returns g c =
    report_joined
    (g.P.Port.meaning c.args.port.now).shown
    (text_of_outcome c.args.report.outcome c.args.report.steps c.args.pc)
    _ _ c.as_bytes.result.now _ _
    c.in_ok-bytes.ensures
    c.in_ok-push.ensures.items
    (c.as_bytes.ensures.value ∙ (simp (to_z-of_z, c.ranges.pc) at c.in_ok-text.ensures))
    c.in_ok-extend_from_slice.ensures.items
    c.in_ok-push-2.ensures.items

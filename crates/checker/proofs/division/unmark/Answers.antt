use Rattle.std.proofs.Common.{rules}
use Rattle.std.proofs.lemmas.List.Edits.{map_over_more}
use Rattle.std.proofs.lemmas.List.{take_all, drop_all}
use Rattle.checker.specs.Work.{place_in}
use Rattle.checker.proofs.division.unmark.Goals as goal

pub loop-held-preserved : goal.loop-held-preserved
loop-held-preserved c = search (rules, map_over_more place_in)

pub returns : goal.returns
returns c = search (rules, take_all, drop_all)

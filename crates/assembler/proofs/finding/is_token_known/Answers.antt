use Rattle.std.proofs.Common.{map}
use Rattle.assembler.specs.Marks.{mark_of}
use Rattle.assembler.proofs.Searches.{known_else}
use Rattle.assembler.proofs.finding.is_token_known.Goals as goal

pub returns-in_default : goal.returns-in_default
returns-in_default c = known_else (map mark_of c.args.labels.now) c.args.token c.in_default.not-Name

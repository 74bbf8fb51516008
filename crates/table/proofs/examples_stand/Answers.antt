use Rattle.table.proofs.Computed.{examples_stand_lem}
use Rattle.table.proofs.examples_stand.Goals as goal

pub returns : goal.returns
returns c = record { stand = examples_stand_lem; rows = c.rows.ensures }

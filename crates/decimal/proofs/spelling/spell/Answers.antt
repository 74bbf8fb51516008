use Rattle.std.proofs.Common.{rules}
use Rattle.std.proofs.lemmas.Int.{to_z-of_z}
use Rattle.decimal.proofs.Spellings.{minus}
use Rattle.decimal.proofs.spelling.spell.Goals as goal

pub returns : goal.returns
returns c = search (rules, to_z-of_z, minus)

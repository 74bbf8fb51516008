use Rattle.std.proofs.Common.{◌≡◌, ap, ◌∙◌}
use Rattle.std.specs.Fmt.{signed_decimal}
use Rattle.std.proofs.lemmas.Int.{to_z-of_z}
use Rattle.decimal.specs.Numerals.{text_of}
use Rattle.decimal.specs.Reading.{read_as}
use Rattle.decimal.proofs.Inverse.{read_held}
use Rattle.decimal.proofs.reading.spelled.Goals as goal

pub returns : goal.returns
returns c =
    let f = c.ranges.z in
    let e : text_of c.spell.result ≡ signed_decimal c.args.z = simp to_z-of_z at c.spell.ensures in
    ap read_as e ∙ read_held c.args.z f

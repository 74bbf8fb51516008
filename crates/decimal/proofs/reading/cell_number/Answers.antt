use Rattle.std.proofs.Common.{arith, ltb-false}
use Rattle.std.proofs.lemmas.List.{take_rest}
use Rattle.decimal.proofs.Figures.{minus_read}
use Rattle.decimal.proofs.reading.cell_number.Goals as goal

pub returns-in-45 : goal.returns-in-45
returns-in-45 c = minus_read c.args.text.now c.magnitude.result c.negative.result (omega (arith, ltb-false)) (omega (arith, ltb-false)) (rw take_rest at c.magnitude.ensures) c.negative.ensures

use Rattle.std.proofs.Common.{sym, ◌∙◌, arith, ltb-false}
use Rattle.std.proofs.lemmas.List.{take_rest}
use Rattle.decimal.proofs.Figures.{minus_numeral}
use Rattle.decimal.proofs.reading.is_numeral.Goals as goal

pub returns-in-45 : goal.returns-in-45
returns-in-45 c = (rw take_rest at c.are_digits.ensures) ∙ sym (minus_numeral c.args.text.now (omega (arith, ltb-false)) (omega (arith, ltb-false)))

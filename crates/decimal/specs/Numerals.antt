-- The text that a numeral holds.
use Rattle.std.specs.Prelude.{ℕ, ◌-◌, List, take, drop}
use Rattle.decimal.specs.declared.numeral.Numeral.{Numeral}

-- its bytes from the start to the eleventh
abbrev pub text_of : Numeral → List ℕ
text_of n = take (11 - n.start) (drop n.start n.bytes)

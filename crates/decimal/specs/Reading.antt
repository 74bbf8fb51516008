-- What reading a text answers.
use Rattle.std.specs.Prelude.{ℕ, true, false, List, ℤ, Ok, Err, Result}
use Rattle.decimal.specs.declared.reading.NumberError.{NumberError}
use Rattle.decimal.specs.declared.reading.NumberError.TheVariants.{NoNumber, OutOfRange}
use Rattle.decimal.specs.Numbers.{is_numeral_text, numeral, cell_range}

-- no numeral; else out of range; else the number
abbrev pub read_as : List ℕ → Result ℤ NumberError
read_as text =
    elim (is_numeral_text text) [
      | false ↦ Err NoNumber
      | true ↦
          elim (cell_range (numeral text)) [ false ↦ Err OutOfRange | true ↦ Ok (numeral text) ]
    ]

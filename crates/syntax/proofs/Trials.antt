-- Lines, and the forms that they have.
use Rattle.std.proofs.Common.{◌≡◌, true, false, [], ◌∷◌, ◌++◌, replicate, pos, negsuc, Some, codes, refl}
use Rattle.program.specs.declared.section.Section.TheVariants.{Code}
use Rattle.isa.specs.declared.opcode.Opcode.TheVariants.{Push, Nop}
use Rattle.syntax.specs.Forms.{value, at, byte, foul, unfit, empty, section, unit, instruction, copies, form}
use Rattle.syntax.specs.Cells.{cells}
use Rattle.syntax.specs.Ranges.{range}
use Rattle.syntax.specs.Lines.{lines}

minus : form (codes "X :PUSH-5 ; note") ≡ instruction (Some (codes "x")) Push (value (negsuc 4) ∷ [])
minus = refl

spaced_minus : form (codes "PUSH - 5") ≡ unfit
spaced_minus = refl

plus : form (codes "PUSH +5") ≡ unfit
plus = refl

joined : form (codes "PUSH5") ≡ unfit
joined = refl

mnemonic_label : form (codes "push:NOP") ≡ instruction (Some (codes "push")) Nop []
mnemonic_label = refl

dotted : form (codes ". Code # x") ≡ section Code
dotted = refl

stack : form (codes ".STACK") ≡ unfit
stack = refl

united : form (codes ".unit Net , 2 , 1") ≡ unit (codes "net") (pos 2) (pos 1)
united = refl

dup : form (codes "y: dw 3DUP(-7)") ≡ copies (Some (codes "y")) (pos 3) (negsuc 6)
dup = refl

dup_label : form (codes "DW 3 DUP(y)") ≡ unfit
dup_label = refl

dup_in_list : form (codes "DW 1, 3 DUP(2)") ≡ unfit
dup_in_list = refl

quotes : cells (form (codes "DW \"Ab;\", ''', ';', dup, -1")) ≡ byte 65 ∷ byte 98 ∷ byte 59 ∷ byte 39 ∷ byte 59 ∷ at (codes "dup") ∷ value (negsuc 0) ∷ []
quotes = refl

no_text : cells (form (codes "DW \"\"")) ≡ []
no_text = refl

open_quote : form (codes "DW \"ab") ≡ unfit
open_quote = refl

open_character : form (codes "DW 'a") ≡ unfit
open_character = refl

quoted_argument : form (codes "PUSH 'a'") ≡ unfit
quoted_argument = refl

alone : form (codes "x:") ≡ unfit
alone = refl

two_labels : form (codes "x: y: NOP") ≡ unfit
two_labels = refl

long_31 : form (replicate 31 97 ++ codes ": NOP") ≡ instruction (Some (replicate 31 97)) Nop []
long_31 = refl

long_32 : form (replicate 32 97 ++ codes ": NOP") ≡ unfit
long_32 = refl

bytes_255 : form (replicate 255 32) ≡ empty
bytes_255 = refl

bytes_256 : form (replicate 256 32) ≡ foul
bytes_256 = refl

return : form (78 ∷ 79 ∷ 80 ∷ 13 ∷ []) ≡ foul
return = refl

comment_byte : form (59 ∷ 127 ∷ []) ≡ foul
comment_byte = refl

count_1000 : range (form (codes "RMEM 1000")) ≡ true
count_1000 = refl

count_1001 : range (form (codes "RMEM 1001")) ≡ false
count_1001 = refl

count_negative : range (form (codes "RMEM -1")) ≡ false
count_negative = refl

least : range (form (codes "PUSH -2147483648")) ≡ true
least = refl

below : range (form (codes "PUSH -2147483649")) ≡ false
below = refl

dup_0 : range (form (codes "DW 0 DUP(1)")) ≡ false
dup_0 = refl

figures : range (form (codes "DW 1, 2147483648")) ≡ false
figures = refl

arguments : range (form (codes ".UNIT a, 256, 0")) ≡ false
arguments = refl

results : range (form (codes ".UNIT a, 255, 2")) ≡ false
results = refl

last_line : lines (97 ∷ 10 ∷ 10 ∷ 98 ∷ []) ≡ (97 ∷ []) ∷ [] ∷ (98 ∷ []) ∷ []
last_line = refl

ended_line : lines (97 ∷ 10 ∷ []) ≡ (97 ∷ []) ∷ []
ended_line = refl

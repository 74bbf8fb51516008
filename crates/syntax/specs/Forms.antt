-- The forms of a line.
use Rattle.std.specs.Prelude.{ℕ, Bool, true, false, ◌&&◌, List, [], ◌∷◌, length, ℤ, Some, None, codes, Option, ◌==◌, nat_le}
use Rattle.program.specs.Names.{same}
use Rattle.program.specs.declared.section.Section.{Section}
use Rattle.program.specs.declared.section.Section.TheVariants.{Code, Data, Heap}
use Rattle.isa.specs.Table.{named, operand}
use Rattle.isa.specs.declared.opcode.Opcode.{Opcode}
use Rattle.isa.specs.declared.opcode.Operand.{Operand}
use Rattle.isa.specs.declared.opcode.Operand.TheVariants.{Absent, Value, Target, Count, Number}
use Rattle.syntax.specs.Bytes.{every, plain}
use Rattle.syntax.specs.Tokens.{Tok, name, number, character, text, sign, tokens}

-- what becomes a cell: a number, the address of a label, or a quoted byte
pub data Item : Type 0 where
  value : ℤ → Item
  at : List ℕ → Item
  byte : ℕ → Item

-- foul bytes; tokens that fit nothing; a blank line; a section word; .UNIT with its name and two numbers; an
-- instruction with its label, opcode and argument; DW with its label and tokens; k DUP(n) with its label
pub data Form : Type 0 where
  foul : Form
  unfit : Form
  empty : Form
  section : Section → Form
  unit : List ℕ → ℤ → ℤ → Form
  instruction : Option (List ℕ) → Opcode → List Item → Form
  words : Option (List ℕ) → List Tok → Form
  copies : Option (List ℕ) → ℤ → ℤ → Form

-- nothing follows
abbrev pub ended : List Tok → Form → Form
ended [] f = f
ended (t ∷ ts) f = unfit

abbrev pub on_name : Tok → (List ℕ → Form) → Form
on_name (name w) k = k w
on_name (number z) k = unfit
on_name (character c) k = unfit
on_name (text s) k = unfit
on_name (sign c) k = unfit

-- a name follows, and after it what k says
abbrev pub then_name : List Tok → (List ℕ → List Tok → Form) → Form
then_name [] k = unfit
then_name (t ∷ ts) k = on_name t (λ w. k w ts)

abbrev pub on_number : Tok → (ℤ → Form) → Form
on_number (name w) k = unfit
on_number (number z) k = k z
on_number (character c) k = unfit
on_number (text s) k = unfit
on_number (sign c) k = unfit

-- a number follows
abbrev pub then_number : List Tok → (ℤ → List Tok → Form) → Form
then_number [] k = unfit
then_number (t ∷ ts) k = on_number t (λ z. k z ts)

abbrev pub is_sign_token : ℕ → Tok → Bool
is_sign_token d (name w) = false
is_sign_token d (number z) = false
is_sign_token d (character c) = false
is_sign_token d (text s) = false
is_sign_token d (sign c) = c == d

-- the sign d follows
abbrev pub then_sign : ℕ → List Tok → (List Tok → Form) → Form
then_sign d [] k = unfit
then_sign d (t ∷ ts) k = elim (is_sign_token d t) [ true ↦ k ts | false ↦ unfit ]

-- a comma and a number follow
abbrev pub then_further : List Tok → (ℤ → List Tok → Form) → Form
then_further ts k = then_sign 44 ts λ us. then_number us k

-- NAME, m, r
abbrev pub unit_form : List Tok → Form
unit_form ts = then_name ts λ w ts₁. then_further ts₁ λ m ts₂. then_further ts₂ λ r ts₃. ended ts₃ (unit w m r)

-- a section by its word
abbrev pub section_of_name : List ℕ → Option Section
section_of_name w =
    elim (same w (codes "code")) [
      | true ↦ Some Code
      | false ↦
          elim (same w (codes "data")) [
            | true ↦ Some Data
            | false ↦
                elim (same w (codes "heap")) [ true ↦ Some Heap | false ↦ None ]
          ]
    ]

-- a dot and the word w
abbrev pub directive_of : List ℕ → List Tok → Form
directive_of w ts =
    elim (section_of_name w) [
      | Some s ↦ ended ts (section s)
      | None ↦
          elim (same w (codes "unit")) [ true ↦ unit_form ts | false ↦ unfit ]
    ]

-- after a dot
abbrev pub directive : List Tok → Form
directive ts = then_name ts directive_of

abbrev pub is_item_token : Tok → Bool
is_item_token (name w) = true
is_item_token (number z) = true
is_item_token (character c) = true
is_item_token (text s) = true
is_item_token (sign c) = false

-- one item or more, with commas between
abbrev pub is_list : List Tok → Bool
is_list [] = false
is_list (t ∷ []) = is_item_token t
is_list (t ∷ u ∷ ts) = elim (is_item_token t && is_sign_token 44 u) [ true ↦ is_list ts | false ↦ false ]

abbrev pub listed : Option (List ℕ) → List Tok → Form
listed l ts = elim (is_list ts) [ true ↦ words l ts | false ↦ unfit ]

-- (n), after k DUP
abbrev pub copies_form : Option (List ℕ) → ℤ → List Tok → Form
copies_form l k ts = then_sign 40 ts λ ts₁. then_number ts₁ λ n ts₂. then_sign 41 ts₂ λ ts₃. ended ts₃ (copies l k n)

abbrev pub is_dup_token : Tok → Bool
is_dup_token (name w) = same w (codes "dup")
is_dup_token (number z) = false
is_dup_token (character c) = false
is_dup_token (text s) = false
is_dup_token (sign c) = false

-- after DW: a list, or k DUP(n)
abbrev pub data_form : Option (List ℕ) → List Tok → Form
data_form l [] = unfit
data_form l (t ∷ []) = listed l (t ∷ [])
data_form l (t ∷ u ∷ ts) = elim (is_dup_token u) [ true ↦ on_number t (λ k. copies_form l k ts) | false ↦ listed l (t ∷ u ∷ ts) ]

-- a number or a label
abbrev pub on_value : Tok → (List Item → Form) → Form
on_value (name w) k = k (at w ∷ [])
on_value (number z) k = k (value z ∷ [])
on_value (character c) k = unfit
on_value (text s) k = unfit
on_value (sign c) k = unfit

-- an argument follows, as such an operand asks
abbrev pub then_argument : Operand → List Tok → (List Item → List Tok → Form) → Form
then_argument Absent ts k = k [] ts
then_argument Value [] k = unfit
then_argument Value (t ∷ ts) k = on_value t (λ is. k is ts)
then_argument Target ts k = then_name ts λ w ts₁. k (at w ∷ []) ts₁
then_argument Count ts k = then_number ts λ z ts₁. k (value z ∷ []) ts₁
then_argument Number ts k = then_number ts λ z ts₁. k (value z ∷ []) ts₁

-- an instruction
abbrev pub instruction_form : Option (List ℕ) → Opcode → List Tok → Form
instruction_form l op ts = then_argument (operand op) ts λ is ts₁. ended ts₁ (instruction l op is)

-- DW or an instruction by its word w, after its label if it has one
abbrev pub operation : Option (List ℕ) → List ℕ → List Tok → Form
operation l w ts =
    elim (same w (codes "dw")) [
      | true ↦ data_form l ts
      | false ↦
          elim (named w) [ None ↦ unfit | Some op ↦ instruction_form l op ts ]
    ]

-- a line that begins with the name w: a label if a colon follows
abbrev pub labelled : List ℕ → List Tok → Form
labelled w [] = operation None w []
labelled w (t ∷ ts) = elim (is_sign_token 58 t) [ true ↦ then_name ts (operation (Some w)) | false ↦ operation None w (t ∷ ts) ]

-- the form that tokens spell
abbrev pub spelled : List Tok → Form
spelled [] = empty
spelled (t ∷ ts) = elim (is_sign_token 46 t) [ true ↦ directive ts | false ↦ on_name t (λ w. labelled w ts) ]

-- the form of a line: foul over 255 bytes or with a byte that may not stand in a line
abbrev pub form : List ℕ → Form
form l = elim (nat_le (length l) 255 && every plain l) [ true ↦ spelled (tokens l) | false ↦ foul ]

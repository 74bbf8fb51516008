-- An instruction that a line spells has the argument that its operand asks for.
use Rattle.std.proofs.Common.{◌≡◌, ℕ, Bool, true, false, ◌&&◌, leb, List, [], ◌∷◌, length, ℤ, Some, None, codes, Option, refl}
use Rattle.program.specs.Names.{same}
use Rattle.program.specs.declared.section.Section.{Section}
use Rattle.isa.specs.Table.{operand_cells, named, operand}
use Rattle.isa.specs.declared.opcode.Opcode.{Opcode}
use Rattle.isa.specs.declared.opcode.Operand.{Operand}
use Rattle.isa.specs.declared.opcode.Operand.TheVariants.{Absent, Value, Target, Count, Number}
use Rattle.syntax.specs.Bytes.{every, plain}
use Rattle.syntax.specs.Forms.{Form, foul, unfit, empty, section, unit, instruction, words, copies, ended, on_name, then_name, on_number, then_number, is_sign_token, then_sign, then_further, unit_form, section_of_name, directive_of, directive, is_list, listed, copies_form, is_dup_token, data_form, on_value, then_argument, instruction_form, operation, labelled, spelled, form}
use Rattle.syntax.specs.Tokens.{Tok, name, number, character, text, sign, tokens}

-- an instruction has as many items as its operand takes cells
abbrev pub Fits : Form → Type 0
Fits foul = Unit {0}
Fits unfit = Unit {0}
Fits empty = Unit {0}
Fits (section s) = Unit {0}
Fits (unit w m r) = Unit {0}
Fits (instruction l op is) = length is ≡ operand_cells (operand op)
Fits (words l ts) = Unit {0}
Fits (copies l k z) = Unit {0}

fits_ended : (ts : List Tok) (f : Form) → Fits f → Fits (ended ts f)
fits_ended [] f h = h
fits_ended (t ∷ ts) f h = tt

fits_name : (t : Tok) (k : List ℕ → Form) → ((w : List ℕ) → Fits (k w)) → Fits (on_name t k)
fits_name (name w) k h = h w
fits_name (number z) k h = tt
fits_name (character c) k h = tt
fits_name (text s) k h = tt
fits_name (sign c) k h = tt

fits_then_name : (ts : List Tok) (k : List ℕ → List Tok → Form) → ((w : List ℕ) (us : List Tok) → Fits (k w us)) → Fits (then_name ts k)
fits_then_name [] k h = tt
fits_then_name (t ∷ ts) k h = fits_name t (λ w. k w ts) (λ w. h w ts)

fits_number : (t : Tok) (k : ℤ → Form) → ((z : ℤ) → Fits (k z)) → Fits (on_number t k)
fits_number (name w) k h = tt
fits_number (number z) k h = h z
fits_number (character c) k h = tt
fits_number (text s) k h = tt
fits_number (sign c) k h = tt

fits_then_number : (ts : List Tok) (k : ℤ → List Tok → Form) → ((z : ℤ) (us : List Tok) → Fits (k z us)) → Fits (then_number ts k)
fits_then_number [] k h = tt
fits_then_number (t ∷ ts) k h = fits_number t (λ z. k z ts) (λ z. h z ts)

fits_if : (b : Bool) (f g : Form) → Fits f → Fits g → Fits (elim b [ true ↦ f | false ↦ g ])
fits_if true f g p q = p
fits_if false f g p q = q

fits_sign : (d : ℕ) (ts : List Tok) (k : List Tok → Form) → ((us : List Tok) → Fits (k us)) → Fits (then_sign d ts k)
fits_sign d [] k h = tt
fits_sign d (t ∷ ts) k h = fits_if (is_sign_token d t) (k ts) unfit (h ts) tt

fits_further : (ts : List Tok) (k : ℤ → List Tok → Form) → ((z : ℤ) (us : List Tok) → Fits (k z us)) → Fits (then_further ts k)
fits_further [] k h = tt
fits_further (t ∷ ts) k h = fits_if (is_sign_token 44 t) (then_number ts k) unfit (fits_then_number ts k h) tt

fits_unit : (ts : List Tok) → Fits (unit_form ts)
fits_unit ts =
    fits_then_name ts (λ w ts₁. then_further ts₁ λ m ts₂. then_further ts₂ λ r ts₃. ended ts₃ (unit w m r)) (λ w ts₁.
    fits_further ts₁ (λ m ts₂. then_further ts₂ λ r ts₃. ended ts₃ (unit w m r)) (λ m ts₂.
    fits_further ts₂ (λ r ts₃. ended ts₃ (unit w m r)) (λ r ts₃. fits_ended ts₃ (unit w m r) tt)))

fits_directive_of : (w : List ℕ) (ts : List Tok) → Fits (directive_of w ts)
fits_directive_of w ts = go (section_of_name w)
  where
    go : (s : Option Section) → Fits (elim s [ Some s ↦ ended ts (section s) | None ↦ elim (same w (codes "unit")) [ true ↦ unit_form ts | false ↦ unfit ] ])
    go (Some s) = fits_ended ts (section s) tt
    go None = fits_if (same w (codes "unit")) (unit_form ts) unfit (fits_unit ts) tt

fits_listed : (l : Option (List ℕ)) (ts : List Tok) → Fits (listed l ts)
fits_listed l ts = fits_if (is_list ts) (words l ts) unfit tt tt

fits_copies : (l : Option (List ℕ)) (k : ℤ) (ts : List Tok) → Fits (copies_form l k ts)
fits_copies l k ts =
    fits_sign 40 ts (λ ts₁. then_number ts₁ λ n ts₂. then_sign 41 ts₂ λ ts₃. ended ts₃ (copies l k n)) (λ ts₁.
    fits_then_number ts₁ (λ n ts₂. then_sign 41 ts₂ λ ts₃. ended ts₃ (copies l k n)) (λ n ts₂.
    fits_sign 41 ts₂ (λ ts₃. ended ts₃ (copies l k n)) (λ ts₃. fits_ended ts₃ (copies l k n) tt)))

fits_data : (l : Option (List ℕ)) (ts : List Tok) → Fits (data_form l ts)
fits_data l [] = tt
fits_data l (t ∷ []) = fits_listed l (t ∷ [])
fits_data l (t ∷ u ∷ ts) = fits_if (is_dup_token u) (on_number t (λ k. copies_form l k ts)) (listed l (t ∷ u ∷ ts)) (fits_number t (λ k. copies_form l k ts) (λ k. fits_copies l k ts)) (fits_listed l (t ∷ u ∷ ts))

module _ (l : Option (List ℕ)) (op : Opcode) where
  fits_value : (t : Tok) (ts : List Tok) → 1 ≡ operand_cells (operand op) → Fits (on_value t (λ is. ended ts (instruction l op is)))
  fits_value (name w) ts e = fits_ended ts (instruction l op _) e
  fits_value (number z) ts e = fits_ended ts (instruction l op _) e
  fits_value (character c) ts e = tt
  fits_value (text s) ts e = tt
  fits_value (sign c) ts e = tt

  fits_argument : (o : Operand) (ts : List Tok) → operand_cells o ≡ operand_cells (operand op) → Fits (then_argument o ts (λ is ts₁. ended ts₁ (instruction l op is)))
  fits_argument Absent ts e = fits_ended ts (instruction l op []) e
  fits_argument Value [] e = tt
  fits_argument Value (t ∷ ts) e = fits_value t ts e
  fits_argument Target ts e = fits_then_name ts _ (λ w us. fits_ended us (instruction l op _) e)
  fits_argument Count ts e = fits_then_number ts _ (λ z us. fits_ended us (instruction l op _) e)
  fits_argument Number ts e = fits_then_number ts _ (λ z us. fits_ended us (instruction l op _) e)

fits_operation : (l : Option (List ℕ)) (w : List ℕ) (ts : List Tok) → Fits (operation l w ts)
fits_operation l w ts = fits_if (same w (codes "dw")) (data_form l ts) (elim (named w) [ None ↦ unfit | Some op ↦ instruction_form l op ts ]) (fits_data l ts) (go (named w))
  where
    go : (o : Option Opcode) → Fits (elim o [ None ↦ unfit | Some op ↦ instruction_form l op ts ])
    go None = tt
    go (Some op) = fits_argument l op (operand op) ts refl

fits_labelled : (w : List ℕ) (ts : List Tok) → Fits (labelled w ts)
fits_labelled w [] = fits_operation None w []
fits_labelled w (t ∷ ts) = fits_if (is_sign_token 58 t) (then_name ts (operation (Some w))) (operation None w (t ∷ ts)) (fits_then_name ts (operation (Some w)) (fits_operation (Some w))) (fits_operation None w (t ∷ ts))

fits_spelled : (ts : List Tok) → Fits (spelled ts)
fits_spelled [] = tt
fits_spelled (t ∷ ts) = fits_if (is_sign_token 46 t) (directive ts) (on_name t (λ w. labelled w ts)) (fits_then_name ts directive_of fits_directive_of) (fits_name t (λ w. labelled w ts) (λ w. fits_labelled w ts))

pub fits_form : (v : List ℕ) → Fits (form v)
fits_form v = fits_if (leb (length v) 255 && every plain v) (spelled (tokens v)) foul (fits_spelled (tokens v)) tt

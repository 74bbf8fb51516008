-- No line gives a name of more than 31 bytes or takes more than 1,000 cells.
use Rattle.std.proofs.Common.{◌≡◌, ℕ, zero, suc, ◌≤◌, Bool, true, false, ◌&&◌, leb, List, [], ◌∷◌, length, ℤ, pos, negsuc, Some, None, codes, Option, refl, arith}
use Rattle.std.proofs.lemmas.List.{length-replicate}
use Rattle.std.proofs.lemmas.List.Sums.{sum_by-cons}
use Rattle.std.proofs.lemmas.Bool.{and_parts, leb-true}
use Rattle.program.specs.Names.{same}
use Rattle.program.specs.declared.section.Section.{Section}
use Rattle.isa.specs.Table.{named, operand}
use Rattle.isa.specs.declared.opcode.Opcode.{Opcode}
use Rattle.isa.specs.declared.opcode.Operand.{Operand}
use Rattle.isa.specs.declared.opcode.Operand.TheVariants.{Absent, Value, Target, Count, Number}
use Rattle.syntax.specs.Bytes.{every, plain}
use Rattle.syntax.specs.Tokens.{Tok, name, number, character, text, sign, Read, next_read, tokens_by, tokens}
use Rattle.syntax.specs.Forms.{Item, value, at, Form, foul, unfit, empty, section, unit, instruction, words, copies, ended, is_sign_token, is_dup_token, then_name, then_number, then_sign, then_further, unit_form, section_of_name, directive_of, is_list, listed, copies_form, data_form, then_argument, instruction_form, on_value, on_number, on_name, operation, labelled, spelled, form}
use Rattle.syntax.specs.Cells.{times, span, spans}
use Rattle.syntax.specs.Limits.{ShortLabel, Limited}
use Rattle.syntax.proofs.Listed.{items_span}
use Rattle.syntax.proofs.Tokened.{ShortTok, next_fair}

abbrev AllShort : List Tok → Type 0
AllShort [] = Unit {0}
AllShort (t ∷ ts) = ShortTok t × AllShort ts

by_small : (k : ℕ) (bs : List ℕ) → AllShort (tokens_by k bs) × (spans (tokens_by k bs) ≤ length bs)
by_small zero bs = (tt, omega arith)
by_small (suc k) bs = go (next_read bs) refl (by_small k)
  where
    go : (o : Option Read) → next_read bs ≡ o → ((cs : List ℕ) → AllShort (tokens_by k cs) × (spans (tokens_by k cs) ≤ length cs)) → AllShort (tokens_by (suc k) bs) × (spans (tokens_by (suc k) bs) ≤ length bs)
    go None e ih = rw (e, tokens_by) (tt, omega arith)
    go (Some r) e ih =
        let f = next_fair bs r e in
        let h = ih r.rest in
        rw (e, tokens_by, sum_by-cons span) ((f.2, h.0), omega (arith, f.1, h.1))

-- the tokens of a line take at most as many cells as it has bytes
pub spans_le : (bs : List ℕ) → spans (tokens bs) ≤ length bs
spans_le bs = (by_small (length bs) bs).1

-- tokens with short names, which take at most 255 cells
abbrev Small : List Tok → Type 0
Small ts = AllShort ts × (spans ts ≤ 255)

later : (t : Tok) (ts : List Tok) → Small (t ∷ ts) → Small ts
later t ts a = (a.0.1, omega (arith, a.1, sum_by-cons span t ts))

-- a form that such tokens spell
abbrev Modest : Form → Type 0
Modest foul = Unit {0}
Modest unfit = Unit {0}
Modest empty = Unit {0}
Modest (section s) = Unit {0}
Modest (unit w m r) = length w ≤ 31
Modest (instruction l op is) = ShortLabel l × (length is ≤ 1)
Modest (words l ts) = ShortLabel l × (spans ts ≤ 255)
Modest (copies l k z) = ShortLabel l

ended_short : (ts : List Tok) (f : Form) → Modest f → Modest (ended ts f)
ended_short [] f h = h
ended_short (t ∷ ts) f h = tt

then_name_short : (ts : List Tok) (k : List ℕ → List Tok → Form) → Small ts → ((w : List ℕ) (us : List Tok) → length w ≤ 31 → Small us → Modest (k w us)) → Modest (then_name ts k)
then_name_short [] k a h = tt
then_name_short (name w ∷ ts) k a h = h w ts a.0.0 (later (name w) ts a)
then_name_short (number z ∷ ts) k a h = tt
then_name_short (character c ∷ ts) k a h = tt
then_name_short (text s ∷ ts) k a h = tt
then_name_short (sign c ∷ ts) k a h = tt

then_number_short : (ts : List Tok) (k : ℤ → List Tok → Form) → Small ts → ((z : ℤ) (us : List Tok) → Small us → Modest (k z us)) → Modest (then_number ts k)
then_number_short [] k a h = tt
then_number_short (name w ∷ ts) k a h = tt
then_number_short (number z ∷ ts) k a h = h z ts (later (number z) ts a)
then_number_short (character c ∷ ts) k a h = tt
then_number_short (text s ∷ ts) k a h = tt
then_number_short (sign c ∷ ts) k a h = tt

then_sign_short : (d : ℕ) (ts : List Tok) (k : List Tok → Form) → Small ts → ((us : List Tok) → Small us → Modest (k us)) → Modest (then_sign d ts k)
then_sign_short d [] k a h = tt
then_sign_short d (t ∷ ts) k a h = go (is_sign_token d t) refl
  where
    go : (b : Bool) → is_sign_token d t ≡ b → Modest (then_sign d (t ∷ ts) k)
    go true e = rw (e, then_sign) (h ts (later t ts a))
    go false e = rw (e, then_sign) tt

then_further_short : (ts : List Tok) (k : ℤ → List Tok → Form) → Small ts → ((z : ℤ) (us : List Tok) → Small us → Modest (k z us)) → Modest (then_further ts k)
then_further_short ts k a h = then_sign_short 44 ts _ a (λ us b. then_number_short us k b h)

unit_short : (ts : List Tok) → Small ts → Modest (unit_form ts)
unit_short ts a =
    then_name_short ts _ a (λ w us h b. then_further_short us _ b (λ m vs c. then_further_short vs _ c (λ r ws d. ended_short ws (unit w m r) h)))

directive_short : (w : List ℕ) (ts : List Tok) → Small ts → Modest (directive_of w ts)
directive_short w ts a = go (section_of_name w) (same w (codes "unit")) refl refl
  where
    go : (o : Option Section) (b : Bool) → section_of_name w ≡ o → same w (codes "unit") ≡ b → Modest (directive_of w ts)
    go (Some s) b e f = rw (e, directive_of) (ended_short ts (section s) tt)
    go None true e f = rw (e, f, directive_of) (unit_short ts a)
    go None false e f = rw (e, f, directive_of) tt

listed_short : (l : Option (List ℕ)) (ts : List Tok) → ShortLabel l → Small ts → Modest (listed l ts)
listed_short l ts h a = go (is_list ts) refl
  where
    go : (b : Bool) → is_list ts ≡ b → Modest (listed l ts)
    go true e = rw (e, listed) (h, a.1)
    go false e = rw (e, listed) tt

copies_short : (l : Option (List ℕ)) (k : ℤ) (ts : List Tok) → ShortLabel l → Small ts → Modest (copies_form l k ts)
copies_short l k ts h a =
    then_sign_short 40 ts _ a (λ us b. then_number_short us _ b (λ n vs c. then_sign_short 41 vs _ c (λ ws d. ended_short ws (copies l k n) h)))

on_number_short : (t : Tok) (k : ℤ → Form) → ((z : ℤ) → Modest (k z)) → Modest (on_number t k)
on_number_short (name w) k h = tt
on_number_short (number z) k h = h z
on_number_short (character c) k h = tt
on_number_short (text s) k h = tt
on_number_short (sign c) k h = tt

on_value_short : (t : Tok) (k : List Item → Form) → ((is : List Item) → length is ≤ 1 → Modest (k is)) → Modest (on_value t k)
on_value_short (name w) k h = h _ (omega arith)
on_value_short (number z) k h = h _ (omega arith)
on_value_short (character c) k h = tt
on_value_short (text s) k h = tt
on_value_short (sign c) k h = tt

data_short : (l : Option (List ℕ)) (ts : List Tok) → ShortLabel l → Small ts → Modest (data_form l ts)
data_short l [] h a = tt
data_short l (t ∷ []) h a = listed_short l (t ∷ []) h a
data_short l (t ∷ u ∷ ts) h a = go (is_dup_token u) refl
  where
    go : (b : Bool) → is_dup_token u ≡ b → Modest (data_form l (t ∷ u ∷ ts))
    go true e = rw (e, data_form) (on_number_short t (λ k. copies_form l k ts) (λ k. copies_short l k ts h (later u ts (later t (u ∷ ts) a))))
    go false e = rw (e, data_form) (listed_short l (t ∷ u ∷ ts) h a)

argument_short : (o : Operand) (ts : List Tok) (k : List Item → List Tok → Form) → Small ts → ((is : List Item) (us : List Tok) → length is ≤ 1 → Modest (k is us)) → Modest (then_argument o ts k)
argument_short Absent ts k a h = h [] ts (omega arith)
argument_short Value [] k a h = tt
argument_short Value (t ∷ ts) k a h = on_value_short t _ (λ is b. h is ts b)
argument_short Target ts k a h = then_name_short ts _ a (λ w us _ b. h (at w ∷ []) us (omega arith))
argument_short Count ts k a h = then_number_short ts _ a (λ z us b. h (value z ∷ []) us (omega arith))
argument_short Number ts k a h = then_number_short ts _ a (λ z us b. h (value z ∷ []) us (omega arith))

instruction_short : (l : Option (List ℕ)) (op : Opcode) (ts : List Tok) → ShortLabel l → Small ts → Modest (instruction_form l op ts)
instruction_short l op ts h a = argument_short (operand op) ts _ a (λ is us b. ended_short us (instruction l op is) (h, b))

operation_short : (l : Option (List ℕ)) (w : List ℕ) (ts : List Tok) → ShortLabel l → Small ts → Modest (operation l w ts)
operation_short l w ts h a = go (same w (codes "dw")) (named w) refl refl
  where
    go : (b : Bool) (o : Option Opcode) → same w (codes "dw") ≡ b → named w ≡ o → Modest (operation l w ts)
    go true o e f = rw (e, operation) (data_short l ts h a)
    go false None e f = rw (e, f, operation) tt
    go false (Some op) e f = rw (e, f, operation) (instruction_short l op ts h a)

labelled_short : (w : List ℕ) (ts : List Tok) → length w ≤ 31 → Small ts → Modest (labelled w ts)
labelled_short w [] h a = operation_short None w [] tt a
labelled_short w (t ∷ ts) h a = go (is_sign_token 58 t) refl
  where
    go : (b : Bool) → is_sign_token 58 t ≡ b → Modest (labelled w (t ∷ ts))
    go true e = rw (e, labelled) (then_name_short ts _ (later t ts a) (λ v us _ b. operation_short (Some w) v us h b))
    go false e = rw (e, labelled) (operation_short None w (t ∷ ts) tt a)

on_name_short : (t : Tok) (ts : List Tok) → ShortTok t → Small ts → Modest (on_name t (λ w. labelled w ts))
on_name_short (name w) ts h a = labelled_short w ts h a
on_name_short (number z) ts h a = tt
on_name_short (character c) ts h a = tt
on_name_short (text s) ts h a = tt
on_name_short (sign c) ts h a = tt

spelled_short : (ts : List Tok) → Small ts → Modest (spelled ts)
spelled_short [] a = tt
spelled_short (t ∷ ts) a = go (is_sign_token 46 t) refl
  where
    go : (b : Bool) → is_sign_token 46 t ≡ b → Modest (spelled (t ∷ ts))
    go true e = rw (e, spelled) (then_name_short ts directive_of (later t ts a) (λ w us _ b. directive_short w us b))
    go false e = rw (e, spelled) (on_name_short t ts a.0.0 (later t ts a))

times_le : (k : ℤ) → times k ≤ 1000
times_le (pos k) = go (leb k 1000) refl
  where
    go : (b : Bool) → leb k 1000 ≡ b → times (pos k) ≤ 1000
    go true e = rw (e, times) (leb-true k 1000 e)
    go false e = rw (e, times) (omega arith)
times_le (negsuc k) = omega arith

modest_limited : (f : Form) → Modest f → Limited f
modest_limited foul h = record { name = tt; cells = omega arith }
modest_limited unfit h = record { name = tt; cells = omega arith }
modest_limited empty h = record { name = tt; cells = omega arith }
modest_limited (section s) h = record { name = tt; cells = omega arith }
modest_limited (unit w m r) h = record { name = h; cells = omega arith }
modest_limited (instruction l op is) h = record { name = h.0; cells = omega (arith, h.1) }
modest_limited (words l ts) h = record { name = h.0; cells = rw (items_span ts) (omega (arith, h.1)) }
modest_limited (copies l k z) h = record { name = h; cells = rw (length-replicate (times k) (value z)) (times_le k) }

-- every line keeps the limits
pub limited : (bs : List ℕ) → Limited (form bs)
limited bs = go (leb (length bs) 255 && every plain bs) refl
  where
    go : (b : Bool) → (leb (length bs) 255 && every plain bs) ≡ b → Limited (form bs)
    go true e =
        let h : length bs ≤ 255 = leb-true (length bs) 255 (and_parts (leb (length bs) 255) (every plain bs) e).0 in
        rw (e, form) (modest_limited (spelled (tokens bs)) (spelled_short (tokens bs) ((by_small (length bs) bs).0, omega (arith, spans_le bs))))
    go false e = rw (e, form) (modest_limited foul tt)

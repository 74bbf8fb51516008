-- The cells of items.
use Rattle.std.proofs.Common.{◌≡◌, ℕ, zero, suc, ◌+◌, ◌<◌, Bool, true, false, cond, List, [], ◌∷◌, ◌++◌, map, get_or, drop, replicate, ℤ, pos, sym, refl, ap, ◌∙◌}
use Rattle.isa.specs.Table.{number}
use Rattle.isa.specs.declared.opcode.Opcode.{Opcode}
use Rattle.isa.specs.declared.opcode.Opcode.TheVariants.{Push, Add, Sub, Mul, Div, Mod, Neg, And, Or, Not, Eq, Ne, Lt, Gt, Le, Ge, Dup, Pop, Swap, Jump, Bf, Bt, Nop, Read, Bprint, Cprint, Iprint, Sprint, Prnln, Load, Store, Loadref, Storeref, Deref, Call, Loadfp, Loadsp, Storefp, Rmem, Fmem, Ret, Halt, Loadpc, Storepc, Storesp, Loadhp, Storehp, Loadhl, Storehl}
use Rattle.program.specs.declared.section.Section.{Section}
use Rattle.program.specs.declared.section.Section.TheVariants.{Code, Data, Heap}
use Rattle.slots.specs.declared.list.SlotList.{SlotList}
use Rattle.std.proofs.lemmas.List.{drop_more, map-append}
use Rattle.std.specs.List.{flat_map}
use Rattle.syntax.specs.Cells.{cells}
use Rattle.syntax.specs.Forms.{value, byte, Form, form}
use Rattle.assembler.specs.Cells.{both, cell, in_cell, items_in, same_section, following_section}
use Rattle.assembler.specs.Marks.{Mark}
use Rattle.assembler.specs.Progress.{Puts, clipped}
use Rattle.assembler.proofs.Clips.{left_then, puts_as, puts_then}

-- quoted bytes
pub cells_bytes : (ls : List Mark) (bs : List ℕ) → map pos bs ≡ map (cell ls) (map byte bs)
cells_bytes ls [] = refl
cells_bytes ls (b ∷ bs) = ap (λ zs. pos b ∷ zs) (cells_bytes ls bs)

-- copies of a number
pub cells_copies : (ls : List Mark) (n : ℕ) (z : ℤ) → replicate n (in_cell z) ≡ map (cell ls) (replicate n (value z))
cells_copies ls zero z = refl
cells_copies ls (suc n) z = ap (λ zs. in_cell z ∷ zs) (cells_copies ls n z)

pub copies_put : (ls : List Mark) (a b : SlotList ℤ) (n k : ℕ) (v z : ℤ) → Puts a b (replicate n v) → n ≡ k → v ≡ in_cell z → Puts a b (map (cell ls) (replicate k (value z)))
copies_put ls a b n k v z p e f = puts_as a b (replicate n v) (map (cell ls) (replicate k (value z))) (ap (λ i. replicate i v) e ∙ ap (replicate k) f ∙ cells_copies ls k z) p

-- the items of a section, one line on
pub items_on : (want p : Section) (f : Form) (fs : List Form) → items_in want p (f ∷ fs) ≡ cond (same_section want p) (cells f) [] ++ items_in want (following_section p f) fs
items_on want p f fs = go (same_section want p) refl
  where
    go : (b : Bool) → same_section want p ≡ b → items_in want p (f ∷ fs) ≡ cond (same_section want p) (cells f) [] ++ items_in want (following_section p f) fs
    go true e = rw (e, items_in) refl
    go false e = rw (e, items_in) refl

pub items_more : (ls : List Mark) (want p q : Section) (b : Bool) (rest : List (List ℕ)) (line : List ℕ) (after : List (List ℕ)) → rest ≡ line ∷ after → b ≡ same_section want p → q ≡ following_section p (form line)
    → map (cell ls) (items_in want p (map form rest)) ≡ map (cell ls) (cond b (cells (form line)) []) ++ map (cell ls) (items_in want q (map form after))
items_more ls want p q b rest line after e f g =
    ap (λ vs. map (cell ls) (items_in want p (map form vs))) e
    ∙ ap (map (cell ls)) (items_on want p (form line) (map form after))
    ∙ map-append (cell ls) (cond (same_section want p) (cells (form line)) []) (items_in want (following_section p (form line)) (map form after))
    ∙ ap (λ c. map (cell ls) (cond c (cells (form line)) []) ++ map (cell ls) (items_in want (following_section p (form line)) (map form after))) (sym f)
    ∙ ap (λ r. map (cell ls) (cond b (cells (form line)) []) ++ map (cell ls) (items_in want r (map form after))) (sym g)

-- one section after another
abbrev pub sections : List Section
sections = Code ∷ Data ∷ Heap ∷ []

module _ (ls : List Mark) (site library : List Form) where
  abbrev pub sections_left : ℕ → List ℤ
  sections_left i = map (cell ls) (flat_map (λ q. both q site library) (drop i sections))

  pub sections_more : (a b m d : SlotList ℤ) (xs : List ℤ) (i : ℕ) (q : Section) → i < 3 → q ≡ get_or sections i q → clipped b (sections_left i) ≡ clipped a xs
      → Puts b m (map (cell ls) (items_in q Code site)) → Puts m d (map (cell ls) (items_in q Code library)) → clipped d (sections_left (i + 1)) ≡ clipped a xs
  sections_more a b m d xs i q h e inv p r =
      let ys = items_in q Code site in
      let zs = items_in q Code library in
      let f : sections_left i ≡ map (cell ls) (both q site library) ++ sections_left (i + 1) =
      ap (λ s. map (cell ls) (flat_map (λ v. both v site library) s)) (drop_more sections i q h)
      ∙ ap (λ v. map (cell ls) (both v site library ++ flat_map (λ u. both u site library) (drop (i + 1) sections))) (sym e)
      ∙ map-append (cell ls) (both q site library) (flat_map (λ u. both u site library) (drop (i + 1) sections)) in
      left_then a b d (map (cell ls) (both q site library)) (sections_left i) xs (sections_left (i + 1)) inv f
      (puts_as b d (map (cell ls) ys ++ map (cell ls) zs) (map (cell ls) (both q site library)) (sym (map-append (cell ls) ys zs)) (puts_then b m d (map (cell ls) ys) (map (cell ls) zs) p r))

-- an opcode's number is a cell
pub opcode_cell : (op : Opcode) → pos (number op) ≡ in_cell (pos (number op))
opcode_cell Push = refl
opcode_cell Add = refl
opcode_cell Sub = refl
opcode_cell Mul = refl
opcode_cell Div = refl
opcode_cell Mod = refl
opcode_cell Neg = refl
opcode_cell And = refl
opcode_cell Or = refl
opcode_cell Not = refl
opcode_cell Eq = refl
opcode_cell Ne = refl
opcode_cell Lt = refl
opcode_cell Gt = refl
opcode_cell Le = refl
opcode_cell Ge = refl
opcode_cell Dup = refl
opcode_cell Pop = refl
opcode_cell Swap = refl
opcode_cell Jump = refl
opcode_cell Bf = refl
opcode_cell Bt = refl
opcode_cell Nop = refl
opcode_cell Read = refl
opcode_cell Bprint = refl
opcode_cell Cprint = refl
opcode_cell Iprint = refl
opcode_cell Sprint = refl
opcode_cell Prnln = refl
opcode_cell Load = refl
opcode_cell Store = refl
opcode_cell Loadref = refl
opcode_cell Storeref = refl
opcode_cell Deref = refl
opcode_cell Call = refl
opcode_cell Loadfp = refl
opcode_cell Loadsp = refl
opcode_cell Storefp = refl
opcode_cell Rmem = refl
opcode_cell Fmem = refl
opcode_cell Ret = refl
opcode_cell Halt = refl
opcode_cell Loadpc = refl
opcode_cell Storepc = refl
opcode_cell Storesp = refl
opcode_cell Loadhp = refl
opcode_cell Storehp = refl
opcode_cell Loadhl = refl
opcode_cell Storehl = refl

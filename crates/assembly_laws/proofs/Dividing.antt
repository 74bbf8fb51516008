-- The cells of surveyed lines in .CODE are whole instructions, one after another.
use Rattle.std.proofs.Common.{◌≡◌, ℕ, suc, ◌+◌, ◌-◌, ◌≤◌, Bool, true, false, cond, not, List, [], ◌∷◌, ◌++◌, map, length, get_or, drop, ℤ, pos, Some, None, sym, refl, ap, ◌∙◌, subst, append_assoc, arith, length-append}
use Rattle.std.proofs.lemmas.List.{append-nil, drop_at, drop-drop, get_or-drop, length-drop, length-map, map-append}
use Rattle.std.proofs.lemmas.Bool.{le-leb, lt-ltb}
use Rattle.program.specs.declared.fault.AssemblyCause.TheVariants.{NumberRange, WrongSection}
use Rattle.program.specs.declared.section.Section.{Section}
use Rattle.program.specs.declared.section.Section.TheVariants as S
use Rattle.isa.specs.Code.{Divides, Divided, first, next, argument, whole}
use Rattle.isa.specs.Code as C
use Rattle.isa.specs.Table.{operand_cells, decoded, number, operand}
use Rattle.isa.specs.declared.opcode.Opcode.{Opcode}
use Rattle.isa.specs.declared.opcode.Opcode.TheVariants.{Push, Add, Sub, Mul, Div, Mod, Neg, And, Or, Not, Eq, Ne, Lt, Gt, Le, Ge, Dup, Pop, Swap, Jump, Bf, Bt, Nop, Read, Bprint, Cprint, Iprint, Sprint, Prnln, Load, Store, Loadref, Storeref, Deref, Call, Loadfp, Loadsp, Storefp, Rmem, Fmem, Ret, Halt, Loadpc, Storepc, Storesp, Loadhp, Storehp, Loadhl, Storehl}
use Rattle.syntax.specs.Cells.{cells}
use Rattle.syntax.specs.Forms.{Item, value, Form, foul, unfit, empty, section, unit, instruction, words, copies, form}
use Rattle.syntax.specs.Ranges.{range}
use Rattle.assembler.specs.Cells.{cell, items_in, same_section, following_section}
use Rattle.assembler.specs.Marks.{Mark}
use Rattle.assembler.specs.Survey.{Survey, Step, go, stop, is_code, putting, taken, step, done, fault, survey}
use Rattle.assembler.proofs.Sizes.{demanded, step_counts}
use Rattle.assembler.proofs.Written.{items_on, opcode_cell}
use Rattle.assembly_laws.proofs.Fitting.{Fits, fits_form}

decoded_number : (op : Opcode) → decoded (pos (number op)) ≡ Some op
decoded_number Push = refl
decoded_number Add = refl
decoded_number Sub = refl
decoded_number Mul = refl
decoded_number Div = refl
decoded_number Mod = refl
decoded_number Neg = refl
decoded_number And = refl
decoded_number Or = refl
decoded_number Not = refl
decoded_number Eq = refl
decoded_number Ne = refl
decoded_number Lt = refl
decoded_number Gt = refl
decoded_number Le = refl
decoded_number Ge = refl
decoded_number Dup = refl
decoded_number Pop = refl
decoded_number Swap = refl
decoded_number Jump = refl
decoded_number Bf = refl
decoded_number Bt = refl
decoded_number Nop = refl
decoded_number Read = refl
decoded_number Bprint = refl
decoded_number Cprint = refl
decoded_number Iprint = refl
decoded_number Sprint = refl
decoded_number Prnln = refl
decoded_number Load = refl
decoded_number Store = refl
decoded_number Loadref = refl
decoded_number Storeref = refl
decoded_number Deref = refl
decoded_number Call = refl
decoded_number Loadfp = refl
decoded_number Loadsp = refl
decoded_number Storefp = refl
decoded_number Rmem = refl
decoded_number Fmem = refl
decoded_number Ret = refl
decoded_number Halt = refl
decoded_number Loadpc = refl
decoded_number Storepc = refl
decoded_number Storesp = refl
decoded_number Loadhp = refl
decoded_number Storehp = refl
decoded_number Loadhl = refl
decoded_number Storehl = refl

instruction_there : (code : List ℤ) (a : ℕ) (op : Opcode) → get_or code a (pos 0) ≡ pos (number op) → a + 1 + operand_cells (operand op) ≤ length code
    → C.instruction code a ≡ Some (record { op = op; argument = argument (operand op) code a })
instruction_there code a op e h =
    ap (λ b. cond b (whole code a (decoded (get_or code a (pos 0)))) None) (lt-ltb a (length code) (omega arith))
    ∙ ap (λ z. whole code a (decoded z)) e
    ∙ ap (whole code a) (decoded_number op)
    ∙ ap (λ b. cond b (Some (record { op = op; argument = argument (operand op) code a })) None) (le-leb (a + 1 + operand_cells (operand op)) (length code) h)

-- where items stand in code from the beginning of an instruction on, an instruction begins after them
abbrev pub Runs : List Item → Type 0
Runs is = (ls : List Mark) (code rest : List ℤ) (a : ℕ) → drop a code ≡ map (cell ls) is ++ rest → Divides code a → Divides code (a + length is)

runs_none : Runs []
runs_none ls code rest a e b = subst (Divides code) (omega arith) b

pub runs_append : (is js : List Item) → Runs is → Runs js → Runs (is ++ js)
runs_append is js f g ls code rest a e b =
    let h : drop a code ≡ map (cell ls) is ++ (map (cell ls) js ++ rest) = e ∙ ap (λ xs. xs ++ rest) (map-append (cell ls) is js) ∙ append_assoc (map (cell ls) is) (map (cell ls) js) rest in
    let i : drop (a + length is) code ≡ map (cell ls) js ++ rest = sym (drop-drop (length is) a code) ∙ ap (drop (length is)) h ∙ drop_at (map (cell ls) is) (map (cell ls) js ++ rest) (length is) (length-map is (cell ls)) in
    let n : a + length is + length js ≡ a + length (is ++ js) = let z = length-append is js in omega arith in
    subst (Divides code) n (g ls code rest (a + length is) i (f ls code (map (cell ls) js ++ rest) a h b))

-- one instruction
runs_one : (op : Opcode) (is : List Item) → length is ≡ operand_cells (operand op) → Runs (value (pos (number op)) ∷ is)
runs_one op is f ls code rest a e b =
    let z : pos (number op) ≡ cell ls (value (pos (number op))) = opcode_cell op in
    let n : get_or code (a + 0) (pos 0) ≡ cell ls (value (pos (number op))) = sym (get_or-drop a code 0 (pos 0)) ∙ ap (λ xs. get_or xs 0 (pos 0)) e in
    let m : get_or code a (pos 0) ≡ pos (number op) = ap (λ k. get_or code k (pos 0)) (let q : a ≡ a + 0 = omega arith in q) ∙ n ∙ sym z in
    let k : length code - a ≡ suc (length (map (cell ls) is ++ rest)) = sym (length-drop a code) ∙ ap length e in
    let l = length-append (map (cell ls) is) rest in
    let j = length-map is (cell ls) in
    let h : a + 1 + operand_cells (operand op) ≤ length code = omega arith in
    subst (Divides code) (ap (λ i. a + suc i) (sym f)) (next a (record { op = op; argument = argument (operand op) code a }) b (instruction_there code a op m h))

runs_if : (b : Bool) (is : List Item) → Runs is → Runs (cond b is [])
runs_if true is r = r
runs_if false is r = runs_none

off_code : (p : Section) → not (is_code p) ≡ true → same_section S.Code p ≡ false
off_code S.Code e = sym e
off_code S.Data e = refl
off_code S.Heap e = refl

runs_off : (p : Section) (is : List Item) → not (is_code p) ≡ true → Runs (cond (same_section S.Code p) is [])
runs_off p is e = subst (λ b. Runs (cond b is [])) (sym (off_code p e)) runs_none

module _ (l u : ℕ) where
  taken_runs : (s : Survey) (f : Form) (t : Survey) → Fits f → taken l u s f ≡ go t → Runs (cond (same_section S.Code s.tally.section) (cells f) [])
  taken_runs s foul t h e = runs_if (same_section S.Code s.tally.section) [] runs_none
  taken_runs s unfit t h e = runs_if (same_section S.Code s.tally.section) [] runs_none
  taken_runs s empty t h e = runs_if (same_section S.Code s.tally.section) [] runs_none
  taken_runs s (section p) t h e = runs_if (same_section S.Code s.tally.section) [] runs_none
  taken_runs s (unit w m r) t h e = runs_if (same_section S.Code s.tally.section) [] runs_none
  taken_runs s (instruction w op is) t h e = runs_if (same_section S.Code s.tally.section) (value (pos (number op)) ∷ is) (runs_one op is h)
  taken_runs s (words w ts) t h e = runs_off s.tally.section (cells (words w ts)) (demanded (not (is_code s.tally.section)) WrongSection (putting l u s w (length (cells (words w ts)))) t e).0
  taken_runs s (copies w k z) t h e = runs_off s.tally.section (cells (copies w k z)) (demanded (not (is_code s.tally.section)) WrongSection (putting l u s w (length (cells (copies w k z)))) t e).0

  step_runs : (s : Survey) (f : Form) (t : Survey) → Fits f → step l u s f ≡ go t → Runs (cond (same_section S.Code s.tally.section) (cells f) [])
  step_runs s f t h e = taken_runs s f t h (demanded (range f) NumberRange (taken l u s f) t e).1

  -- the code of the lines of a text
  pub survey_runs : (k : ℕ) (s : Survey) (vs : List (List ℕ)) (t : Survey) → survey l u k s (map form vs) ≡ done t → Runs (items_in S.Code s.tally.section (map form vs))
  survey_runs k s [] t e = runs_none
  survey_runs k s (v ∷ vs) t e = go' (step l u s (form v)) refl (λ r. survey_runs (suc k) r vs t)
    where
      go' : (x : Step) → step l u s (form v) ≡ x → ((r : Survey) → survey l u (suc k) r (map form vs) ≡ done t → Runs (items_in S.Code r.tally.section (map form vs))) → Runs (items_in S.Code s.tally.section (map form (v ∷ vs)))
      go' (stop c) p ih = let z : fault k c ≡ done t = sym (rw (p, survey) refl) ∙ e in let y : ◌≡◌ {A = ℕ} 0 1 = cc in absurd (omega arith)
      go' (go r) p ih =
          let h : survey l u (suc k) r (map form vs) ≡ done t = sym (rw (p, survey) refl) ∙ e in
          let c = step_counts l u s (form v) r p in
          let a : Runs (items_in S.Code (following_section s.tally.section (form v)) (map form vs)) = subst (λ q. Runs (items_in S.Code q (map form vs))) c.at (ih r h) in
          subst Runs (sym (items_on S.Code s.tally.section (form v) (map form vs))) (runs_append (cond (same_section S.Code s.tally.section) (cells (form v)) []) (items_in S.Code (following_section s.tally.section (form v)) (map form vs)) (step_runs s (form v) r (fits_form v) p) a)

-- code of such items divides
pub runs_divide : (ls : List Mark) (is : List Item) → Runs is → Divided (map (cell ls) is)
runs_divide ls is r =
    let z = length-map is (cell ls) in
    let n : 0 + length is ≡ length (map (cell ls) is) = omega arith in
    subst (Divides (map (cell ls) is)) n (r ls (map (cell ls) is) [] 0 (sym (append-nil (map (cell ls) is))) first)

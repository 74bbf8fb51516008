-- The tally of surveyed lines counts the cells of each section.
use Rattle.std.proofs.Common.{◌≡◌, ℕ, suc, ◌+◌, Bool, true, false, cond, not, ltb, List, [], ◌∷◌, ◌++◌, map, length, Some, None, Option, sym, refl, ap, ◌∙◌, arith, length-append}
use Rattle.std.proofs.lemmas.Bool.{not-true}
use Rattle.program.specs.declared.fault.AssemblyCause.{AssemblyCause}
use Rattle.program.specs.declared.fault.AssemblyCause.TheVariants.{LineBytes, NoForm, NumberRange, LateUnit, WrongSection, GivenTwice, ListFull}
use Rattle.program.specs.declared.section.Section.{Section}
use Rattle.program.specs.declared.section.Section.TheVariants.{Code, Data, Heap}
use Rattle.syntax.specs.Cells.{cells}
use Rattle.syntax.specs.Forms.{Item, Form, foul, unfit, empty, section, unit, instruction, words, copies}
use Rattle.syntax.specs.Ranges.{range}
use Rattle.assembler.specs.declared.tally.Tally.{Tally}
use Rattle.assembler.specs.Cells.{items_in, same_section, following_section}
use Rattle.assembler.specs.Marks.{Mark, mark, Entry, entry, has}
use Rattle.assembler.specs.Survey.{Survey, surveyed, Step, go, stop, demand, extent, octet, is_code, grown, grown_by, entered, adding, putting, declaring, taken, step, done, fault, survey}
use Rattle.assembler.proofs.Written.{items_on}

-- one line adds its cells to the section at hand
pub record Counted (s t : Tally) (f : Form) : Type 0 where
  pub at : t.section ≡ following_section s.section f
  pub more : (q : Section) → extent t q ≡ extent s q + length (cond (same_section q s.section) (cells f) [])

pub clash : {A : Type 0} (t : Survey) (c : AssemblyCause) → stop c ≡ go t → A
clash t c e = let z : ◌≡◌ {A = ℕ} 0 1 = cc in absurd (omega arith)

-- what was demanded held
pub demanded : (b : Bool) (c : AssemblyCause) (x : Step) (t : Survey) → demand b c x ≡ go t → (b ≡ true) × (x ≡ go t)
demanded true c x t e = (refl, e)
demanded false c x t e = clash t c e

-- a new name, with room in the list
pub added : {X : Type 0} (room : ℕ) (names : List (List ℕ)) (xs : List X) (w : List ℕ) (x : X) (on : List X → Step) (t : Survey) → adding room names xs w x on ≡ go t → (has w names ≡ false) × (on (xs ++ x ∷ []) ≡ go t)
added room names xs w x on t e =
    let p = demanded (not (has w names)) GivenTwice (demand (ltb (length xs) room) ListFull (on (xs ++ x ∷ []))) t e in
    (not-true (has w names) p.0, (demanded (ltb (length xs) room) ListFull (on (xs ++ x ∷ [])) t p.1).1)

tally_of : (s t : Survey) → go s ≡ go t → s.tally ≡ t.tally
tally_of s t e = let q : s ≡ t = cc in ap (λ (v : Survey). v.tally) q

len_cond : {X : Type 0} (b : Bool) (xs : List X) → cond b (length xs) 0 ≡ length (cond b xs [])
len_cond true xs = refl
len_cond false xs = refl

len_none : (b : Bool) → length {A = Item} (cond b [] []) ≡ 0
len_none true = refl
len_none false = refl

grown_extent : (p : Section) (s : Tally) (n : ℕ) (q : Section) → extent (grown_by p s n) q ≡ extent s q + cond (same_section q p) n 0
grown_extent Code s n Code = refl
grown_extent Code s n Data = omega arith
grown_extent Code s n Heap = omega arith
grown_extent Data s n Code = omega arith
grown_extent Data s n Data = refl
grown_extent Data s n Heap = omega arith
grown_extent Heap s n Code = omega arith
grown_extent Heap s n Data = omega arith
grown_extent Heap s n Heap = refl

grown_section : (p : Section) (s : Tally) (n : ℕ) → (grown_by p s n).section ≡ p
grown_section Code s n = refl
grown_section Data s n = refl
grown_section Heap s n = refl

entered_extent : (s : Tally) (p q : Section) → extent (entered s p) q ≡ extent s q
entered_extent s p Code = refl
entered_extent s p Data = refl
entered_extent s p Heap = refl

-- a line with cells
counted_put : (s t : Tally) (f : Form) → grown s (length (cells f)) ≡ t → following_section s.section f ≡ s.section → Counted s t f
counted_put s t f e a = record {
  at = ap (λ (v : Tally). v.section) (sym e) ∙ grown_section s.section s (length (cells f)) ∙ sym a;
  more = λ q. ap (λ v. extent v q) (sym e) ∙ grown_extent s.section s (length (cells f)) q ∙ ap (λ k. extent s q + k) (len_cond (same_section q s.section) (cells f));
}

-- a line without cells, which leaves the section
counted_none : (s t : Tally) (f : Form) → s ≡ t → following_section s.section f ≡ s.section → cells f ≡ [] → Counted s t f
counted_none s t f e a c = record {
  at = ap (λ (v : Tally). v.section) (sym e) ∙ sym a;
  more = λ q.
      let z : length (cond (same_section q s.section) (cells f) []) ≡ 0 = ap (λ is. length (cond (same_section q s.section) is [])) c ∙ len_none (same_section q s.section) in
      let y : extent s q ≡ extent t q = ap (λ v. extent v q) e in
      omega arith;
}

module _ (l u : ℕ) where
  put_tally : (s : Survey) (w : Option (List ℕ)) (n : ℕ) (t : Survey) → putting l u s w n ≡ go t → grown s.tally n ≡ t.tally
  put_tally s None n t e = tally_of (surveyed (grown s.tally n) s.labels s.units) t e
  put_tally s (Some w) n t e =
      let m = mark w s.tally.section (extent s.tally s.tally.section) in
      let on : List Mark → Step = λ ls. go (surveyed (grown s.tally n) ls s.units) in
      tally_of (surveyed (grown s.tally n) (s.labels ++ m ∷ []) s.units) t (added l (map (λ (v : Mark). v.name) s.labels) s.labels w m on t e).1

  taken_counts : (s : Survey) (f : Form) (t : Survey) → taken l u s f ≡ go t → Counted s.tally t.tally f
  taken_counts s foul t e = clash t LineBytes e
  taken_counts s unfit t e = clash t NoForm e
  taken_counts s empty t e = counted_none s.tally t.tally empty (tally_of s t e) refl refl
  taken_counts s (section p) t e =
      let q : entered s.tally p ≡ t.tally = tally_of (surveyed (entered s.tally p) s.labels s.units) t e in
      record {
        at = ap (λ (v : Tally). v.section) (sym q);
        more = λ r.
            let z : length (cond (same_section r s.tally.section) (cells (section p)) []) ≡ 0 = len_none (same_section r s.tally.section) in
            let y : extent (entered s.tally p) r ≡ extent t.tally r = ap (λ v. extent v r) q in
            let x = entered_extent s.tally p r in
            omega arith;
      }
  taken_counts s (unit w m r) t e =
      let v = entry w 0 (octet m) (octet r) in
      let on : List Entry → Step = λ us. go (surveyed s.tally s.labels us) in
      let p = demanded (not s.tally.begun) LateUnit (declaring l u s w (octet m) (octet r)) t e in
      let q = added u (map (λ (x : Entry). x.name) s.units) s.units w v on t p.1 in
      counted_none s.tally t.tally (unit w m r) (tally_of (surveyed s.tally s.labels (s.units ++ v ∷ [])) t q.1) refl refl
  taken_counts s (instruction w op is) t e =
      let n = length (cells (instruction w op is)) in
      counted_put s.tally t.tally (instruction w op is) (put_tally s w n t (demanded (is_code s.tally.section) WrongSection (putting l u s w n) t e).1) refl
  taken_counts s (words w ts) t e =
      let n = length (cells (words w ts)) in
      counted_put s.tally t.tally (words w ts) (put_tally s w n t (demanded (not (is_code s.tally.section)) WrongSection (putting l u s w n) t e).1) refl
  taken_counts s (copies w k z) t e =
      let n = length (cells (copies w k z)) in
      counted_put s.tally t.tally (copies w k z) (put_tally s w n t (demanded (not (is_code s.tally.section)) WrongSection (putting l u s w n) t e).1) refl

  pub step_counts : (s : Survey) (f : Form) (t : Survey) → step l u s f ≡ go t → Counted s.tally t.tally f
  step_counts s f t e = taken_counts s f t (demanded (range f) NumberRange (taken l u s f) t e).1

  -- lines add their cells to the sections that they are in
  pub survey_counts : (k : ℕ) (s : Survey) (fs : List Form) (t : Survey) → survey l u k s fs ≡ done t → (q : Section) → extent t.tally q ≡ extent s.tally q + length (items_in q s.tally.section fs)
  survey_counts k s [] t e q =
      let z : s.tally ≡ t.tally = done_tally in
      let y : extent s.tally q ≡ extent t.tally q = ap (λ v. extent v q) z in
      omega arith
    where
      done_tally : s.tally ≡ t.tally
      done_tally = let q : s ≡ t = cc in ap (λ (v : Survey). v.tally) q
  survey_counts k s (f ∷ fs) t e q = go' (step l u s f) refl (λ r. survey_counts (suc k) r fs t)
    where
      go' : (x : Step) → step l u s f ≡ x → ((r : Survey) → survey l u (suc k) r fs ≡ done t → (q : Section) → extent t.tally q ≡ extent r.tally q + length (items_in q r.tally.section fs)) → extent t.tally q ≡ extent s.tally q + length (items_in q s.tally.section (f ∷ fs))
      go' (stop c) p ih = let z : fault k c ≡ done t = sym (rw (p, survey) refl) ∙ e in let y : ◌≡◌ {A = ℕ} 0 1 = cc in absurd (omega arith)
      go' (go r) p ih =
          let h : survey l u (suc k) r fs ≡ done t = sym (rw (p, survey) refl) ∙ e in
          let c = step_counts s f r p in
          let m = c.more q in
          let n = ih r h q in
          let a : items_in q r.tally.section fs ≡ items_in q (following_section s.tally.section f) fs = ap (λ v. items_in q v fs) c.at in
          let b : length (items_in q r.tally.section fs) ≡ length (items_in q (following_section s.tally.section f) fs) = ap length a in
          let d : length (items_in q s.tally.section (f ∷ fs)) ≡ length (cond (same_section q s.tally.section) (cells f) []) + length (items_in q (following_section s.tally.section f) fs) = ap length (items_on q s.tally.section f fs) ∙ length-append (cond (same_section q s.tally.section) (cells f) []) (items_in q (following_section s.tally.section f) fs) in
          omega arith

-- The labels of surveyed lines: each stands where the items of its line begin, and no two have one name.
use Rattle.std.proofs.Common.{◌≡◌, ℕ, suc, ◌+◌, Bool, true, false, cond, not, eqb, List, [], ◌∷◌, ◌++◌, map, length, Some, None, Option, sym, refl, ap, ◌∙◌, subst, append_assoc, arith, length-append}
use Rattle.std.proofs.lemmas.List.{append-nil, map-append}
use Rattle.std.proofs.lemmas.Bool.{eq-eqb, eqb-false, eqb-true, ne_eqb}
use Rattle.program.specs.Names.{same}
use Rattle.program.specs.declared.fault.AssemblyCause.TheVariants.{LineBytes, NoForm, NumberRange, LateUnit, WrongSection}
use Rattle.program.specs.declared.section.Section.{Section}
use Rattle.program.specs.declared.section.Section.TheVariants as S
use Rattle.syntax.specs.Cells.{cells}
use Rattle.syntax.specs.Forms.{Item, Form, foul, unfit, empty, section, unit, instruction, words, copies, form}
use Rattle.syntax.specs.Lines.{line_at}
use Rattle.syntax.specs.Ranges.{range}
use Rattle.assembler.specs.declared.tally.Tally.{Tally}
use Rattle.assembler.specs.Cells.{items_in, same_section, following_section}
use Rattle.assembler.specs.Marks.{Mark, mark, Entry, entry, has}
use Rattle.assembler.specs.Survey.{Survey, surveyed, Step, go, stop, extent, octet, is_code, grown, entered, putting, declaring, taken, step, done, fault, survey}
use Rattle.assembler.proofs.Adding.{has_no, has_yes}
use Rattle.assembler.proofs.Sizes.{added, clash, demanded, step_counts}
use Rattle.assembler.proofs.Written.{items_on}
use Rattle.assembly_laws.specs.Laws.{Each, Distinct, label_in}

pub each_append : {X : Type 0} (P : X → Type 0) (xs ys : List X) → Each P xs → Each P ys → Each P (xs ++ ys)
each_append P [] ys f g = g
each_append P (x ∷ xs) ys f g = (f.0, each_append P xs ys f.1 g)

pub each_map : {X Y : Type 0} (P : X → Type 0) (Q : Y → Type 0) (f : X → Y) → ((x : X) → P x → Q (f x)) → (xs : List X) → Each P xs → Each Q (map f xs)
each_map P Q f h [] e = tt
each_map P Q f h (x ∷ xs) e = (h x e.0, each_map P Q f h xs e.1)

pub each_as : {X : Type 0} (P Q : X → Type 0) → ((x : X) → P x → Q x) → (xs : List X) → Each P xs → Each Q xs
each_as P Q h [] e = tt
each_as P Q h (x ∷ xs) e = (h x e.0, each_as P Q h xs e.1)

-- words are the same both ways round
same_at_yes : (a b : ℕ) (xs ys : List ℕ) → eqb a b ≡ true → same (a ∷ xs) (b ∷ ys) ≡ same xs ys
same_at_yes a b xs ys e = rw (e, same) refl

same_at_no : (a b : ℕ) (xs ys : List ℕ) → eqb a b ≡ false → same (a ∷ xs) (b ∷ ys) ≡ false
same_at_no a b xs ys e = rw (e, same) refl

same_sym : (v w : List ℕ) → same v w ≡ same w v
same_sym [] [] = refl
same_sym [] (b ∷ bs) = refl
same_sym (a ∷ as') [] = refl
same_sym (a ∷ as') (b ∷ bs) = go' (eqb a b) refl (same_sym as' bs)
  where
    go' : (t : Bool) → eqb a b ≡ t → same as' bs ≡ same bs as' → same (a ∷ as') (b ∷ bs) ≡ same (b ∷ bs) (a ∷ as')
    go' true e ih = same_at_yes a b as' bs e ∙ ih ∙ sym (same_at_yes b a bs as' (eq-eqb b a (sym (eqb-true a b e))))
    go' false e ih = same_at_no a b as' bs e ∙ sym (same_at_no b a bs as' (ne_eqb b a (λ q. eqb-false a b e (sym q))))

-- a word that is not among names is none of them
not_has : (w v : List ℕ) (vs : List (List ℕ)) → has w (v ∷ vs) ≡ false → (same w v ≡ false) × (has w vs ≡ false)
not_has w v vs h = go' (same w v) refl
  where
    go' : (t : Bool) → same w v ≡ t → (same w v ≡ false) × (has w vs ≡ false)
    go' true e = let z : true ≡ false = sym (has_yes w v vs e) ∙ h in let y : ◌≡◌ {A = ℕ} 0 1 = cc in absurd (omega arith)
    go' false e = (e, sym (has_no w v vs e) ∙ h)

not_has_more : (v w : List ℕ) (vs : List (List ℕ)) → has v vs ≡ false → same v w ≡ false → has v (vs ++ w ∷ []) ≡ false
not_has_more v w [] h e = has_no v w [] e
not_has_more v w (x ∷ vs) h e =
    let p = not_has v x vs h in
    has_no v x (vs ++ w ∷ []) p.0 ∙ not_has_more v w vs p.1 e

distinct_more : (vs : List (List ℕ)) (w : List ℕ) → Distinct vs → has w vs ≡ false → Distinct (vs ++ w ∷ [])
distinct_more [] w d h = (refl, tt)
distinct_more (v ∷ vs) w d h =
    let p = not_has w v vs h in
    (not_has_more v w vs d.0 (same_sym v w ∙ p.0), distinct_more vs w d.1 p.1)

-- a label that a line gives at the end of the section at hand
pub record Given (s : Tally) (f : Form) (m : Mark) : Type 0 where
  pub gives : label_in f ≡ Some m.name
  pub placed : m.section ≡ s.section
  pub at : m.address ≡ extent s s.section

-- the labels that a line adds
pub record Adds (s t : Survey) (f : Form) : Type 0 where
  pub new : List Mark
  pub joined : t.labels ≡ s.labels ++ new
  pub given : Each (Given s.tally f) new
  pub distinct : Distinct (map (λ (l : Mark). l.name) s.labels) → Distinct (map (λ (l : Mark). l.name) t.labels)

labels_of : (s t : Survey) → go s ≡ go t → t.labels ≡ s.labels
labels_of s t e = let q : t ≡ s = cc in ap (λ (v : Survey). v.labels) q

adds_none : (s t : Survey) (f : Form) → t.labels ≡ s.labels → Adds s t f
adds_none s t f e = record {
  new = [];
  joined = e ∙ sym (append-nil s.labels);
  given = tt;
  distinct = λ d. subst (λ ls. Distinct (map (λ (l : Mark). l.name) ls)) (sym e) d;
}

module _ (l u : ℕ) where
  put_adds : (s : Survey) (w : Option (List ℕ)) (n : ℕ) (t : Survey) (f : Form) → label_in f ≡ w → putting l u s w n ≡ go t → Adds s t f
  put_adds s None n t f g e = adds_none s t f (labels_of (surveyed (grown s.tally n) s.labels s.units) t e)
  put_adds s (Some w) n t f g e =
      let m = mark w s.tally.section (extent s.tally s.tally.section) in
      let on : List Mark → Step = λ ls. go (surveyed (grown s.tally n) ls s.units) in
      let p = added l (map (λ (v : Mark). v.name) s.labels) s.labels w m on t e in
      let q : t.labels ≡ s.labels ++ m ∷ [] = labels_of (surveyed (grown s.tally n) (s.labels ++ m ∷ []) s.units) t p.1 in
      record {
        new = m ∷ [];
        joined = q;
        given = (record { gives = g; placed = refl; at = refl }, tt);
        distinct = λ d. subst Distinct (sym (ap (map (λ (v : Mark). v.name)) q ∙ map-append (λ (v : Mark). v.name) s.labels (m ∷ []))) (distinct_more (map (λ (v : Mark). v.name) s.labels) w d p.0);
      }

  taken_adds : (s : Survey) (f : Form) (t : Survey) → taken l u s f ≡ go t → Adds s t f
  taken_adds s foul t e = clash t LineBytes e
  taken_adds s unfit t e = clash t NoForm e
  taken_adds s empty t e = adds_none s t empty (labels_of s t e)
  taken_adds s (section p) t e = adds_none s t (section p) (labels_of (surveyed (entered s.tally p) s.labels s.units) t e)
  taken_adds s (unit w m r) t e =
      let v = entry w 0 (octet m) (octet r) in
      let on : List Entry → Step = λ us. go (surveyed s.tally s.labels us) in
      let p = demanded (not s.tally.begun) LateUnit (declaring l u s w (octet m) (octet r)) t e in
      let q = added u (map (λ (x : Entry). x.name) s.units) s.units w v on t p.1 in
      adds_none s t (unit w m r) (labels_of (surveyed s.tally s.labels (s.units ++ v ∷ [])) t q.1)
  taken_adds s (instruction w op is) t e =
      let n = length (cells (instruction w op is)) in
      put_adds s w n t (instruction w op is) refl (demanded (is_code s.tally.section) WrongSection (putting l u s w n) t e).1
  taken_adds s (words w ts) t e =
      let n = length (cells (words w ts)) in
      put_adds s w n t (words w ts) refl (demanded (not (is_code s.tally.section)) WrongSection (putting l u s w n) t e).1
  taken_adds s (copies w k z) t e =
      let n = length (cells (copies w k z)) in
      put_adds s w n t (copies w k z) refl (demanded (not (is_code s.tally.section)) WrongSection (putting l u s w n) t e).1

  step_adds : (s : Survey) (f : Form) (t : Survey) → step l u s f ≡ go t → Adds s t f
  step_adds s f t e = taken_adds s f t (demanded (range f) NumberRange (taken l u s f) t e).1

-- a line of a text gives the label, and the items of that line stand in the label's section at its address
pub record Found (s : Tally) (vs : List (List ℕ)) (m : Mark) : Type 0 where
  pub number : ℕ
  pub line : List ℕ
  pub there : line_at (suc number) vs ≡ Some line
  pub gives : label_in (form line) ≡ Some m.name
  pub before : List Item
  pub after : List Item
  pub split : items_in m.section s.section (map form vs) ≡ before ++ (cells (form line) ++ after)
  pub at : m.address ≡ extent s m.section + length before

same_section_lem : (p : Section) → same_section p p ≡ true
same_section_lem S.Code = refl
same_section_lem S.Data = refl
same_section_lem S.Heap = refl

found_here : (s : Tally) (v : List ℕ) (vs : List (List ℕ)) (m : Mark) → Given s (form v) m → Found s (v ∷ vs) m
found_here s v vs m g = record {
  number = 0;
  line = v;
  there = refl;
  gives = g.gives;
  before = [];
  after = items_in m.section (following_section s.section (form v)) (map form vs);
  split =
      items_on m.section s.section (form v) (map form vs)
      ∙ ap (λ b. cond b (cells (form v)) [] ++ items_in m.section (following_section s.section (form v)) (map form vs)) (ap (λ q. same_section q s.section) g.placed ∙ same_section_lem s.section);
  at =
      let a : extent s m.section ≡ extent s s.section = ap (extent s) g.placed in
      let b = g.at in
      omega arith;
}

found_later : (s r : Tally) (v : List ℕ) (vs : List (List ℕ)) → r.section ≡ following_section s.section (form v)
    → ((q : Section) → extent r q ≡ extent s q + length (cond (same_section q s.section) (cells (form v)) []))
    → (m : Mark) → Found r vs m → Found s (v ∷ vs) m
found_later s r v vs a h m g = record {
  number = suc g.number;
  line = g.line;
  there = g.there;
  gives = g.gives;
  before = cond (same_section m.section s.section) (cells (form v)) [] ++ g.before;
  after = g.after;
  split =
      items_on m.section s.section (form v) (map form vs)
      ∙ ap (λ q. cond (same_section m.section s.section) (cells (form v)) [] ++ items_in m.section q (map form vs)) (sym a)
      ∙ ap (λ is. cond (same_section m.section s.section) (cells (form v)) [] ++ is) g.split
      ∙ sym (append_assoc (cond (same_section m.section s.section) (cells (form v)) []) g.before (cells (form g.line) ++ g.after));
  at =
      let b = g.at in
      let c = h m.section in
      let d = length-append (cond (same_section m.section s.section) (cells (form v)) []) g.before in
      omega arith;
}

-- the labels that the lines of a text add
pub record Labels (s t : Survey) (vs : List (List ℕ)) : Type 0 where
  pub new : List Mark
  pub joined : t.labels ≡ s.labels ++ new
  pub found : Each (Found s.tally vs) new
  pub distinct : Distinct (map (λ (l : Mark). l.name) s.labels) → Distinct (map (λ (l : Mark). l.name) t.labels)

module _ (l u : ℕ) where
  pub survey_labels : (k : ℕ) (s : Survey) (vs : List (List ℕ)) (t : Survey) → survey l u k s (map form vs) ≡ done t → Labels s t vs
  survey_labels k s [] t e = record {
    new = [];
    joined = same_labels ∙ sym (append-nil s.labels);
    found = tt;
    distinct = λ d. subst (λ ls. Distinct (map (λ (l : Mark). l.name) ls)) (sym same_labels) d;
  }
    where
      same_labels : t.labels ≡ s.labels
      same_labels = let q : t ≡ s = cc in ap (λ (v : Survey). v.labels) q
  survey_labels k s (v ∷ vs) t e = go' (step l u s (form v)) refl (λ r. survey_labels (suc k) r vs t)
    where
      go' : (x : Step) → step l u s (form v) ≡ x → ((r : Survey) → survey l u (suc k) r (map form vs) ≡ done t → Labels r t vs) → Labels s t (v ∷ vs)
      go' (stop c) p ih = let z : fault k c ≡ done t = sym (rw (p, survey) refl) ∙ e in let y : ◌≡◌ {A = ℕ} 0 1 = cc in absurd (omega arith)
      go' (go r) p ih =
          let h = ih r (sym (rw (p, survey) refl) ∙ e) in
          let c = step_counts l u s (form v) r p in
          let a = step_adds l u s (form v) r p in
          record {
            new = a.new ++ h.new;
            joined = h.joined ∙ ap (λ ls. ls ++ h.new) a.joined ∙ append_assoc s.labels a.new h.new;
            found = each_append (Found s.tally (v ∷ vs)) a.new h.new (each_as (Given s.tally (form v)) (Found s.tally (v ∷ vs)) (found_here s.tally v vs) a.new a.given) (each_as (Found r.tally vs) (Found s.tally (v ∷ vs)) (found_later s.tally r.tally v vs c.at c.more) h.new h.found);
            distinct = λ d. h.distinct (a.distinct d);
          }

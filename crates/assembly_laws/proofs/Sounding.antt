-- Every program that two texts assemble to is sound.
use Rattle.std.proofs.Common.{◌≡◌, ℕ, suc, ◌+◌, ◌-◌, ◌^◌, ◌<◌, ◌≤◌, min, Bool, true, false, ◌&&◌, leb, List, [], ◌∷◌, ◌++◌, map, length, take, drop, replicate, ℤ, pos, Some, None, Option, Ok, Err, Result, sym, refl, ap, ◌∙◌, subst, append_assoc, arith, length-append}
use Rattle.std.proofs.lemmas.List.{append-nil, drop_at, length-map, map-append, take_at}
use Rattle.std.proofs.lemmas.Bool.{and_parts, leb-true, lt-ltb}
use Rattle.program.specs.declared.assembled.Assembled.{Assembled}
use Rattle.program.specs.declared.counts.Counts.{Counts}
use Rattle.program.specs.declared.fault.AssemblyCause.{AssemblyCause}
use Rattle.program.specs.declared.fault.AssemblyCause.TheVariants.{MemorySize, TextLength, ProgramSize, NoLabel}
use Rattle.program.specs.declared.fault.Fault.{Fault}
use Rattle.program.specs.declared.fault.Place.TheVariants.{Nowhere, Line}
use Rattle.program.specs.declared.fault.Text.TheVariants.{Site, Library}
use Rattle.program.specs.declared.section.Section.{Section}
use Rattle.program.specs.declared.section.Section.TheVariants.{Code, Data, Heap}
use Rattle.isa.specs.Code.{Divided}
use Rattle.syntax.specs.Cells.{cells}
use Rattle.syntax.specs.Forms.{Item, Form, form}
use Rattle.syntax.specs.Lines.{lines}
use Rattle.assembler.specs.declared.tally.Tally.{Tally}
use Rattle.assembler.specs.Assembly.{Assembly, program, unread, refusal, assembled, first, fitted, forms, linked, made, second, size}
use Rattle.assembler.specs.Cells.{all, base, both, cell, items_in, laid, unresolved, word}
use Rattle.assembler.specs.Handed.{Handed, Outcome}
use Rattle.assembler.specs.Marks.{Mark, mark_of, no_mark}
use Rattle.assembler.specs.Survey.{Survey, Surveyed, done, extent, fault, fresh, opened, survey, surveyed}
use Rattle.assembler.proofs.Passes.{texts_taken}
use Rattle.assembler.proofs.Sizes.{survey_counts}
use Rattle.assembly_laws.specs.Laws.{Distinct, Each, Sound, Stands, Upheld}
use Rattle.assembly_laws.proofs.Dividing.{Runs, runs_append, runs_divide, survey_runs}
use Rattle.assembly_laws.proofs.Placing.{Found, Labels, each_append, each_as, each_map, survey_labels}

-- items in the midst of others stand in memory at their place
stands_in : (ls : List Mark) (xs ys zs : List Item) (rest : List ℤ) (a : ℕ) → a ≡ length xs → take (length ys) (drop a (map (cell ls) (xs ++ (ys ++ zs)) ++ rest)) ≡ map (cell ls) ys
stands_in ls xs ys zs rest a e =
    let m = map (cell ls) in
    let s : m (xs ++ (ys ++ zs)) ++ rest ≡ m xs ++ (m ys ++ (m zs ++ rest)) =
    ap (λ vs. vs ++ rest) (map-append (cell ls) xs (ys ++ zs) ∙ ap (λ vs. m xs ++ vs) (map-append (cell ls) ys zs))
    ∙ append_assoc (m xs) (m ys ++ m zs) rest
    ∙ ap (λ vs. m xs ++ vs) (append_assoc (m ys) (m zs) rest) in
    ap (λ vs. take (length ys) (drop a vs)) s
    ∙ ap (take (length ys)) (drop_at (m xs) (m ys ++ (m zs ++ rest)) a (length-map xs (cell ls) ∙ sym e))
    ∙ take_at (m ys) (m zs ++ rest) (length ys) (length-map ys (cell ls))

regroup : (a b c d e : List Item) → a ++ ((b ++ (c ++ d)) ++ e) ≡ (a ++ b) ++ (c ++ (d ++ e))
regroup a b c d e =
    ap (λ vs. a ++ vs) (append_assoc b (c ++ d) e ∙ ap (λ vs. b ++ vs) (append_assoc c d e))
    ∙ sym (append_assoc a b (c ++ (d ++ e)))

word_small : (x : ℕ) → x < 2 ^ 32 → word x ≡ x
word_small x h = ap (λ b. elim b [ true ↦ x | false ↦ 0 ]) (lt-ltb x (2 ^ 32) h)

names_laid : (t : Tally) (ls : List Mark) → map (λ (l : Mark). l.name) (map (laid t) ls) ≡ map (λ (l : Mark). l.name) ls
names_laid t [] = refl
names_laid t (l ∷ ls) = ap (λ ws. l.name ∷ ws) (names_laid t ls)

-- the items of a line in its section of both texts, at the address of the line's label
record Within (site library : List Form) (f : Form) (m : Mark) : Type 0 where
  before : List Item
  after : List Item
  split : both m.section site library ≡ before ++ (cells f ++ after)
  at : m.address ≡ length before

-- a section in the midst of the others
record Spot (site library : List Form) (t : Tally) (q : Section) : Type 0 where
  before : List Item
  after : List Item
  split : all site library ≡ before ++ (both q site library ++ after)
  at : base t q ≡ length before

module _ (site library : List Form) (t : Tally) (sized : (q : Section) → extent t q ≡ length (both q site library)) where
  spot : (q : Section) → Spot site library t q
  spot Code = record { before = []; after = both Data site library ++ both Heap site library; split = refl; at = refl }
  spot Data = record { before = both Code site library; after = both Heap site library; split = refl; at = sized Code }
  spot Heap = record {
    before = both Code site library ++ both Data site library;
    after = [];
    split = sym (append_assoc (both Code site library) (both Data site library) (both Heap site library)) ∙ ap (λ vs. (both Code site library ++ both Data site library) ++ vs) (sym (append-nil (both Heap site library)));
    at =
        let a = length-append (both Code site library) (both Data site library) in
        let b = sized Code in
        let c = sized Data in
        omega arith;
  }

  all_long : length (all site library) ≡ size t
  all_long =
      let a = length-append (both Code site library) (both Data site library ++ both Heap site library) in
      let b = length-append (both Data site library) (both Heap site library) in
      let d = sized Code in
      let e = sized Data in
      let f = sized Heap in
      omega arith

  module _ (fits : size t ≤ 65536) (ls : List Mark) (rest : List ℤ) where
    laid_begins : (f : Form) (m : Mark) → Within site library f m → take (length (cells f)) (drop (laid t m).address (map (cell ls) (all site library) ++ rest)) ≡ map (cell ls) (cells f)
    laid_begins f m w =
        let p = spot m.section in
        let s : all site library ≡ (p.before ++ w.before) ++ (cells f ++ (w.after ++ p.after)) = p.split ∙ ap (λ vs. p.before ++ (vs ++ p.after)) w.split ∙ regroup p.before w.before (cells f) w.after p.after in
        let a = length-append p.before w.before in
        let b = length-append (p.before ++ w.before) (cells f ++ (w.after ++ p.after)) in
        let c : length (all site library) ≡ length ((p.before ++ w.before) ++ (cells f ++ (w.after ++ p.after))) = ap length s in
        let d = all_long in
        let g = p.at in
        let h = w.at in
        let k : base t m.section + m.address ≡ length (p.before ++ w.before) = omega arith in
        let r : base t m.section + m.address < 2 ^ 32 = omega arith in
        ap (λ vs. take (length (cells f)) (drop (laid t m).address (map (cell ls) vs ++ rest))) s
        ∙ stands_in ls (p.before ++ w.before) (cells f) (w.after ++ p.after) rest (laid t m).address (word_small (base t m.section + m.address) r ∙ k)

    code_divides : Runs (both Code site library) → Divided (take t.code (map (cell ls) (all site library) ++ rest))
    code_divides r =
        let c = both Code site library in
        let d = both Data site library ++ both Heap site library in
        let s : map (cell ls) (all site library) ++ rest ≡ map (cell ls) c ++ (map (cell ls) d ++ rest) = ap (λ vs. vs ++ rest) (map-append (cell ls) c d) ∙ append_assoc (map (cell ls) c) (map (cell ls) d) rest in
        subst Divided (sym (ap (take t.code) s ∙ take_at (map (cell ls) c) (map (cell ls) d ++ rest) t.code (length-map c (cell ls) ∙ sym (sized Code)))) (runs_divide ls c r)

fresh_extent : (q : Section) → extent fresh.tally q ≡ 0
fresh_extent Code = refl
fresh_extent Data = refl
fresh_extent Heap = refl

opened_extent : (t : Tally) (q : Section) → extent (opened t) q ≡ extent t q
opened_extent t Code = refl
opened_extent t Data = refl
opened_extent t Heap = refl

-- a line of the site text
within_site : (site library : List ℕ) (m : Mark) (g : Found fresh.tally (lines site) m) → Within (forms site) (forms library) (form g.line) m
within_site site library m g = record {
  before = g.before;
  after = g.after ++ items_in m.section Code (forms library);
  split =
      ap (λ vs. vs ++ items_in m.section Code (forms library)) g.split
      ∙ append_assoc g.before (cells (form g.line) ++ g.after) (items_in m.section Code (forms library))
      ∙ ap (λ vs. g.before ++ vs) (append_assoc (cells (form g.line)) g.after (items_in m.section Code (forms library)));
  at =
      let a = g.at in
      let b = fresh_extent m.section in
      omega arith;
}

-- a line of the library text
within_library : (site library : List ℕ) (s : Tally) → ((q : Section) → extent s q ≡ length (items_in q Code (forms site))) → (m : Mark) (g : Found (opened s) (lines library) m) → Within (forms site) (forms library) (form g.line) m
within_library site library s h m g = record {
  before = items_in m.section Code (forms site) ++ g.before;
  after = g.after;
  split =
      ap (λ vs. items_in m.section Code (forms site) ++ vs) g.split
      ∙ sym (append_assoc (items_in m.section Code (forms site)) g.before (cells (form g.line) ++ g.after));
  at =
      let a = g.at in
      let b = opened_extent s m.section in
      let c = h m.section in
      let d = length-append (items_in m.section Code (forms site)) g.before in
      omega arith;
}

-- a program is sound, and its labels are counted
abbrev pub Good : List ℕ → List ℕ → Assembly → Type 0
Good site library (program p) = Sound site library p.counts p.cells p.labels × (p.counts.labels ≡ length p.labels)
Good site library (unread c at) = Unit {0}
Good site library (refusal c at) = Unit {0}

module _ (site library : List ℕ) (n l u : ℕ) (most : n ≤ 65536) where
  module _ (s t : Survey) (e : survey l u 1 fresh (forms site) ≡ done s) (f : survey l u 1 (surveyed (opened s.tally) s.labels s.units) (forms library) ≡ done t) where
    sizes : (q : Section) → extent t.tally q ≡ length (both q (forms site) (forms library))
    sizes = (texts_taken (forms site) (forms library) l u s t e f).1

    site_sizes : (q : Section) → extent s.tally q ≡ length (items_in q Code (forms site))
    site_sizes q =
        let a = survey_counts l u 1 fresh (forms site) s e q in
        let b = fresh_extent q in
        omega arith

    first_labels : Labels fresh s (lines site)
    first_labels = survey_labels l u 1 fresh (lines site) s e

    more_labels : Labels (surveyed (opened s.tally) s.labels s.units) t (lines library)
    more_labels = survey_labels l u 1 (surveyed (opened s.tally) s.labels s.units) (lines library) t f

    code_runs : Runs (both Code (forms site) (forms library))
    code_runs = runs_append (items_in Code Code (forms site)) (items_in Code Code (forms library)) (survey_runs l u 1 fresh (lines site) s e) (survey_runs l u 1 (surveyed (opened s.tally) s.labels s.units) (lines library) t f)

    module _ (fits : size t.tally ≤ n) (ls : List Mark) (rest : List ℤ) where
      abbrev Placed : Mark → Type 0
      Placed m = Stands site library (map (cell ls) (all (forms site) (forms library)) ++ rest) ls (laid t.tally m)

      from_site : (m : Mark) → Found fresh.tally (lines site) m → Placed m
      from_site m g = record {
        text = Site;
        number = suc g.number;
        line = g.line;
        there = g.there;
        gives = g.gives;
        begins = laid_begins (forms site) (forms library) t.tally sizes (omega arith) ls rest (form g.line) m (within_site site library m g);
      }

      from_library : (m : Mark) → Found (opened s.tally) (lines library) m → Placed m
      from_library m g = record {
        text = Library;
        number = suc g.number;
        line = g.line;
        there = g.there;
        gives = g.gives;
        begins = laid_begins (forms site) (forms library) t.tally sizes (omega arith) ls rest (form g.line) m (within_library site library s.tally site_sizes m g);
      }

      each_placed : Each Placed t.labels
      each_placed =
          subst (Each Placed) (sym (more_labels.joined ∙ ap (λ vs. vs ++ more_labels.new) first_labels.joined))
          (each_append Placed first_labels.new more_labels.new (each_as (Found fresh.tally (lines site)) Placed from_site first_labels.new first_labels.found) (each_as (Found (opened s.tally) (lines library)) Placed from_library more_labels.new more_labels.found))

    good_made : size t.tally ≤ n → Good site library (made n (forms site) (forms library) t (map (laid t.tally) t.labels))
    good_made fits =
        let ls = map (laid t.tally) t.labels in
        let rest = replicate (n - size t.tally) (pos 0) in (
          record {
            divides = code_divides (forms site) (forms library) t.tally sizes (omega arith) ls rest code_runs;
            stand = each_map (Placed fits ls rest) (Stands site library (map (cell ls) (all (forms site) (forms library)) ++ rest) ls) (laid t.tally) (λ m h. h) t.labels (each_placed fits ls rest);
            distinct = subst Distinct (sym (names_laid t.tally t.labels)) (more_labels.distinct (first_labels.distinct tt));
          },
          sym (length-map t.labels (laid t.tally)),
        )

module _ (site library : List ℕ) where
  good_if : (b : Bool) (x y : Assembly) → (b ≡ true → Good site library x) → Good site library y → Good site library (elim b [ true ↦ x | false ↦ y ])
  good_if true x y f g = f refl
  good_if false x y f g = g

  good_read : (b : Bool) (x y : Assembly) → (b ≡ true → Good site library x) → Good site library y → Good site library (elim b [ false ↦ y | true ↦ x ])
  good_read true x y f g = f refl
  good_read false x y f g = g

  good_found : (k : Option ℕ) (r : ℕ → Assembly) (x : Assembly) → ((j : ℕ) → Good site library (r j)) → Good site library x → Good site library (elim k [ Some j ↦ r j | None ↦ x ])
  good_found None r x f g = g
  good_found (Some j) r x f g = f j

  good_surveyed : (v x : Surveyed) (on : Survey → Assembly) (bad : ℕ → AssemblyCause → Assembly) → v ≡ x → ((s : Survey) → v ≡ done s → Good site library (on s)) → ((k : ℕ) (c : AssemblyCause) → Good site library (bad k c)) → Good site library (elim x [ done s ↦ on s | fault k c ↦ bad k c ])
  good_surveyed v (done s) on bad e f g = f s e
  good_surveyed v (fault k c) on bad e f g = g k c

  good_linked : (n : ℕ) (s : Survey) (ls : List Mark) → Good site library (made n (forms site) (forms library) s ls) → Good site library (linked n (forms site) (forms library) s ls)
  good_linked n s ls g =
      good_found (unresolved ls 1 (forms site)) (λ k. refusal NoLabel (Line Site k)) (elim (unresolved ls 1 (forms library)) [ Some k ↦ refusal NoLabel (Line Library k) | None ↦ made n (forms site) (forms library) s ls ]) (λ j. tt)
      (good_found (unresolved ls 1 (forms library)) (λ k. refusal NoLabel (Line Library k)) (made n (forms site) (forms library) s ls) (λ j. tt) g)

  good_fitted : (n : ℕ) (t : Survey) → (size t.tally ≤ n → Good site library (made n (forms site) (forms library) t (map (laid t.tally) t.labels))) → Good site library (fitted n (forms site) (forms library) t)
  good_fitted n t g =
      let ls = map (laid t.tally) t.labels in
      good_if (leb (size t.tally) n) (linked n (forms site) (forms library) t ls) (refusal ProgramSize (Line Site 0)) (λ e. good_linked n t ls (g (leb-true (size t.tally) n e))) tt

  good_first : (n l u : ℕ) → n ≤ 65536 → Good site library (first n (forms site) (forms library) l u)
  good_first n l u most =
      good_surveyed (survey l u 1 fresh (forms site)) (survey l u 1 fresh (forms site)) (second n (forms site) (forms library) l u) (λ k c. refusal c (Line Site k)) refl
      (λ s e.
      let v = survey l u 1 (surveyed (opened s.tally) s.labels s.units) (forms library) in
      good_surveyed v v (fitted n (forms site) (forms library)) (λ k c. refusal c (Line Library k)) refl (λ t f. good_fitted n t (good_made site library n l u most s t e f)) (λ k c. tt))
      (λ k c. tt)

  pub good_assembled : (n l u : ℕ) → Good site library (assembled site library n l u)
  good_assembled n l u =
      let x : Assembly = first n (forms site) (forms library) (min l 512) (min u 64) in
      let y : Assembly = elim (leb (length library) 65536) [ false ↦ unread TextLength (Line Library 0) | true ↦ x ] in
      let z : Assembly = elim (leb (length site) 65536) [ false ↦ unread TextLength (Line Site 0) | true ↦ y ] in
      good_read (leb 16 n && leb n 65536) z (unread MemorySize Nowhere) (λ e.
      good_read (leb (length site) 65536) y (unread TextLength (Line Site 0)) (λ a.
      good_read (leb (length library) 65536) x (unread TextLength (Line Library 0)) (λ b.
      good_first n (min l 512) (min u 64) (leb-true n 65536 (and_parts (leb 16 n) (leb n 65536) e).1)) tt) tt) tt

-- what assemble leaves of a sound program
pub upheld : (site library : List ℕ) (r : Result Assembled Fault) (x : Assembly) (before after : Handed) → Good site library x → Outcome r x before after → Upheld site library r after
upheld site library (Ok a) (program p) before after g o =
    let h = o.1 in
    let c : p.counts ≡ a.counts = sym o.0 in
    let e : p.labels ≡ take a.counts.labels (map mark_of after.labels) =
    sym (
    ap (λ (v : Counts). take v.labels (map mark_of after.labels)) o.0
    ∙ ap (take p.counts.labels) h.labels
    ∙ take_at p.labels (replicate (length before.labels - length p.labels) no_mark) p.counts.labels (sym g.1)
    ) in
    subst (λ ls. Sound site library a.counts after.memory ls) e
    (subst (λ m. Sound site library a.counts m p.labels) (sym h.memory) (subst (λ v. Sound site library v p.cells p.labels) c g.0))
upheld site library (Ok a) (unread c at) before after g o = absurd o
upheld site library (Ok a) (refusal c at) before after g o = absurd o
upheld site library (Err f) x before after g o = tt

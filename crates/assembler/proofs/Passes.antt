-- Both texts surveyed, one after the other.
use Rattle.std.proofs.Common.{◌≡◌, ℕ, ◌-◌, ◌≤◌, List, [], ◌++◌, map, length, take, replicate, ℤ, pos, Ok, Err, IsErrAnd, Result, MatchResult, sym, refl, ap, ◌∙◌, subst, arith, length-append}
use Rattle.std.proofs.lemmas.List.{length-map, take_all}
use Rattle.std.proofs.lemmas.Bool.{le-leb}
use Rattle.program.specs.declared.assembled.Assembled.{Assembled}
use Rattle.program.specs.declared.counts.Counts.{Counts}
use Rattle.program.specs.declared.fault.Fault.{Fault}
use Rattle.program.specs.declared.fault.Fault.TheVariants as G
use Rattle.program.specs.declared.fault.Place.TheVariants.{Line}
use Rattle.program.specs.declared.fault.Text.TheVariants.{Site, Library}
use Rattle.slots.specs.Items.{items, room}
use Rattle.slots.specs.declared.list.SlotList.{SlotList}
use Rattle.program.specs.declared.section.Section.{Section}
use Rattle.program.specs.declared.section.Section.TheVariants.{Code, Data, Heap}
use Rattle.syntax.specs.Forms.{Form}
use Rattle.assembler.specs.declared.lists.Lists.{Lists}
use Rattle.assembler.specs.declared.tally.LineCause.{LineCause}
use Rattle.assembler.specs.declared.tally.Tally.{Tally}
use Rattle.assembler.specs.Assembly.{Assembly, first, second, fitted, linked, made, size}
use Rattle.assembler.specs.Builds.{Builds, Made, Refuses, Surveys, Tallied}
use Rattle.assembler.specs.Cells.{all, both, cell, items_in, laid, opening}
use Rattle.assembler.specs.Marks.{Mark, Entry}
use Rattle.assembler.specs.Progress.{Bounded, KeptBoth, Puts, Small, entries, marks, survey_of, surveyed_to}
use Rattle.assembler.specs.Survey.{Survey, Surveyed, done, extent, fault, fresh, opened, survey, surveyed}
use Rattle.assembler.proofs.Sizes.{survey_counts}

module _ (n : ℕ) (site library : List Form) (l u : ℕ) where
  first_done : (s : Survey) → survey l u 1 fresh site ≡ done s → first n site library l u ≡ second n site library l u s
  first_done s e = rw (e, first) refl

  second_done : (s t : Survey) → survey l u 1 (surveyed (opened s.tally) s.labels s.units) library ≡ done t → second n site library l u s ≡ fitted n site library t
  second_done s t e = rw (e, second) refl

opened_extent : (t : Tally) (q : Section) → extent (opened t) q ≡ extent t q
opened_extent t Code = refl
opened_extent t Data = refl
opened_extent t Heap = refl

fresh_extent : (q : Section) → extent fresh.tally q ≡ 0
fresh_extent Code = refl
fresh_extent Data = refl
fresh_extent Heap = refl

module _ (site library : List Form) (l u : ℕ) (s t : Survey) (e : survey l u 1 fresh site ≡ done s) (f : survey l u 1 (surveyed (opened s.tally) s.labels s.units) library ≡ done t) where
  counted : (q : Section) → extent t.tally q ≡ length (both q site library)
  counted q =
      let a = survey_counts l u 1 fresh site s e q in
      let b = survey_counts l u 1 (surveyed (opened s.tally) s.labels s.units) library t f q in
      let c = opened_extent s.tally q in
      let d = fresh_extent q in
      let g = length-append (items_in q Code site) (items_in q Code library) in
      omega arith

  pub texts_taken : ((n : ℕ) → first n site library l u ≡ fitted n site library t) × ((q : Section) → extent t.tally q ≡ length (both q site library))
  texts_taken = (λ n. first_done n site library l u s e ∙ second_done n site library l u s t f, counted)

-- the site's lines are refused
pub refused_first : (site library : List Form) (a b : Lists) (r : Result Tally LineCause) (e : LineCause) (f : Fault) → marks a.labels.now ≡ [] → entries a.units.now ≡ [] → surveyed_to r b ≡ survey (room a.labels.now) (room a.units.now) 1 (survey_of fresh.tally a) site
    → r ≡ Err e → f ≡ G.Assembly e.cause (Line Site e.line) → (n : ℕ) → Refuses f (first n site library (room a.labels.now) (room a.units.now))
refused_first site library a b r e f ls us p q k n =
    let s : survey (room a.labels.now) (room a.units.now) 1 fresh site ≡ fault e.line e.cause = sym (sym (ap (λ v. surveyed_to v b) q) ∙ p ∙ ap (λ m. survey (room a.labels.now) (room a.units.now) 1 (surveyed fresh.tally m (entries a.units.now)) site) ls ∙ ap (λ v. survey (room a.labels.now) (room a.units.now) 1 (surveyed fresh.tally [] v) site) us) in
    rw (k, first, s) refl

-- the library's lines, after the site's
module _ (site library : List Form) (a b d : Lists) (t : Tally) (ls : marks a.labels.now ≡ []) (us : entries a.units.now ≡ []) (p : done (survey_of t b) ≡ survey (room a.labels.now) (room a.units.now) 1 (survey_of fresh.tally a) site) (kept : KeptBoth a b) (small : Small t 65536000) where
  site_taken : survey (room a.labels.now) (room a.units.now) 1 fresh site ≡ done (survey_of t b)
  site_taken = sym (p ∙ ap (λ m. survey (room a.labels.now) (room a.units.now) 1 (surveyed fresh.tally m (entries a.units.now)) site) ls ∙ ap (λ v. survey (room a.labels.now) (room a.units.now) 1 (surveyed fresh.tally [] v) site) us)

  same_rooms : (x : Surveyed) → x ≡ survey (room b.labels.now) (room b.units.now) 1 (survey_of (opened t) b) library → survey (room a.labels.now) (room a.units.now) 1 (survey_of (opened t) b) library ≡ x
  same_rooms x q = sym (q ∙ ap (λ k. survey k (room b.units.now) 1 (survey_of (opened t) b) library) kept.labels.room ∙ ap (λ k. survey (room a.labels.now) k 1 (survey_of (opened t) b) library) kept.units.room)

  pub passes : (r : Result Tally LineCause) (s : Result Tally Fault) (P : LineCause → Fault → Type 0) (v : Tally) → v ≡ opened t
      → surveyed_to r d ≡ survey (room b.labels.now) (room b.units.now) 1 (survey_of v b) library → Bounded v r
      → MatchResult r (λ x. s ≡ Ok x) (λ e. IsErrAnd s (P e)) → ((e : LineCause) (f : Fault) → P e f → f ≡ G.Assembly e.cause (Line Library e.line))
      → Surveys site library (room a.labels.now) (room a.units.now) s (marks d.labels.now) (entries d.units.now) × Tallied s
  passes (Ok x) s P v o q g m k =
      let h = g 65536000 (subst (λ w. Small w 65536000) (sym o) small) in
      let e = same_rooms (done (survey_of x d)) (q ∙ ap (λ w. survey (room b.labels.now) (room b.units.now) 1 (survey_of w b) library) o) in
      subst (λ z. Surveys site library (room a.labels.now) (room a.units.now) z (marks d.labels.now) (entries d.units.now) × Tallied z) (sym m)
      (texts_taken site library (room a.labels.now) (room a.units.now) (survey_of t b) (survey_of x d) site_taken e, (omega arith, omega arith, omega arith))
  passes (Err c) (Ok x) P v o q g m k = absurd m
  passes (Err c) (Err f) P v o q g m k =
      let e = same_rooms (fault c.line c.cause) (q ∙ ap (λ w. survey (room b.labels.now) (room b.units.now) 1 (survey_of w b) library) o) in
      (λ n. rw (k c f m, first, site_taken, second, e) refl, tt)

-- all cells of a program are written, in a memory that has room for them
module _ (n : ℕ) (site library : List Form) (t : Tally) (ls : List Mark) (sized : (q : Section) → extent t q ≡ length (both q site library)) (fits : size t ≤ n) where
  cells_long : length (map (cell ls) (all site library)) ≡ size t
  cells_long =
      let a = length-map (all site library) (cell ls) in
      let b = length-append (both Code site library) (both Data site library ++ both Heap site library) in
      let c = length-append (both Data site library) (both Heap site library) in
      let d = sized Code in
      let e = sized Data in
      let f = sized Heap in
      omega arith

  all_written : (v w : SlotList ℤ) → Puts v w (map (cell ls) (all site library)) → items v ≡ [] → room v ≡ n → items w ≡ map (cell ls) (all site library)
  all_written v w p e f =
      p.cells
      ∙ ap (λ is. take (room v) (is ++ map (cell ls) (all site library))) e
      ∙ take_all (room v) (map (cell ls) (all site library)) (let l = cells_long in omega arith)

  pub padded_cells : (v w : SlotList ℤ) → Puts v w (map (cell ls) (all site library)) → items v ≡ [] → room v ≡ n
      → map (cell ls) (all site library) ++ replicate (n - size t) (pos 0) ≡ items w ++ replicate (n - length (items w)) (pos 0)
  padded_cells v w p e f =
      let i = all_written v w p e f in
      ap (λ k. map (cell ls) (all site library) ++ replicate (n - k) (pos 0)) (sym (ap length i ∙ cells_long))
      ∙ ap (λ is. is ++ replicate (n - length (items w)) (pos 0)) (sym i)

-- what linked lines come to
fitted_made : (n : ℕ) (site library : List Form) (t : Tally) (m ls : List Mark) (e : List Entry) → size t ≤ n → ls ≡ map (laid t) m → linked n site library (surveyed t m e) ls ≡ made n site library (surveyed t m e) ls
    → fitted n site library (surveyed t m e) ≡ made n site library (surveyed t m e) ls
fitted_made n site library t m ls e h f k =
    rw (le-leb (size t) n h, fitted) (ap (linked n site library (surveyed t m e)) (sym f) ∙ k)

pub built : (n : ℕ) (site library : List Form) (t : Tally) (m ls : List Mark) (e us : List Entry) (counts : Counts) (v w : SlotList ℤ) (r : Result Assembled Fault)
    → Made r counts
    → counts ≡ record { cells = n; code = t.code; «data» = t.«data»; heap = t.heap; labels = length m; units = length e }
    → size t ≤ n → ((q : Section) → extent t q ≡ length (both q site library))
    → ls ≡ map (laid t) m → linked n site library (surveyed t m e) ls ≡ made n site library (surveyed t m e) ls
    → Puts v w (map (cell ls) (all site library)) → items v ≡ [] → room v ≡ n
    → us ≡ map (opening ls) e
    → Builds n r (fitted n site library (surveyed t m e)) (items w) ls us
built n site library t m ls e us counts v w (Ok a) g h fits sized laid-is links p none whole opens =
    subst (λ (x : Assembly). Builds n (Ok a) x (items w) ls us) (sym (fitted_made n site library t m ls e fits laid-is links))
    (g ∙ h, padded_cells n site library t ls sized fits v w p none whole, refl, opens)
built n site library t m ls e us counts v w (Err f) g h fits sized laid-is links p none whole opens = absurd g

pub counts_same : (n c d h a b m k : ℕ) → a ≡ m → b ≡ k → ◌≡◌ {A = Counts} (record { cells = n; code = c; «data» = d; heap = h; labels = a; units = b }) (record { cells = n; code = c; «data» = d; heap = h; labels = m; units = k })
counts_same n c d h a b m k p q = cc

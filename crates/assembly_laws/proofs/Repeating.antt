-- The same texts twice.
use Rattle.std.proofs.Common.{◌≡◌, ℕ, ◌-◌, ◌≤◌, min, Bool, true, false, leb, List, ◌++◌, map, length, replicate, pos, Some, None, Option, Ok, Err, Result, sym, refl, ap, ◌∙◌, subst}
use Rattle.std.proofs.lemmas.Bool.{and_from, le-leb}
use Rattle.program.specs.declared.assembled.Assembled.{Assembled}
use Rattle.program.specs.declared.fault.AssemblyCause.{AssemblyCause}
use Rattle.program.specs.declared.fault.AssemblyCause.TheVariants.{NoLabel, ProgramSize}
use Rattle.program.specs.declared.fault.Fault.{Fault}
use Rattle.program.specs.declared.fault.Place.TheVariants.{Line}
use Rattle.program.specs.declared.fault.Text.TheVariants.{Site, Library}
use Rattle.assembler.specs.Assembly.{Assembly, program, unread, refusal, assembled, first, fitted, forms, linked, made, second, size}
use Rattle.assembler.specs.Cells.{laid, unresolved}
use Rattle.assembler.specs.Handed.{Handed, Outcome}
use Rattle.assembler.specs.Marks.{Mark, no_mark, no_entry}
use Rattle.assembler.specs.Survey.{Survey, Surveyed, done, fault, fresh, opened, survey, surveyed}
use Rattle.assembly_laws.specs.Twice.{Alike, Readable, Repeats, Same, said}

-- the texts were read
abbrev Read : Assembly → Type 0
Read (program p) = Unit {0}
Read (unread c at) = ⊥
Read (refusal c at) = Unit {0}

read_if : (b : Bool) (x y : Assembly) → Read x → Read y → Read (elim b [ true ↦ x | false ↦ y ])
read_if true x y f g = f
read_if false x y f g = g

read_found : (k : Option ℕ) (r : ℕ → Assembly) (x : Assembly) → ((j : ℕ) → Read (r j)) → Read x → Read (elim k [ Some j ↦ r j | None ↦ x ])
read_found None r x f g = g
read_found (Some j) r x f g = f j

read_surveyed : (x : Surveyed) (on : Survey → Assembly) (bad : ℕ → AssemblyCause → Assembly) → ((s : Survey) → Read (on s)) → ((k : ℕ) (c : AssemblyCause) → Read (bad k c)) → Read (elim x [ done s ↦ on s | fault k c ↦ bad k c ])
read_surveyed (done s) on bad f g = f s
read_surveyed (fault k c) on bad f g = g k c

module _ (site library : List ℕ) (n : ℕ) where
  read_linked : (s : Survey) (ls : List Mark) → Read (linked n (forms site) (forms library) s ls)
  read_linked s ls =
      read_found (unresolved ls 1 (forms site)) (λ k. refusal NoLabel (Line Site k)) (elim (unresolved ls 1 (forms library)) [ Some k ↦ refusal NoLabel (Line Library k) | None ↦ made n (forms site) (forms library) s ls ]) (λ j. tt)
      (read_found (unresolved ls 1 (forms library)) (λ k. refusal NoLabel (Line Library k)) (made n (forms site) (forms library) s ls) (λ j. tt) tt)

  read_fitted : (t : Survey) → Read (fitted n (forms site) (forms library) t)
  read_fitted t = read_if (leb (size t.tally) n) (linked n (forms site) (forms library) t (map (laid t.tally) t.labels)) (refusal ProgramSize (Line Site 0)) (read_linked t (map (laid t.tally) t.labels)) tt

  read_first : (l u : ℕ) → Read (first n (forms site) (forms library) l u)
  read_first l u =
      read_surveyed (survey l u 1 fresh (forms site)) (second n (forms site) (forms library) l u) (λ k c. refusal c (Line Site k))
      (λ s. read_surveyed (survey l u 1 (surveyed (opened s.tally) s.labels s.units) (forms library)) (fitted n (forms site) (forms library)) (λ k c. refusal c (Line Library k)) read_fitted (λ k c. tt))
      (λ k c. tt)

  read_assembled : (l u : ℕ) → 16 ≤ n → n ≤ 65536 → length site ≤ 65536 → length library ≤ 65536 → assembled site library n l u ≡ first n (forms site) (forms library) (min l 512) (min u 64)
  read_assembled l u a b c d = rw (and_from (leb 16 n) (leb n 65536) (le-leb 16 n a) (le-leb n 65536 b), le-leb (length site) 65536 c, le-leb (length library) 65536 d, assembled) refl

pub read : (site library : List ℕ) (h : Handed) → Readable site library h → Read (assembled site library (length h.memory) (length h.labels) (length h.units))
read site library h r =
    subst Read (sym (read_assembled site library (length h.memory) (length h.labels) (length h.units) r.least r.most r.sited r.shelved))
    (read_first site library (length h.memory) (min (length h.labels) 512) (min (length h.units) 64))

module _ (before after before' after' : Handed) (alike : Alike before before') where
  -- equal answers
  says : (x : Assembly) (r q : Result Assembled Fault) → Outcome r x before after → Outcome q x before' after' → said r ≡ said q
  says (program p) (Ok a) (Ok b) o v = ap Ok (o.0 ∙ sym v.0)
  says (program p) (Ok a) (Err f) o v = absurd v
  says (program p) (Err f) q o v = absurd o
  says (unread c at) (Ok a) q o v = absurd o
  says (unread c at) (Err f) (Ok b) o v = absurd v
  says (unread c at) (Err f) (Err g) o v = ap Err (o.0 ∙ sym v.0)
  says (refusal c at) (Ok a) q o v = absurd o
  says (refusal c at) (Err f) (Ok b) o v = absurd v
  says (refusal c at) (Err f) (Err g) o v = ap Err (o.0 ∙ sym v.0)

  -- equal cells and slots
  leaves : (x : Assembly) (r q : Result Assembled Fault) → Read x → Outcome r x before after → Outcome q x before' after' → Same after after'
  leaves (program p) (Ok a) (Ok b) d o v = record {
    memory = o.1.memory ∙ sym v.1.memory;
    labels = o.1.labels ∙ ap (λ k. p.labels ++ replicate (k - length p.labels) no_mark) alike.labels ∙ sym v.1.labels;
    units = o.1.units ∙ ap (λ k. p.units ++ replicate (k - length p.units) no_entry) alike.units ∙ sym v.1.units;
  }
  leaves (program p) (Ok a) (Err f) d o v = absurd v
  leaves (program p) (Err f) q d o v = absurd o
  leaves (unread c at) r q d o v = absurd d
  leaves (refusal c at) (Ok a) q d o v = absurd o
  leaves (refusal c at) (Err f) (Ok b) d o v = absurd v
  leaves (refusal c at) (Err f) (Err g) d o v = record {
    memory = o.1.memory ∙ ap (λ k. replicate k (pos 0)) alike.memory ∙ sym v.1.memory;
    labels = o.1.labels ∙ ap (λ k. replicate k no_mark) alike.labels ∙ sym v.1.labels;
    units = o.1.units ∙ ap (λ k. replicate k no_entry) alike.units ∙ sym v.1.units;
  }

-- handed memories and slots that are alike get the same assembly
assembled_alike : (site library : List ℕ) (a b : Handed) → Alike a b → assembled site library (length b.memory) (length b.labels) (length b.units) ≡ assembled site library (length a.memory) (length a.labels) (length a.units)
assembled_alike site library a b e =
    ap (λ n. assembled site library n (length b.labels) (length b.units)) (sym e.memory)
    ∙ ap (λ l. assembled site library (length a.memory) l (length b.units)) (sym e.labels)
    ∙ ap (λ u. assembled site library (length a.memory) (length a.labels) u) (sym e.units)

pub repeats : (site library : List ℕ) (r q : Result Assembled Fault) (before after before' after' : Handed)
    → Outcome r (assembled site library (length before.memory) (length before.labels) (length before.units)) before after
    → Outcome q (assembled site library (length before'.memory) (length before'.labels) (length before'.units)) before' after'
    → Repeats site library r q before after before' after'
repeats site library r q before after before' after' o v e =
    let x = assembled site library (length before.memory) (length before.labels) (length before.units) in
    let w : Outcome q x before' after' = subst (λ y. Outcome q y before' after') (assembled_alike site library before before' e) v in
    (says before after before' after' e x r q o w, λ d. leaves before after before' after' e x r q (read site library before d) o w)

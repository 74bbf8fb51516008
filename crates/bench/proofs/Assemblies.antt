-- What the bench makes of an assembly.
use Rattle.std.proofs.Common.{◌≡◌, ℕ, Bool, true, false, ◌&&◌, leb, List, [], length, Some, None, Option, Ok, Err, refl, ap, ◌∙◌}
use Rattle.program.specs.Faults as F
use Rattle.program.specs.declared.counts.Counts.{Counts}
use Rattle.program.specs.declared.assembled.Assembled.{Assembled}
use Rattle.program.specs.declared.fault.Fault.{Fault}
use Rattle.port.specs.declared.reading.Reading.{Reading}
use Rattle.syntax.specs.Forms.{Form}
use Rattle.assembler.specs.Assembly.{Assembly, program, unread, refusal, size, forms, linked, fitted, second, first, assembled}
use Rattle.assembler.specs.Cells.{unresolved}
use Rattle.assembler.specs.Handed.{Handed, Outcome}
use Rattle.assembler.specs.Marks.{Mark}
use Rattle.assembler.specs.Survey.{Survey, Surveyed, done, fault, survey, surveyed, opened, fresh}
use Rattle.bench.specs.Bench.{report_of, bench_report}
use Rattle.bench.specs.Input.{site_of, readings_of}
use Rattle.bench.specs.Output.{refused_report}
use Rattle.bench.specs.Trial.{trial, offered}

-- a program has as many cells as the memory
abbrev pub Sized : ℕ → Assembly → Type 0
Sized n (program p) = p.counts.cells ≡ n
Sized n (unread c at) = Unit {0}
Sized n (refusal c at) = Unit {0}

module _ (n : ℕ) (site library : List Form) where
  sized_linked : (s : Survey) (ls : List Mark) → Sized n (linked n site library s ls)
  sized_linked s ls = go (unresolved ls 1 site) refl
    where
      rest : (k : Option ℕ) → unresolved ls 1 site ≡ None → unresolved ls 1 library ≡ k → Sized n (linked n site library s ls)
      rest None e f = rw (e, f, linked) refl
      rest (Some k) e f = rw (e, f, linked) tt

      go : (k : Option ℕ) → unresolved ls 1 site ≡ k → Sized n (linked n site library s ls)
      go None e = rest (unresolved ls 1 library) e refl
      go (Some k) e = rw (e, linked) tt

  sized_fitted : (s : Survey) → Sized n (fitted n site library s)
  sized_fitted s = go (leb (size s.tally) n) refl
    where
      go : (b : Bool) → leb (size s.tally) n ≡ b → Sized n (fitted n site library s)
      go true e = rw (e, fitted) (sized_linked s _)
      go false e = rw (e, fitted) tt

  module _ (label_room unit_room : ℕ) where
    sized_second : (s : Survey) → Sized n (second n site library label_room unit_room s)
    sized_second s = go (survey label_room unit_room 1 (surveyed (opened s.tally) s.labels s.units) library) refl
      where
        go : (t : Surveyed) → survey label_room unit_room 1 (surveyed (opened s.tally) s.labels s.units) library ≡ t → Sized n (second n site library label_room unit_room s)
        go (done t) e = rw (e, second) (sized_fitted t)
        go (fault k c) e = rw (e, second) tt

    sized_first : Sized n (first n site library label_room unit_room)
    sized_first = go (survey label_room unit_room 1 fresh site) refl
      where
        go : (t : Surveyed) → survey label_room unit_room 1 fresh site ≡ t → Sized n (first n site library label_room unit_room)
        go (done t) e = rw (e, first) (sized_second t)
        go (fault k c) e = rw (e, first) tt

pub sized : (site library : List ℕ) (n labels units : ℕ) → Sized n (assembled site library n labels units)
sized site library n labels units = memory (leb 16 n && leb n 65536) refl
  where
    texts : (b : Bool) → (leb 16 n && leb n 65536) ≡ true → leb (length site) 65536 ≡ true → leb (length library) 65536 ≡ b → Sized n (assembled site library n labels units)
    texts true e f g = rw (e, f, g, assembled) (sized_first n (forms site) (forms library) _ _)
    texts false e f g = rw (e, f, g, assembled) tt

    text : (b : Bool) → (leb 16 n && leb n 65536) ≡ true → leb (length site) 65536 ≡ b → Sized n (assembled site library n labels units)
    text true e f = texts (leb (length library) 65536) e f refl
    text false e f = rw (e, f, assembled) tt

    memory : (b : Bool) → (leb 16 n && leb n 65536) ≡ b → Sized n (assembled site library n labels units)
    memory true e = text (leb (length site) 65536) e refl
    memory false e = rw (e, assembled) tt

-- the sizes of the bench
pub same_assembly : (site site' : List ℕ) (n labels units : ℕ) → site ≡ site' → n ≡ 1024 → labels ≡ 512 → units ≡ 64 → assembled site [] n labels units ≡ assembled site' [] 1024 512 64
same_assembly site site' n labels units s a b c =
    ap (λ x. assembled x [] n labels units) s
    ∙ ap (λ x. assembled site' [] x labels units) a
    ∙ ap (λ x. assembled site' [] 1024 x units) b
    ∙ ap (λ x. assembled site' [] 1024 512 x) c

-- the cells of a program that was assembled
pub cells_is : (A : Assembly) (before after : Handed) (n : ℕ) (a : Assembled) → Outcome (Ok a) A before after → Sized n A → a.counts.cells ≡ n
cells_is (program p) before after n a o s = ap (λ (c : Counts). c.cells) o.0 ∙ s
cells_is (unread c at) before after n a o s = absurd o
cells_is (refusal c at) before after n a o s = absurd o

-- the report of a program that was assembled, and of a refused one
pub report_ok : (A : Assembly) (before after : Handed) (xs : List Reading) (a : Assembled) → Outcome (Ok a) A before after → trial a.counts after.memory (offered xs) ≡ report_of A xs
report_ok (program p) before after xs a o =
    ap (λ c. trial c after.memory (offered xs)) o.0 ∙ ap (λ m. trial p.counts m (offered xs)) o.1.memory
report_ok (unread c at) before after xs a o = absurd o
report_ok (refusal c at) before after xs a o = absurd o

pub report_err : (A : Assembly) (before after : Handed) (xs : List Reading) (f : Fault) → Outcome (Err f) A before after → refused_report (F.refusal f) ≡ report_of A xs
report_err (program p) before after xs f o = absurd o
report_err (unread c at) before after xs f o = ap refused_report o.0
report_err (refusal c at) before after xs f o = ap refused_report o.0

-- the same of the bench's input
module _ (input site : List ℕ) (n labels units : ℕ) (before after : Handed) (s : site ≡ site_of input) (ns : n ≡ 1024) (ls : labels ≡ 512) (us : units ≡ 64) where
  same : assembled site [] n labels units ≡ assembled (site_of input) [] 1024 512 64
  same = same_assembly site (site_of input) n labels units s ns ls us

  pub bench_ok : (xs : List Reading) (a : Assembled) → xs ≡ readings_of input → Outcome (Ok a) (assembled site [] n labels units) before after → trial a.counts after.memory (offered xs) ≡ bench_report input
  bench_ok xs a e o = report_ok _ before after xs a o ∙ ap (λ ys. report_of (assembled site [] n labels units) ys) e ∙ ap (λ A. report_of A (readings_of input)) same

  pub bench_err : (f : Fault) → Outcome (Err f) (assembled site [] n labels units) before after → refused_report (F.refusal f) ≡ bench_report input
  bench_err f o = report_err _ before after (readings_of input) f o ∙ ap (λ A. report_of A (readings_of input)) same

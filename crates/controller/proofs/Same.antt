-- A life is decided by its accepted readings and its number of steps.
use Rattle.std.proofs.Common.{◌≡◌, ℕ, zero, suc, ◌+◌, Bool, true, false, cond, leb, List, [], ◌∷◌, ◌++◌, length, Some, None, Ok, Err, Option, Result, sym, refl, ap, ◌∙◌, subst, append_assoc, append-nil, add-zero, arith}
use Rattle.program.specs.declared.fault.Fault.{Fault}
use Rattle.port.specs.declared.reading.Reading.{Reading}
use Rattle.port.specs.Meaning.{Meaning, Offered, Cleared}
use Rattle.instructions.specs.declared.layout.Layout.{Layout}
use Rattle.instructions.specs.Core.{Core, core, Next, goes, halts, takes, shows, faults}
use Rattle.instructions.specs.Moves.{pushed}
use Rattle.machine.specs.declared.outcome.Outcome.{Outcome}
use Rattle.machine.specs.declared.outcome.Outcome.TheVariants as V
use Rattle.machine.specs.declared.outcome.Report.{Report}
use Rattle.machine.specs.declared.state.Status.{Status}
use Rattle.machine.specs.declared.state.Status.TheVariants.{Live, Halted, Faulted}
use Rattle.machine.specs.Console.{Console, console, showing}
use Rattle.machine.specs.Run.{Ran, ran, runs, then}
use Rattle.machine.specs.Start.{initial, layout_of}
use Rattle.machine.specs.Step.{moved, stopped, step, performed, answered, reading}
use Rattle.machine.specs.Turns.{Answered, Done, Unfit, rerun}
use Rattle.controller.proofs.Notes.{noted, notes, notes_from}
use Rattle.controller.specs.Law.{Alike}
use Rattle.controller.specs.Lives.{Handed, Controller, core_of, New, Call, run, offer, clear, question, Life, newborn, after_run, after_offer, after_clear, Called, Lived, steps, given}

-- registers and memory, what is yet to be read, what was shown
record Pure : Type 0 where
  now : Core
  rest : List Reading
  out : List ℕ

abbrev pure : Core → List Reading → List ℕ → Pure
pure c r o = record { now = c; rest = r; out = o }

abbrev read_one : Core → List Reading → List ℕ → Option Pure
read_one to [] o = None
read_one to (x ∷ xs) o = Some (pure (pushed x.value to) xs o)

-- one step, with no regard to space
abbrev one : Next → Pure → Option Pure
one (goes to) s = Some (pure to s.rest s.out)
one (halts to) s = Some s
one (takes to) s = read_one to s.rest s.out
one (shows bs to) s = Some (pure to s.rest (s.out ++ bs))
one (faults f to) s = None

abbrev next : Layout → Option Pure → Option Pure
next lay None = None
next lay (Some s) = one (performed lay s.now) s

abbrev iter : Layout → ℕ → Pure → Option Pure
iter lay zero s = Some s
iter lay (suc n) s = next lay (iter lay n s)

-- more to read changes nothing of what was done
abbrev wider : List Reading → Option Pure → Option Pure
wider vs None = None
wider vs (Some s) = Some (pure s.now (s.rest ++ vs) s.out)

read_wider : (vs : List Reading) (to : Core) (r : List Reading) (o : List ℕ) (u : Pure) → read_one to r o ≡ Some u → read_one to (r ++ vs) o ≡ wider vs (Some u)
read_wider vs to [] o u e = let z : ◌≡◌ {A = ℕ} 0 1 = cc in absurd (omega arith)
read_wider vs to (x ∷ xs) o u e = ap (wider vs) e

one_wider : (vs : List Reading) (a : Next) (s u : Pure) → one a s ≡ Some u → one a (pure s.now (s.rest ++ vs) s.out) ≡ wider vs (Some u)
one_wider vs (goes to) s u e = ap (wider vs) e
one_wider vs (halts to) s u e = ap (wider vs) e
one_wider vs (takes to) s u e = read_wider vs to s.rest s.out u e
one_wider vs (shows bs to) s u e = ap (wider vs) e
one_wider vs (faults f to) s u e = let z : ◌≡◌ {A = ℕ} 0 1 = cc in absurd (omega arith)

next_wider : (lay : Layout) (vs : List Reading) (m : Option Pure) (u : Pure) → next lay m ≡ Some u → next lay (wider vs m) ≡ wider vs (Some u)
next_wider lay vs None u e = let z : ◌≡◌ {A = ℕ} 0 1 = cc in absurd (omega arith)
next_wider lay vs (Some s) u e = one_wider vs (performed lay s.now) s u e

iter_wider : (lay : Layout) (vs : List Reading) (n : ℕ) (s u : Pure) → iter lay n s ≡ Some u → iter lay n (pure s.now (s.rest ++ vs) s.out) ≡ wider vs (Some u)
iter_wider lay vs zero s u e = ap (wider vs) e
iter_wider lay vs (suc n) s u e = go (iter lay n s) refl (iter_wider lay vs n s)
  where
    go : (m : Option Pure) → iter lay n s ≡ m → ((t : Pure) → iter lay n s ≡ Some t → iter lay n (pure s.now (s.rest ++ vs) s.out) ≡ wider vs (Some t)) → next lay (iter lay n (pure s.now (s.rest ++ vs) s.out)) ≡ wider vs (Some u)
    go None q ih = let f : next lay None ≡ Some u = ap (next lay) (sym q) ∙ e in let z : ◌≡◌ {A = ℕ} 0 1 = cc in absurd (omega arith)
    go (Some t) q ih = ap (next lay) (ih t q) ∙ next_wider lay vs (Some t) u (ap (next lay) (sym q) ∙ e)

-- what the machine has come to, with e emptied before
abbrev seen : List ℕ → Core → Console → Pure
seen e c w = pure c w.waiting (e ++ w.shown)

-- n steps from s lead there
abbrev Follows : Layout → Pure → List ℕ → ℕ → Core → Console → Type 0
Follows lay s e n c w = iter lay n s ≡ Some (seen e c w)

-- so do n steps and those of a run, and the run counted its steps from `done` on
record FollowsRun (lay : Layout) (s : Pure) (e : List ℕ) (n done : ℕ) (t : List Core) (r : Ran) : Type 0 where
  there : Follows lay s e (n + length t) r.core r.console
  counted : done + length t ≡ r.steps

none_done : (lay : Layout) (s : Pure) (n : ℕ) (m : Option Pure) → iter lay n s ≡ m → iter lay (n + 0) s ≡ m
none_done lay s n m h = rw add-zero h

one_done : (lay : Layout) (s u w : Pure) (n t : ℕ) (m : Option Pure) → iter lay n s ≡ Some u → one (performed lay u.now) u ≡ Some w → (iter lay (suc n) s ≡ Some w → iter lay (suc n + t) s ≡ m) → iter lay (n + suc t) s ≡ m
one_done lay s u w n t m h q rest = let eq : n + suc t ≡ suc n + t = omega arith in rw eq (rest (ap (next lay) h ∙ q))

module _ (lay : Layout) (s : Pure) (e : List ℕ) (n done : ℕ) (c : Core) (w : Console) (h : Follows lay s e n c w)
    (rest : Core → Console → Ran) (later : Core → Console → List Core)
    (ih : (d : Core) (v : Console) → Follows lay s e (suc n) d v → FollowsRun lay s e (suc n) (done + 1) (later d v) (rest d v)) where
  stops : (o : Outcome) → FollowsRun lay s e n done [] (ran done o c w)
  stops o = record { there = none_done lay s n _ h; counted = omega arith }

  moves : (d : Core) (v : Console) → one (performed lay c) (seen e c w) ≡ Some (seen e d v) → FollowsRun lay s e n done (c ∷ later d v) (rest d v)
  moves d v q =
      let f : Follows lay s e (suc n) d v = ap (next lay) h ∙ q in
      let r = ih d v f in
      record { there = one_done lay s (seen e c w) (seen e d v) n (length (later d v)) _ h q (λ _. r.there); counted = omega (arith, r.counted) }

  reads : (to : Core) → performed lay c ≡ takes to → (xs : List Reading) → w.waiting ≡ xs → FollowsRun lay s e n done (noted c (reading xs to c w) later) (then done (reading xs to c w) rest)
  reads to q [] x = stops V.Reading
  reads to q (x ∷ xs) y = moves _ _ (ap (λ a. one a (seen e c w)) q ∙ ap (λ r. read_one to r (e ++ w.shown)) y)

  prints : (bs : List ℕ) (to : Core) → performed lay c ≡ shows bs to → (b : Bool) → FollowsRun lay s e n done (noted c (cond b (moved to (showing bs w)) (stopped V.Space c w)) later) (then done (cond b (moved to (showing bs w)) (stopped V.Space c w)) rest)
  prints bs to q true = moves to (showing bs w) (ap (λ a. one a (seen e c w)) q ∙ ap (λ o. Some (pure to w.waiting o)) (append_assoc e w.shown bs))
  prints bs to q false = stops V.Space

  answers_follow : (a : Next) → performed lay c ≡ a → FollowsRun lay s e n done (noted c (answered a c w) later) (then done (answered a c w) rest)
  answers_follow (goes to) q = moves to w (ap (λ a. one a (seen e c w)) q)
  answers_follow (halts to) q = record { there = one_done lay s (seen e c w) (seen e c w) n 0 _ h (ap (λ a. one a (seen e c w)) q) (none_done lay s (suc n) _); counted = refl }
  answers_follow (takes to) q = reads to q w.waiting refl
  answers_follow (shows bs to) q = prints bs to q (leb (length bs) w.space)
  answers_follow (faults f to) q = stops _

runs_follow : (lay : Layout) (s : Pure) (e : List ℕ) (b n done : ℕ) (c : Core) (w : Console) → Follows lay s e n c w → FollowsRun lay s e n done (notes lay b c w) (runs lay done b c w)
unfolding runs notes step
runs_follow lay s e zero n done c w h = record { there = none_done lay s n _ h; counted = omega arith }
runs_follow lay s e (suc b) n done c w h = answers_follow lay s e n done c w h (runs lay (done + 1) b) (notes lay b) (λ d v g. runs_follow lay s e b (suc n) (done + 1) d v g) (performed lay c) refl

rerun_follows : (st : Status) (lay : Layout) (s : Pure) (e : List ℕ) (b n : ℕ) (c : Core) (w : Console) → Follows lay s e n c w → FollowsRun lay s e n 0 (notes_from st lay b c w) (rerun st lay b c w)
rerun_follows Live lay s e b n c w h = runs_follow lay s e b n 0 c w h
rerun_follows Halted lay s e b n c w h = record { there = none_done lay s n _ h; counted = refl }
rerun_follows (Faulted f) lay s e b n c w h = record { there = none_done lay s n _ h; counted = refl }

-- a life is where its steps lead from its accepted readings
record Followed (P : Handed) (l : Life) : Type 0 where
  layout : l.control.machine.layout ≡ layout_of P.counts
  there : iter (layout_of P.counts) (steps l) (pure (core (initial P.counts) P.cells) l.accepted []) ≡ Some (pure (core_of l.control) l.control.port.waiting (given l))

module _ (P : Handed) where
  abbrev origin : Life → Pure
  origin l = pure (core (initial P.counts) P.cells) l.accepted []

  done_follows : (b : ℕ) (r : Report) (k : Controller) (l : Life) → Done b l.control.machine k.machine l.control.memory k.memory l.control.port k.port r.steps r.outcome → Followed P l → Followed P (after_run (Ok r) k l)
  done_follows b r k l d f =
      let x = l.control.machine in
      let lay = layout_of P.counts in
      let R : Ran = rerun x.status lay b (core_of l.control) (console l.control.port) in
      let e : ran r.steps r.outcome (core_of k) (console k.port) ≡ R = d.runs ∙ ap (λ y. rerun x.status y b (core_of l.control) (console l.control.port)) f.layout in
      let q = rerun_follows x.status lay (origin l) l.emptied b (steps l) (core_of l.control) (console l.control.port) f.there in
      let c : R.steps ≡ r.steps = sym (ap (λ (y : Ran). y.steps) e) in
      let n : steps l + length (notes_from x.status lay b (core_of l.control) (console l.control.port)) ≡ r.steps + steps l = omega (arith, q.counted) in
      let t : iter lay (steps l + length (notes_from x.status lay b (core_of l.control) (console l.control.port))) (origin l) ≡ Some (seen l.emptied (core_of k) (console k.port)) = q.there ∙ ap (λ (y : Ran). Some (seen l.emptied y.core y.console)) (sym e) in
      record { layout = d.layout ∙ f.layout; there = rw n at t }

  unfit_follows : (b : ℕ) (g : Fault) (k : Controller) (l : Life) → Unfit b l.control.machine k.machine l.control.memory k.memory l.control.port k.port g → Followed P l → Followed P (after_run (Err g) k l)
  unfit_follows b g k l u f = record {
    layout = u.layout ∙ f.layout;
    there = let z : 0 + steps l ≡ steps l = omega arith in rw z (f.there ∙ ap (λ y. Some (pure (core y l.control.memory) l.control.port.waiting (given l))) (sym u.registers) ∙ ap (λ y. Some (pure (core k.machine.registers y) l.control.port.waiting (given l))) (sym u.memory_is) ∙ ap (λ (y : Meaning). Some (pure (core_of k) y.waiting (l.emptied ++ y.shown))) (sym u.port_is));
  }

  run_follows : (b : ℕ) (a : Result Report Fault) (k : Controller) (l : Life) → Answered b l.control.machine k.machine l.control.memory k.memory l.control.port k.port a → Followed P l → Followed P (after_run a k l)
  run_follows b (Ok r) k l d f = done_follows b r k l d f
  run_follows b (Err g) k l u f = unfit_follows b g k l u f

  offer_follows : (x : Reading) (a : Result (Unit {0}) Fault) (q : Meaning) (l : Life) → Offered l.control.port x a q → Followed P l → Followed P (after_offer x a q l)
  offer_follows x (Ok u) q l o f =
      let w : q.waiting ≡ l.control.port.waiting ++ x ∷ [] = o.0 in
      let s : q.shown ≡ l.control.port.shown = o.1 in
      record { layout = f.layout; there = iter_wider (layout_of P.counts) (x ∷ []) (steps l) (origin l) _ f.there ∙ ap (λ y. Some (pure (core_of l.control) y (given l))) (sym w) ∙ ap (λ y. Some (pure (core_of l.control) q.waiting (l.emptied ++ y))) (sym s) }
  offer_follows x (Err g) q l o f = record { layout = f.layout; there = f.there ∙ ap (λ (y : Meaning). Some (pure (core_of l.control) y.waiting (l.emptied ++ y.shown))) (sym o.2) }

  clear_follows : (q : Meaning) (l : Life) → Cleared l.control.port q → Followed P l → Followed P (after_clear q l)
  clear_follows q l o f =
      let g : given l ≡ (l.emptied ++ l.control.port.shown) ++ q.shown = sym (append-nil (given l)) ∙ ap (λ y. given l ++ y) (sym o.1) in
      record { layout = f.layout; there = f.there ∙ ap (λ y. Some (pure (core_of l.control) y (given l))) (sym o.0) ∙ ap (λ y. Some (pure (core_of l.control) q.waiting y)) g }

  call_follows : (c : Call) (l m : Life) → Called c l m → Followed P l → Followed P m
  call_follows (run b) l m e f = subst (Followed P) (sym e.3) (run_follows b e.0 e.1 l e.2 f)
  call_follows (offer x) l m e f = subst (Followed P) (sym e.3) (offer_follows x e.0 e.1 l e.2 f)
  call_follows clear l m e f = subst (Followed P) (sym e.2) (clear_follows e.0 l e.1 f)
  call_follows question l m e f = subst (Followed P) (sym e) f

  lived_follows : (cs : List Call) (l m : Life) → Lived cs l m → Followed P l → Followed P m
  lived_follows [] l m e f = subst (Followed P) (sym e) f
  lived_follows (c ∷ cs) l m e f = lived_follows cs e.0 m e.2 (call_follows c l e.0 e.1 f)

  new_follows : (k : Controller) → New P k → Followed P (newborn k)
  new_follows k n = record {
    layout = n.begun.layout;
    there = ap (λ y. Some (pure (core y P.cells) k.port.waiting [])) (sym n.begun.registers) ∙ ap (λ y. Some (pure (core k.machine.registers y) k.port.waiting [])) (sym n.memory_is) ∙ ap (λ y. Some (pure (core_of k) k.port.waiting y)) (sym n.nothing);
  }

  pub alike_lives : (k : Controller) (cs : List Call) (l : Life) → New P k → Lived cs (newborn k) l → Alike P l
  alike_lives k cs l new e j ds m new' e' a n =
      let f = lived_follows cs (newborn k) l e (new_follows k new) in
      let g = lived_follows ds (newborn j) m e' (new_follows j new') in
      let lay = layout_of P.counts in
      let same : Some (pure (core_of m.control) m.control.port.waiting (given m)) ≡ Some (pure (core_of l.control) l.control.port.waiting (given l)) =
      sym g.there ∙ ap (λ i. iter lay i (origin m)) n ∙ ap (λ r. iter lay (steps l) (pure (core (initial P.counts) P.cells) r [])) a ∙ f.there in
      let one : pure (core_of m.control) m.control.port.waiting (given m) ≡ pure (core_of l.control) l.control.port.waiting (given l) = cc in
      (ap (λ (s : Pure). s.now.reg) one, ap (λ (s : Pure). s.now.mem) one, ap (λ (s : Pure). s.out) one)

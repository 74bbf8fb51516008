-- The steps of a life, one after the other; no fault from 22 to 26.
use Rattle.std.proofs.Common.{◌≡◌, ℕ, zero, suc, ◌+◌, ◌-◌, ◌<◌, ◌≤◌, Bool, true, false, cond, leb, ◌⊎◌, List, [], ◌∷◌, ◌++◌, length, ℤ, Ok, Err, Result, sym, refl, ap, ◌∙◌, subst, inl, inr, append-nil, arith, length-append, length-take}
use Rattle.program.specs.declared.fault.Fault.{Fault}
use Rattle.program.specs.Faults.{refusal, Refusal}
use Rattle.port.specs.declared.reading.Reading.{Reading}
use Rattle.instructions.specs.declared.layout.Layout.{Layout}
use Rattle.instructions.specs.Core.{Core, core, Next, goes, halts, takes, shows, faults}
use Rattle.instructions.specs.Moves.{pushed}
use Rattle.machine.specs.declared.outcome.Outcome.{Outcome}
use Rattle.machine.specs.declared.outcome.Outcome.TheVariants as V
use Rattle.machine.specs.declared.outcome.Report.{Report}
use Rattle.machine.specs.declared.state.Status.{Status}
use Rattle.machine.specs.declared.state.Status.TheVariants.{Live, Halted, Faulted}
use Rattle.machine.specs.Console.{Console, console, showing}
use Rattle.machine.specs.Run.{Ran, ran, runs, then}
use Rattle.machine.specs.Start.{initial, layout_of}
use Rattle.machine.specs.Step.{moved, stopped, step, performed, answered, reading}
use Rattle.machine.specs.Turns.{Answered, Done, Unfit, rerun, marked}
use Rattle.plan.specs.Lawful.{Plan, Lawful, main}
use Rattle.controller.specs.Lives.{Handed, program_in, Controller, core_of, New, Call, run, offer, clear, question, Life, newborn, after_steps, first, after_run, Called, Lived, steps}
use Rattle.controller.specs.Law.{fault_of, Unfaulted}
use Rattle.controller.proofs.Notes.{noted, notes, notes_from, notes_from_lem, first_length}
use Rattle.controller.proofs.Chain.{Box, Frame}
use Rattle.controller.proofs.Inv.{Ground, Inv, placed, After, Good}
use Rattle.controller.proofs.Frames.{step_good, one_less}

-- y comes by a step from x
abbrev pub Leads : Next → Core → Core → Type 0
Leads (goes z) x y = y ≡ z
Leads (halts z) x y = y ≡ x
Leads (takes z) x y = (v : ℤ) × (y ≡ pushed v z)
Leads (shows bs z) x y = y ≡ z
Leads (faults f z) x y = ⊥

-- the steps from x over those listed to z
abbrev pub Walk : Layout → Core → List Core → Core → Type 0
Walk lay x [] z = z ≡ x
Walk lay x (u ∷ t) z = (u ≡ x) × (y : Core) × Leads (performed lay x) x y × Walk lay y t z

walk_append : (lay : Layout) (x y z : Core) (t w : List Core) → Walk lay x t y → Walk lay y w z → Walk lay x (t ++ w) z
walk_append lay x y z [] w e k = subst (λ u. Walk lay u w z) e k
walk_append lay x y z (u ∷ t) w h k = (h.0, h.1, h.2, walk_append lay h.1 y z t w h.3 k)

-- a fault from 27 on, or none
abbrev Told : Outcome → Type 0
Told V.Spent = Unit {0}
Told V.Halted = Unit {0}
Told V.Reading = Unit {0}
Told V.Space = Unit {0}
Told (V.Fault f) = 27 ≤ (refusal f).number

abbrev Marked : Status → Type 0
Marked Live = Unit {0}
Marked Halted = Unit {0}
Marked (Faulted f) = 27 ≤ (refusal f).number

told_marked : (o : Outcome) → Told o → Marked (marked o)
told_marked V.Spent t = tt
told_marked V.Halted t = tt
told_marked V.Reading t = tt
told_marked V.Space t = tt
told_marked (V.Fault f) t = t

told_answer : (o : Outcome) → Told o → (fault_of o < 22) ⊎ (26 < fault_of o)
told_answer V.Spent t = inl (omega arith)
told_answer V.Halted t = inl (omega arith)
told_answer V.Reading t = inl (omega arith)
told_answer V.Space t = inl (omega arith)
told_answer (V.Fault f) t = inr (omega arith)

pub record Sane (B : Box) (p : Plan) (x : Core) : Type 0 where
  pub frames : List Frame
  pub ground : Ground B x
  pub inv : Inv B p frames x

pub sane_after : (B : Box) (p : Plan) (F : List Frame) (x y : Core) → After B p F x y → Sane B p y
sane_after B p F x y a = record { frames = a.frames; ground = a.ground; inv = a.inv }

-- a run with t before each of its steps, which were counted from `done` on
record RunFine (B : Box) (p : Plan) (x : Core) (done : ℕ) (t : List Core) (r : Ran) : Type 0 where
  walk : Walk B.layout x t r.core
  told : Told r.outcome
  sane : Sane B p r.core
  counted : done + length t ≡ r.steps

module _ (B : Box) (p : Plan) (law : Lawful B.program p) (done : ℕ) (c : Core) (w : Console) (s : Sane B p c)
    (rest : Core → Console → Ran) (later : Core → Console → List Core)
    (ih : (d : Core) (v : Console) → Sane B p d → RunFine B p d (done + 1) (later d v) (rest d v)) where
  stops : (o : Outcome) → Told o → RunFine B p c done [] (ran done o c w)
  stops o t = record { walk = refl; told = t; sane = s; counted = omega arith }

  goes_on : (d : Core) (v : Console) → Leads (performed B.layout c) c d → After B p s.frames c d → RunFine B p c done (c ∷ later d v) (rest d v)
  goes_on d v l a = let r = ih d v (sane_after B p s.frames c d a) in record { walk = (refl, d, l, r.walk); told = r.told; sane = r.sane; counted = omega (arith, r.counted) }

  reads : (to : Core) → performed B.layout c ≡ takes to → ((v : ℤ) → After B p s.frames c (pushed v to)) → (xs : List Reading) → RunFine B p c done (noted c (reading xs to c w) later) (then done (reading xs to c w) rest)
  reads to q a [] = stops V.Reading tt
  reads to q a (x ∷ xs) = goes_on _ _ (rw q (x.value, refl)) (a x.value)

  prints : (bs : List ℕ) (to : Core) → performed B.layout c ≡ shows bs to → After B p s.frames c to → (b : Bool) → RunFine B p c done (noted c (cond b (moved to (showing bs w)) (stopped V.Space c w)) later) (then done (cond b (moved to (showing bs w)) (stopped V.Space c w)) rest)
  prints bs to q a true = goes_on to (showing bs w) (rw q refl) a
  prints bs to q a false = stops V.Space tt

  step_fine : (a : Next) → performed B.layout c ≡ a → Good B p s.frames c a → RunFine B p c done (noted c (answered a c w) later) (then done (answered a c w) rest)
  step_fine (goes to) q g = goes_on to w (rw q refl) g
  step_fine (halts to) q g = record { walk = (refl, c, rw q refl, refl); told = tt; sane = s; counted = refl }
  step_fine (takes to) q g = reads to q g w.waiting
  step_fine (shows bs to) q g = prints bs to q g (leb (length bs) w.space)
  step_fine (faults f to) q g = stops _ g

runs_fine : (B : Box) (p : Plan) → Lawful B.program p → (b done : ℕ) (c : Core) (w : Console) → Sane B p c → RunFine B p c done (notes B.layout b c w) (runs B.layout done b c w)
unfolding runs notes step
runs_fine B p law zero done c w s = record { walk = refl; told = tt; sane = s; counted = omega arith }
runs_fine B p law (suc b) done c w s = step_fine B p law done c w s (runs B.layout (done + 1) b) (notes B.layout b) (λ d v t. runs_fine B p law b (done + 1) d v t) (performed B.layout c) refl (step_good B p law s.frames c s.ground s.inv)

rerun_fine : (B : Box) (p : Plan) → Lawful B.program p → (st : Status) (b : ℕ) (c : Core) (w : Console) → Marked st → Sane B p c → RunFine B p c 0 (notes_from st B.layout b c w) (rerun st B.layout b c w)
rerun_fine B p law Live b c w m s = runs_fine B p law b 0 c w s
rerun_fine B p law Halted b c w m s = record { walk = refl; told = tt; sane = s; counted = refl }
rerun_fine B p law (Faulted f) b c w m s = record { walk = refl; told = m; sane = s; counted = refl }

-- the box of a program
abbrev pub box_of : Handed → Box
box_of P = record { layout = layout_of P.counts; size = P.counts.cells; program = program_in P }

abbrev pub origin : Handed → Core
origin P = core (initial P.counts) P.cells

pub record Fine (P : Handed) (p : Plan) (l : Life) : Type 0 where
  pub layout : l.control.machine.layout ≡ layout_of P.counts
  pub walk : Walk (layout_of P.counts) (origin P) l.past (core_of l.control)
  pub told : Unfaulted l
  pub mark : Marked l.control.machine.status
  pub sane : Sane (box_of P) p (core_of l.control)
  pub counted : length l.past ≡ steps l

module _ (P : Handed) (p : Plan) (law : Lawful (program_in P) p) where
  done_fine : (b : ℕ) (r : Report) (k : Controller) (l : Life) → Done b l.control.machine k.machine l.control.memory k.memory l.control.port k.port r.steps r.outcome → Fine P p l → Fine P p (after_run (Ok r) k l)
  done_fine b r k l d f =
      let x = l.control.machine in
      let lay = layout_of P.counts in
      let c = core_of l.control in
      let w = console l.control.port in
      let R : Ran = rerun x.status lay b c w in
      let e : R ≡ ran r.steps r.outcome (core_of k) (console k.port) = sym (d.runs ∙ ap (λ y. rerun x.status y b c w) f.layout) in
      let q : RunFine (box_of P) p c 0 (notes_from x.status lay b c w) (ran r.steps r.outcome (core_of k) (console k.port)) = subst (RunFine (box_of P) p c 0 (notes_from x.status lay b c w)) e (rerun_fine (box_of P) p law x.status b c w f.mark f.sane) in
      let T : List Core = notes_from x.status lay b c w in
      let n : length T ≡ r.steps = omega (arith, q.counted) in
      let g : T ≡ first (after_steps l.control) r.steps = notes_from_lem x.status lay b c w ∙ ap (λ i. first (λ j. (rerun x.status lay j c w).core) i) n ∙ ap (λ y. first (λ j. (rerun x.status y j c w).core) r.steps) (sym f.layout) in
      record {
        layout = d.layout ∙ f.layout;
        walk = subst (λ t. Walk lay (origin P) (l.past ++ t) (core_of k)) g (walk_append lay (origin P) c (core_of k) l.past T f.walk q.walk);
        told = (told_answer r.outcome q.told, f.told);
        mark = subst Marked (sym d.status) (told_marked r.outcome q.told);
        sane = q.sane;
        counted = simp length-append (omega (arith, f.counted, first_length (after_steps l.control) r.steps));
      }

  unfit_fine : (b : ℕ) (g : Fault) (k : Controller) (l : Life) → Unfit b l.control.machine k.machine l.control.memory k.memory l.control.port k.port g → Fine P p l → Fine P p (after_run (Err g) k l)
  unfit_fine b g k l u f =
      let e : core_of l.control ≡ core_of k = ap (λ y. core y l.control.memory) (sym u.registers) ∙ ap (λ y. core k.machine.registers y) (sym u.memory_is) in
      let n : (refusal g).number ≡ 21 = ap (λ (y : Refusal). y.number) u.fault in
      let past : l.past ++ [] ≡ l.past = append-nil l.past in
      record {
        layout = u.layout ∙ f.layout;
        walk = rw past (subst (λ y. Walk (layout_of P.counts) (origin P) l.past y) e f.walk);
        told = (inl (omega arith), f.told);
        mark = subst Marked (sym u.status) f.mark;
        sane = subst (Sane (box_of P) p) e f.sane;
        counted = rw past (omega (arith, f.counted));
      }

  run_fine : (b : ℕ) (a : Result Report Fault) (k : Controller) (l : Life) → Answered b l.control.machine k.machine l.control.memory k.memory l.control.port k.port a → Fine P p l → Fine P p (after_run a k l)
  run_fine b (Ok r) k l d f = done_fine b r k l d f
  run_fine b (Err g) k l u f = unfit_fine b g k l u f

  call_fine : (c : Call) (l m : Life) → Called c l m → Fine P p l → Fine P p m
  call_fine (run b) l m e f = subst (Fine P p) (sym e.3) (run_fine b e.0 e.1 l e.2 f)
  call_fine (offer x) l m e f = subst (Fine P p) (sym e.3) (record { layout = f.layout; walk = f.walk; told = f.told; mark = f.mark; sane = f.sane; counted = f.counted })
  call_fine clear l m e f = subst (Fine P p) (sym e.2) (record { layout = f.layout; walk = f.walk; told = f.told; mark = f.mark; sane = f.sane; counted = f.counted })
  call_fine question l m e f = subst (Fine P p) (sym e) f

  lived_fine : (cs : List Call) (l m : Life) → Lived cs l m → Fine P p l → Fine P p m
  lived_fine [] l m e f = subst (Fine P p) (sym e) f
  lived_fine (c ∷ cs) l m e f = lived_fine cs e.0 m e.2 (call_fine c l e.0 e.1 f)

  pub start_sane : (k : Controller) → New P k → Sane (box_of P) p (origin P)
  start_sane k n =
      let m = k.machine in
      let low : m.registers.limit ≤ m.registers.sp = m.low in
      let low' : P.counts.code + P.counts.«data» + P.counts.heap ≤ P.counts.cells = rw n.begun.registers at low in
      let root = law.roots 0 0 main in
      let in_code = (law.places 0 0 0 root).1.inside in
      let some_cells : 0 < P.counts.cells = omega (arith, in_code, n.long, length-take P.counts.code P.cells) in
      record {
        frames = [];
        ground = record { len = n.long; code = refl; ordered = omega arith; low = low'; above = omega arith };
        inv = placed (record { a = 0; f = P.counts.cells - 1; h = 0; b = 0; pc_is = refl; fp_is = one_less P.counts.cells (omega arith); sp_is = omega arith; planned = root; chain = (omega arith, refl) });
      }

  pub life_fine : (k : Controller) (cs : List Call) (l : Life) → New P k → Lived cs (newborn k) l → Fine P p l
  life_fine k cs l n e =
      let q : origin P ≡ core_of k = ap (λ y. core y P.cells) (sym n.begun.registers) ∙ ap (λ y. core k.machine.registers y) (sym n.memory_is) in
      lived_fine cs (newborn k) l e (record { layout = n.begun.layout; walk = sym q; told = tt; mark = subst Marked (sym n.begun.status) tt; sane = subst (Sane (box_of P) p) q (start_sane k n); counted = refl })

-- Runs one after another.
use Rattle.std.proofs.Common.{◌≡◌, ℕ, zero, suc, ◌+◌, Bool, true, false, cond, leb, List, [], ◌∷◌, length, take, ℤ, sym, refl, ap, ◌∙◌, subst, arith}
use Rattle.port.specs.declared.reading.Reading.{Reading as PortReading}
use Rattle.instructions.specs.declared.layout.Layout.{Layout}
use Rattle.port.specs.Meaning.{Meaning}
use Rattle.instructions.specs.Core.{Core, Next, core, goes, halts, takes, shows, faults}
use Rattle.machine.specs.declared.outcome.Outcome.{Outcome}
use Rattle.machine.specs.declared.outcome.Outcome.TheVariants.{Spent, Halted, Reading, Space, Fault}
use Rattle.machine.specs.declared.state.Machine.{Machine}
use Rattle.machine.specs.declared.state.Status.{Status}
use Rattle.machine.specs.declared.state.Status.TheVariants as S
use Rattle.machine.specs.declared.state.Status.TheVariants.{Live}
use Rattle.machine.specs.Console.{Console, console, showing}
use Rattle.machine.specs.Run.{Ran, ran, runs, then}
use Rattle.machine.specs.Turns.{Done, rerun}
use Rattle.machine.specs.Step.{Stepped, moved, ended, stopped, step, performed, answered, reading}

-- an outcome other than spent
abbrev Over : Outcome → Type 0
Over Spent = ⊥
Over Halted = Unit {0}
Over Reading = Unit {0}
Over Space = Unit {0}
Over (Fault f) = Unit {0}

-- a step that is none ends the run
abbrev Ends : Stepped → Type 0
Ends (moved c w) = Unit {0}
Ends (ended c w) = Unit {0}
Ends (stopped o c w) = Over o

reading_ends : (xs : List PortReading) (d c : Core) (w : Console) → Ends (reading xs d c w)
reading_ends [] d c w = tt
reading_ends (x ∷ xs) d c w = tt

answered_ends : (n : Next) (c : Core) (w : Console) → Ends (answered n c w)
answered_ends (goes d) c w = tt
answered_ends (halts d) c w = tt
answered_ends (takes d) c w = reading_ends w.waiting d c w
answered_ends (shows bs d) c w = go (leb (length bs) w.space)
  where
    go : (b : Bool) → Ends (cond b (moved d (showing bs w)) (stopped Space c w))
    go true = tt
    go false = tt
answered_ends (faults f d) c w = tt

step_ends : (lay : Layout) (c : Core) (w : Console) → Ends (step lay c w)
unfolding step
step_ends lay c w = answered_ends (performed lay c) c w

module _ (lay : Layout) where
  -- b more steps where a run was spent
  abbrev onward : ℕ → ℕ → Outcome → Core → Console → Ran
  onward b n Spent c w = runs lay n b c w
  onward b n Halted c w = ran n Halted c w
  onward b n Reading c w = ran n Reading c w
  onward b n Space c w = ran n Space c w
  onward b n (Fault f) c w = ran n (Fault f) c w

  abbrev on : ℕ → Ran → Ran
  on b r = onward b r.steps r.outcome r.core r.console

  over_stays : (b n : ℕ) (o : Outcome) (c : Core) (w : Console) → Over o → onward b n o c w ≡ ran n o c w
  over_stays b n Spent c w h = absurd h
  over_stays b n Halted c w h = refl
  over_stays b n Reading c w h = refl
  over_stays b n Space c w h = refl
  over_stays b n (Fault f) c w h = refl

  pub runs_sum : (d a b : ℕ) (c : Core) (w : Console) → runs lay d (a + b) c w ≡ on b (runs lay d a c w)
  unfolding runs
  runs_sum d zero b c w = let e : zero + b ≡ b = omega arith in ap (λ n. runs lay d n c w) e
  runs_sum d (suc a) b c w =
      let e : suc a + b ≡ suc (a + b) = omega arith in
      ap (λ n. runs lay d n c w) e ∙ go (step lay c w) (step_ends lay c w) (λ x v. runs_sum (d + 1) a b x v)
    where
      go : (s : Stepped) → Ends s → ((x : Core) (v : Console) → runs lay (d + 1) (a + b) x v ≡ on b (runs lay (d + 1) a x v)) → then d s (runs lay (d + 1) (a + b)) ≡ on b (then d s (runs lay (d + 1) a))
      go (moved x v) h ih = ih x v
      go (ended x v) h ih = refl
      go (stopped o x v) h ih = sym (over_stays b d o x v h)

  abbrev later : ℕ → Ran → Ran
  later n r = ran (n + r.steps) r.outcome r.core r.console

  pub runs_later : (n d a : ℕ) (c : Core) (w : Console) → runs lay (n + d) a c w ≡ later n (runs lay d a c w)
  unfolding runs
  runs_later n d zero c w = refl
  runs_later n d (suc a) c w = go (step lay c w) (λ x v. runs_later n (d + 1) a x v)
    where
      go : (s : Stepped) → ((x : Core) (v : Console) → runs lay (n + (d + 1)) a x v ≡ later n (runs lay (d + 1) a x v)) → then (n + d) s (runs lay (n + d + 1) a) ≡ later n (then d s (runs lay (d + 1) a))
      go (moved x v) ih = let e : n + d + 1 ≡ n + (d + 1) = omega arith in ap (λ k. runs lay k a x v) e ∙ ih x v
      go (ended x v) ih = let e : n + d + 1 ≡ n + (d + 1) = omega arith in ap (λ k. ran k Halted x v) e
      go (stopped o x v) ih = refl

  -- a run that was spent, and then another
  pub spent_then : (a b m n : ℕ) (o : Outcome) (c d e : Core) (u v w : Console) → ran m Spent d v ≡ runs lay 0 a c u → ran n o e w ≡ runs lay 0 b d v → ran (m + n) o e w ≡ runs lay 0 (a + b) c u
  spent_then a b m n o c d e u v w p q =
      let z : m + 0 ≡ m = omega arith in
      ap (later m) q ∙ sym (runs_later m 0 b d v) ∙ ap (λ k. runs lay k b d v) z ∙ ap (on b) p ∙ sym (runs_sum 0 a b c u)

  -- a run that ended before its allowance was spent
  pub over_then : (a b m : ℕ) (o : Outcome) (c d : Core) (u v : Console) → Over o → ran m o d v ≡ runs lay 0 a c u → ran m o d v ≡ runs lay 0 (a + b) c u
  over_then a b m o c d u v h p = sym (over_stays b m o d v h) ∙ ap (on b) p ∙ sym (runs_sum 0 a b c u)

-- whatever the machine came to before
sum_run : (st : Status) (lay : Layout) (a b m n : ℕ) (o : Outcome) (c d e : Core) (u v w : Console) → ran m Spent d v ≡ rerun st lay a c u → ran n o e w ≡ runs lay 0 b d v → ran (m + n) o e w ≡ rerun st lay (a + b) c u
sum_run Live lay a b m n o c d e u v w p q = spent_then lay a b m n o c d e u v w p q
sum_run S.Halted lay a b m n o c d e u v w p q = let k : Spent ≡ Halted = ap (λ (r : Ran). r.outcome) p in let z : ◌≡◌ {A = ℕ} 0 1 = cc in absurd (omega arith)
sum_run (S.Faulted f) lay a b m n o c d e u v w p q = let k : Spent ≡ Fault f = ap (λ (r : Ran). r.outcome) p in let z : ◌≡◌ {A = ℕ} 0 1 = cc in absurd (omega arith)

over_run : (st : Status) (lay : Layout) (a b m : ℕ) (o : Outcome) (c d : Core) (u v : Console) → Over o → ran m o d v ≡ rerun st lay a c u → ran m o d v ≡ rerun st lay (a + b) c u
over_run Live lay a b m o c d u v h p = over_then lay a b m o c d u v h p
over_run S.Halted lay a b m o c d u v h p = p
over_run (S.Faulted f) lay a b m o c d u v h p = p

module _ (a b : ℕ) (x y : Machine) (m n : List ℤ) (p q : Meaning) (s : ℕ) where
  pub both_done : (z : Machine) (o : List ℤ) (r : Meaning) (t : ℕ) (out : Outcome) → Done a x y m n p q s Spent → Done b y z n o q r t out → Done (a + b) x z m o p r (s + t) out
  both_done z o r t out f g = record {
    long = f.long;
    layout = g.layout ∙ f.layout;
    cells = g.cells ∙ f.cells;
    runs = sum_run x.status x.layout a b s t out (core x.registers m) (core y.registers n) (core z.registers o) (console p) (console q) (console r) f.runs
        (g.runs ∙ ap (λ st. rerun st y.layout b (core y.registers n) (console q)) f.status ∙ ap (λ l. runs l 0 b (core y.registers n) (console q)) f.layout);
    status = g.status;
    openings = omega (arith, f.openings, g.openings);
    code = ap (λ (l : Layout). take l.code o) (sym f.layout) ∙ g.code ∙ ap (λ (l : Layout). take l.code n) f.layout ∙ f.code;
  }

  pub one_done : (out : Outcome) → (out ≡ Spent → ⊥) → Done a x y m n p q s out → Done (a + b) x y m n p q s out
  one_done out h f = record {
    long = f.long;
    layout = f.layout;
    cells = f.cells;
    runs = over_run x.status x.layout a b s out (core x.registers m) (core y.registers n) (console p) (console q) (ended_so out h) f.runs;
    status = f.status;
    openings = f.openings;
    code = f.code;
  }
    where
      ended_so : (o : Outcome) → (o ≡ Spent → ⊥) → Over o
      ended_so Spent k = k refl
      ended_so Halted k = tt
      ended_so Reading k = tt
      ended_so Space k = tt
      ended_so (Fault e) k = tt

-- the same steps and outcome, written otherwise
pub done_as : (a : ℕ) (x y : Machine) (m n : List ℤ) (p q : Meaning) (s t : ℕ) (o u : Outcome) → s ≡ t → o ≡ u → Done a x y m n p q s o → Done a x y m n p q t u
done_as a x y m n p q s t o u e f d = subst (λ (v : Outcome). Done a x y m n p q t v) f (subst (λ (k : ℕ). Done a x y m n p q k o) e d)

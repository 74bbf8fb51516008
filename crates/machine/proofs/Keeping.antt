-- What every instruction keeps: the code's cells, and the order of code, data, heap and stack.
use Rattle.std.proofs.Common.{◌≡◌, ℕ, zero, suc, ◌+◌, ◌≤◌, leb, List, [], ◌∷◌, length, take, ℤ, pos, negsuc, Some, None, Ok, Err, Option, Result, sym, refl, ◌∙◌, subst, arith, length-set, rules}
use Rattle.std.proofs.lemmas.List.{take-set-le}
use Rattle.std.proofs.lemmas.Bool.{cond_both, leb-true}
use Rattle.std.proofs.lemmas.Bool.Decides.{nat_tests}
use Rattle.program.specs.declared.fault.MachineCause.{MachineCause}
use Rattle.program.specs.declared.fault.MachineCause.TheVariants.{StackUnderflow}
use Rattle.port.specs.declared.reading.Reading.{Reading}
use Rattle.arithmetic.specs.Cells.{binary, unary}
use Rattle.arithmetic.specs.declared.operation.Binary.TheVariants as B
use Rattle.arithmetic.specs.declared.operation.Unary.TheVariants as U
use Rattle.isa.specs.declared.opcode.Opcode.{Opcode}
use Rattle.isa.specs.declared.opcode.Opcode.TheVariants as O
use Rattle.instructions.specs.declared.layout.Layout.{Layout}
use Rattle.instructions.specs.Core.{Core, Next, Act, Sound, goes, halts, takes, shows, faults, top, under}
use Rattle.instructions.specs.Exec.{exec}
use Rattle.instructions.specs.Moves.{at_pc, popped, pushed, put}
use Rattle.instructions.specs.Stack.{joins, returns, turns}
use Rattle.instructions.specs.Tests.{fine, uses}
use Rattle.machine.specs.declared.fetch.Fetched.{Fetched}
use Rattle.machine.specs.declared.outcome.Outcome.{Outcome}
use Rattle.machine.specs.Console.{Console, showing}
use Rattle.machine.specs.Fetch.{fetched}
use Rattle.machine.specs.Run.{Ran, ran, runs, then}
use Rattle.machine.specs.Safe.{Safe, Kept}
use Rattle.machine.specs.Step.{Stepped, moved, ended, stopped, step, does, performed, answered, reading}

module _ (lay : Layout) (start : Core) where
  -- an instruction that is safe whatever it comes to; a reading that it asks for has a place
  abbrev Safely : Next → Type 0
  Safely (goes d) = Safe lay start d
  Safely (halts d) = Safe lay start d
  Safely (takes d) = Safe lay start d × (d.reg.limit + 1 ≤ d.reg.sp)
  Safely (shows bs d) = Safe lay start d
  Safely (faults f d) = Safe lay start d

  uses_safe : (k : ℕ) (act : Act) (c : Core) → Safe lay start c → (c.reg.sp + k ≤ length c.mem → Safely (act c)) → Safely (uses k act c)
  uses_safe k act c p h = cond_both (leb (c.reg.sp + k) (length c.mem)) (act c) (faults StackUnderflow c) Safely (λ e. h (leb-true _ _ e)) (λ _. p)

  fine_safe : {X : Type 0} (r : Result X MachineCause) (act : X → Act) (c : Core) → Safe lay start c → ((x : X) → r ≡ Ok x → Safely (act x c)) → Safely (fine r act c)
  fine_safe (Ok x) act c p h = h x refl
  fine_safe (Err f) act c p h = p

  -- a cell from the code's end on is written
  put_safe : (c : Core) (a : ℕ) (x : ℤ) → Safe lay start c → lay.code ≤ a → Safe lay start (put a x c)
  put_safe c a x s h = record {
    ordered = s.ordered;
    floor = s.floor;
    low = s.low;
    high = simp length-set s.high;
    code = take-set-le lay.code c.mem a x h ∙ s.code;
    long = simp length-set s.long;
  }

  joins_safe : (op : ℤ → ℤ → Result ℤ MachineCause) (c : Core) → Safe lay start c → Safely (joins op c)
  joins_safe op c s =
      let then : ℤ → Act = λ x c. goes (popped 1 (put (c.reg.sp + 1) x c)) in
      uses_safe 2 (λ c. fine (op (under c) (top c)) then c) c s (λ h. fine_safe (op (under c) (top c)) then c s (λ x _.
      let p = put_safe c (c.reg.sp + 1) x s (omega (arith, s.ordered, s.floor, s.low)) in
      record { ordered = s.ordered; floor = s.floor; low = omega (arith, s.low); high = simp length-set (omega arith); code = p.code; long = p.long }))

  turns_safe : (op : ℤ → Result ℤ MachineCause) (c : Core) → Safe lay start c → Safely (turns op c)
  turns_safe op c s =
      let then : ℤ → Act = λ x c. goes (put c.reg.sp x c) in
      uses_safe 1 (λ c. fine (op (top c)) then c) c s (λ h. fine_safe (op (top c)) then c s (λ x _. put_safe c c.reg.sp x s (omega (arith, s.ordered, s.floor, s.low))))

  returns_safe : (k : ℤ) (c : Core) → Safe lay start c → Safely (returns k c)
  returns_safe (pos k) c s = grind (arith, nat_tests)
  returns_safe (negsuc k) c s = s

  exec_safe : (at : ℤ) (op : Opcode) (k : ℤ) (c : Core) → Safe lay start c → Safely (exec lay at op k c)
  exec_safe at O.Push k c s = grind (arith, nat_tests, length-set, take-set-le)
  exec_safe at O.Add k c s = joins_safe (binary B.Add) c s
  exec_safe at O.Sub k c s = joins_safe (binary B.Sub) c s
  exec_safe at O.Mul k c s = joins_safe (binary B.Mul) c s
  exec_safe at O.Div k c s = joins_safe (binary B.Div) c s
  exec_safe at O.Mod k c s = joins_safe (binary B.Mod) c s
  exec_safe at O.Neg k c s = turns_safe (unary U.Neg) c s
  exec_safe at O.And k c s = joins_safe (binary B.And) c s
  exec_safe at O.Or k c s = joins_safe (binary B.Or) c s
  exec_safe at O.Not k c s = turns_safe (unary U.Not) c s
  exec_safe at O.Eq k c s = joins_safe (binary B.Eq) c s
  exec_safe at O.Ne k c s = joins_safe (binary B.Ne) c s
  exec_safe at O.Lt k c s = joins_safe (binary B.Lt) c s
  exec_safe at O.Gt k c s = joins_safe (binary B.Gt) c s
  exec_safe at O.Le k c s = joins_safe (binary B.Le) c s
  exec_safe at O.Ge k c s = joins_safe (binary B.Ge) c s
  exec_safe at O.Dup k c s = grind (arith, nat_tests, length-set, take-set-le)
  exec_safe at O.Pop k c s = grind (arith, nat_tests, length-set, take-set-le)
  exec_safe at O.Swap k c s = grind (arith, nat_tests, length-set, take-set-le)
  exec_safe at O.Jump k c s = search rules
  exec_safe at O.Bf k c s = grind (arith, nat_tests, length-set, take-set-le)
  exec_safe at O.Bt k c s = grind (arith, nat_tests, length-set, take-set-le)
  exec_safe at O.Nop k c s = search rules
  exec_safe at O.Read k c s = grind (arith, nat_tests, length-set, take-set-le)
  exec_safe at O.Bprint k c s = grind (arith, nat_tests, length-set, take-set-le)
  exec_safe at O.Cprint k c s = grind (arith, nat_tests, length-set, take-set-le)
  exec_safe at O.Iprint k c s = grind (arith, nat_tests, length-set, take-set-le)
  exec_safe at O.Sprint k c s = grind (arith, nat_tests, length-set, take-set-le)
  exec_safe at O.Prnln k c s = search rules
  exec_safe at O.Load k c s = grind (arith, nat_tests, length-set, take-set-le)
  exec_safe at O.Store k c s = grind (arith, nat_tests, length-set, take-set-le)
  exec_safe at O.Loadref k c s = grind (arith, nat_tests, length-set, take-set-le)
  exec_safe at O.Storeref k c s = grind (arith, nat_tests, length-set, take-set-le)
  exec_safe at O.Deref k c s = grind (arith, nat_tests, length-set, take-set-le)
  exec_safe at O.Call k c s = grind (arith, nat_tests, length-set, take-set-le)
  exec_safe at O.Loadfp k c s = grind (arith, nat_tests, length-set, take-set-le)
  exec_safe at O.Loadsp k c s = grind (arith, nat_tests, length-set, take-set-le)
  exec_safe at O.Storefp k c s = grind (arith, nat_tests, length-set, take-set-le)
  exec_safe at O.Rmem k c s = grind (arith, nat_tests, length-set, take-set-le)
  exec_safe at O.Fmem k c s = grind (arith, nat_tests, length-set, take-set-le)
  exec_safe at O.Ret k c s = returns_safe k c s
  exec_safe at O.Halt k c s = search rules
  exec_safe at O.Loadpc k c s = grind (arith, nat_tests, length-set, take-set-le)
  exec_safe at O.Storepc k c s = grind (arith, nat_tests, length-set, take-set-le)
  exec_safe at O.Storesp k c s = grind (arith, nat_tests, length-set, take-set-le)
  exec_safe at O.Loadhp k c s = grind (arith, nat_tests, length-set, take-set-le)
  exec_safe at O.Storehp k c s = grind (arith, nat_tests, length-set, take-set-le)
  exec_safe at O.Loadhl k c s = grind (arith, nat_tests, length-set, take-set-le)
  exec_safe at O.Storehl k c s = grind (arith, nat_tests, length-set, take-set-le)

  does_safe : (i : Option Fetched) (c : Core) → Safe lay start c → Safely (does lay i c)
  does_safe None c s = s
  does_safe (Some f) c s = exec_safe c.reg.pc f.instruction.op f.instruction.argument (at_pc f.next c) (search rules)

  performed_safe : (c : Core) → Safe lay start c → Safely (performed lay c)
  unfolding performed
  performed_safe c s = does_safe (fetched (take lay.code c.mem) c.reg.pc) c s

  -- a step is safe whatever it comes to
  abbrev Stays : Stepped → Type 0
  Stays (moved d w) = Safe lay start d
  Stays (ended d w) = Safe lay start d
  Stays (stopped o d w) = Safe lay start d

  push_safe : (d : Core) (x : ℤ) → Safe lay start d → d.reg.limit + 1 ≤ d.reg.sp → Safe lay start (pushed x d)
  push_safe d x s h = grind (arith, nat_tests, length-set, take-set-le)

  reading_safe : (xs : List Reading) (d c : Core) (w : Console) → Safe lay start d → d.reg.limit + 1 ≤ d.reg.sp → Safe lay start c → Stays (reading xs d c w)
  reading_safe [] d c w s h t = t
  reading_safe (x ∷ xs) d c w s h t = push_safe d x.value s h

  answered_safe : (n : Next) (c : Core) (w : Console) → Safely n → Safe lay start c → Stays (answered n c w)
  answered_safe (goes d) c w s t = s
  answered_safe (halts d) c w s t = t
  answered_safe (takes d) c w s t = reading_safe w.waiting d c w s.0 s.1 t
  answered_safe (shows bs d) c w s t = cond_both (leb (length bs) w.space) (moved d (showing bs w)) (stopped _ c w) Stays (λ _. s) (λ _. t)
  answered_safe (faults f d) c w s t = t

  step_safe : (c : Core) (w : Console) → Safe lay start c → Stays (step lay c w)
  unfolding step
  step_safe c w s = answered_safe (performed lay c) c w (performed_safe c s) s

  -- so is a run
  pub runs_safe : (done left : ℕ) (c : Core) (w : Console) → Safe lay start c → Safe lay start (runs lay done left c w).core
  unfolding runs
  runs_safe done zero c w s = s
  runs_safe done (suc left) c w s = go (step lay c w) (step_safe c w s) (λ d v t. runs_safe (done + 1) left d v t)
    where
      go : (x : Stepped) → Stays x → ((d : Core) (v : Console) → Safe lay start d → Safe lay start (runs lay (done + 1) left d v).core) → Safe lay start (then done x (runs lay (done + 1) left)).core
      go (moved d v) t ih = ih d v t
      go (ended d v) t ih = t
      go (stopped o d v) t ih = t

-- what a run leaves is safe, as it is what the definition leaves
pub run_keeps : (lay : Layout) (allowance : ℕ) (c d : Core) (w v : Console) (steps : ℕ) (o : Outcome) → ran steps o d v ≡ runs lay 0 allowance c w → Sound c.reg (length c.mem)
    → Kept lay c.reg c.mem d.reg d.mem
run_keeps lay allowance c d w v steps o e s a b =
    let p : Safe lay c c = record { ordered = a; floor = b; low = s.low; high = s.high; code = refl; long = refl } in
    let q = subst (λ (x : Ran). Safe lay c x.core) (sym e) (runs_safe lay c 0 allowance c w p) in
    (q.floor, q.code)

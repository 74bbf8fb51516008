-- One step, and a run one step on.
use Rattle.std.proofs.Common.{◌≡◌, ℕ, suc, ◌+◌, List, ℤ, sym, refl, ap, ◌∙◌, add-zero}
use Rattle.machine.specs.declared.outcome.Outcome.{Outcome}
use Rattle.machine.specs.declared.outcome.Outcome.TheVariants.{Spent, Halted, Reading, Space, Fault}
use Rattle.machine.specs.Run.{Ran, runs, ran, then}
use Rattle.machine.specs.Steps.{ended_by, last}
use Rattle.instructions.specs.declared.registers.Registers.{Registers}
use Rattle.instructions.specs.declared.effect.Effect.{Effect}
use Rattle.instructions.specs.declared.effect.Effect.TheVariants.{Done, Halt, Take, Show, Spell}
use Rattle.instructions.specs.Core.{Core, core}
use Rattle.instructions.specs.declared.layout.Layout.{Layout}
use Rattle.instructions.specs.Effects.{asks, Unwritten}
use Rattle.machine.specs.Console.{Console}
use Rattle.machine.specs.Step.{Stepped, step, answered}

-- what has not written leaves memory as it was
pub answered_held : (e : Effect) (to r : Registers) (m m' : List ℤ) (w : Console) → Unwritten e m m'
    → answered (asks e (core to m')) (core r m') w ≡ answered (asks e (core to m')) (core r m) w
answered_held Done to r m m' w h = refl
answered_held Halt to r m m' w h = ap (λ x. answered (asks Halt (core to m')) (core r x) w) h
answered_held Take to r m m' w h = ap (λ x. answered (asks Take (core to m')) (core r x) w) h
answered_held (Show t) to r m m' w h = ap (λ x. answered (asks (Show t) (core to m')) (core r x) w) h
answered_held (Spell b x) to r m m' w h = ap (λ y. answered (asks (Spell b x) (core to m')) (core r y) w) h

pub runs_spent : (lay : Layout) (done left n : ℕ) (c : Core) (w : Console) → left ≡ 0 → n ≡ done → ran n Spent c w ≡ runs lay done left c w
unfolding runs
runs_spent lay done left n c w e f = ap (λ n. ran n Spent c w) f ∙ sym (ap (λ n. runs lay done n c w) e)

pub runs_more : (lay : Layout) (done left rest : ℕ) (c : Core) (w : Console) (s : Stepped) → s ≡ step lay c w → left ≡ suc rest
    → then done s (runs lay (done + 1) rest) ≡ runs lay done left c w
unfolding runs
runs_more lay done left rest c w s h e = ap (λ s. then done s (runs lay (done + 1) rest)) h ∙ ap (λ n. runs lay done n c w) (sym e)

-- with the step that ended it
then_ended : (done : ℕ) (o : Outcome) (c : Core) (w : Console) (on : Core → Console → Ran) → ran (done + last o) o c w ≡ then done (ended_by o c w) on
then_ended done Spent c w on = ap (λ n. ran n Spent c w) (add-zero done)
then_ended done Halted c w on = refl
then_ended done Reading c w on = ap (λ n. ran n Reading c w) (add-zero done)
then_ended done Space c w on = ap (λ n. ran n Space c w) (add-zero done)
then_ended done (Fault f) c w on = ap (λ n. ran n (Fault f) c w) (add-zero done)

pub runs_ended : (lay : Layout) (done left rest n : ℕ) (o : Outcome) (c d : Core) (w v : Console) → ended_by o d v ≡ step lay c w → left ≡ suc rest → n ≡ last o
    → ran (done + n) o d v ≡ runs lay done left c w
runs_ended lay done left rest n o c d w v h e f =
    ap (λ n. ran (done + n) o d v) f ∙ then_ended done o d v (runs lay (done + 1) rest) ∙ runs_more lay done left rest c w (ended_by o d v) h e

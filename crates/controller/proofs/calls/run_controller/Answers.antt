use Rattle.std.proofs.Common.{sym, refl, subst}
use Rattle.machine.specs.Turns.{Answered}
use Rattle.controller.specs.Lives.{Controller, Life}
use Rattle.controller.specs.Calls.{controlled}
use Rattle.controller.proofs.calls.run_controller.Goals as goal

pub returns : goal.returns
returns g c =
    let after : Controller = controlled c.run.new.machine c.run.new.memory (g.P.Port.meaning c.run.new.port) in
    record {
      answered = c.run.ensures;
      lived = λ (l : Life) e. (
        c.run.result,
        after,
        subst (λ (k : Controller). Answered c.args.allowance k.machine after.machine k.memory after.memory k.port after.port c.run.result) (sym e) c.run.ensures,
        refl,
      );
    }

use Rattle.std.proofs.Common.{ℕ, sym, refl}
use Rattle.std.proofs.lemmas.Bool.{both_ways}
use Rattle.program.specs.declared.unit.Unit.{Unit as UnitRecord}
use Rattle.plan.specs.Programs.{Opens}
use Rattle.plan.proofs.Listing.{units_each}
use Rattle.checker.specs.Progress.{judged}
use Rattle.checker.proofs.work.Work.units_open.Goals as goal

pub returns-then-not-opens : goal.returns-then-not-opens
returns-then-not-opens c =
    record {
      k = c.loop-k.k;
      v = c.v-item.result;
      address = refl;
      listed = (c.loop-k-test.true, sym c.v-item.is);
      bad = λ q. both_ways c.opens.result c.if-not-opens.true (c.opens.ensures.1 q);
      before = c.loop-k.invariant;
    }

pub loop-k-preserved : goal.loop-k-preserved
loop-k-preserved c =
    units_each c.args.self.now.program.units.now (λ (k : ℕ) (v : UnitRecord). Opens (judged c.args.self.now) k v) c.loop-k.k c.v-item.result c.loop-k.invariant
    (c.loop-k-test.true, sym c.v-item.is)
    (c.opens.ensures.0 c.if-not-opens.false)

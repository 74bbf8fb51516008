use Rattle.std.proofs.Common.{arith}
use Rattle.slots.proofs.Ends.{changed_more}
use Rattle.slots.proofs.change_all.Goals as goal

pub loop-x-preserved : goal.loop-x-preserved
loop-x-preserved g c =
    changed_more _ _ c.loop-x.elements c.loop-x.x-index c.x-item.result c.change.result (omega arith) (omega arith) c.loop-x.invariant.0 c.loop-x.invariant.1 c.change.ensures

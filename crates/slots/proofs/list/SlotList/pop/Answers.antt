use Rattle.std.proofs.Common.{refl, arith}
use Rattle.slots.proofs.Ends.{take_last}
use Rattle.slots.proofs.list.SlotList.pop.Goals as goal

pub returns : goal.returns
returns g c =
    record {
      lender = refl;
      room = refl;
      slots = refl;
      items = (take_last c.args.self.now.slots.now c.args.self.now.len _ (omega arith) (omega arith), omega arith);
    }

use Rattle.std.proofs.Common.{refl, arith}
use Rattle.slots.proofs.Ends.{take_within}
use Rattle.slots.proofs.list.SlotList.replace.Goals as goal

pub returns : goal.returns
returns g c =
    record {
      lender = refl;
      len = refl;
      room = refl;
      items = take_within c.args.self.now.slots.now c.args.self.now.len c.args.place c.args.x (omega arith) (omega arith);
      slots = (omega arith, refl);
    }

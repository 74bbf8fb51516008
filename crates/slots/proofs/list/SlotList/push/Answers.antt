use Rattle.std.proofs.Common.{◌<◌, length, refl, arith}
use Rattle.std.proofs.lemmas.List.{take_more_set, length-take-le}
use Rattle.slots.proofs.list.SlotList.push.Goals as goal

pub returns : goal.returns
returns g c =
    let xs = c.args.self.now.slots.now in
    let h : c.args.self.now.len < length xs = omega arith in
    record {
      lender = refl;
      items = (take_more_set xs c.args.self.now.len c.args.x h, rw (length-take-le c.args.self.now.len xs (omega arith)) (omega arith), refl);
      slots = (refl, refl);
    }

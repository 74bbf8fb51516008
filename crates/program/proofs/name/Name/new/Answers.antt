use Rattle.std.proofs.Common.{arith}
use Rattle.program.proofs.Letters.{lowered}
use Rattle.program.proofs.name.Name.new.Goals as goal

pub returns : goal.returns
returns c = lowered c.args.word.now c.copy_from_slice.new.self c.make_ascii_lowercase.new.self (omega arith) c.copy_from_slice.ensures.after c.make_ascii_lowercase.ensures.after

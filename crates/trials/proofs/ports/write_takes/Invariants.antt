use Rattle.std.proofs.Common.{length}
use Rattle.trials.proofs.ports.write_takes.Given as goal

abbrev pub decreases-loop-reading : goal.decreases-loop-reading
decreases-loop-reading g l = length (g.P.Port.meaning l.port).waiting

use Rattle.decimal.proofs.Spellings.{Spelt}
use Rattle.decimal.proofs.spelling.spell_size.Given as goal

abbrev pub invariant-loop-rest : goal.invariant-loop-rest
invariant-loop-rest l = Spelt l.n l.rest l.start l.bytes

abbrev pub decreases-loop-rest : goal.decreases-loop-rest
decreases-loop-rest l = l.rest

use Rattle.std.proofs.Common.{◌≡◌, ◌%◌, arith, rules}
use Rattle.decimal.proofs.Spellings.{low, more, last}
use Rattle.decimal.proofs.spelling.spell_size.Goals as goal

pub overflow_sub-start : goal.overflow_sub-start
overflow_sub-start c = omega (arith, low _ _ _ _ c.loop-rest.invariant)

pub loop-rest-preserved : goal.loop-rest-preserved
loop-rest-preserved c =
    let e : c.unwrap.result ≡ c.loop-rest.rest % 10 = search rules in
    rw e (more _ _ _ _ c.loop-rest.invariant (omega arith))

pub overflow_sub-start-2 : goal.overflow_sub-start-2
overflow_sub-start-2 c = omega (arith, low _ _ _ _ c.loop-rest.invariant)

pub returns : goal.returns
returns c =
    let l = low _ _ _ _ c.loop-rest.invariant in
    let e : c.unwrap-2.result ≡ c.loop-rest.rest = search rules in
    record { text = rw e (last _ _ _ _ c.loop-rest.invariant (omega arith)); room = omega arith }

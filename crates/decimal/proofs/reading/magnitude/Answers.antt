use Rattle.std.proofs.Common.{◌≡◌, subst, arith, rules}
use Rattle.std.proofs.lemmas.Fn.{fold_over, slice_gives, fronts}
use Rattle.decimal.specs.Numbers.{natural, capped}
use Rattle.decimal.proofs.Figures.{natural_push}
use Rattle.decimal.proofs.reading.magnitude.Goals as goal

pub returns : goal.returns
returns c = subst (λ l. c.fold.result ≡ capped (natural 0 l)) c.iter.ensures.rest
    (fold_over fronts (λ y. y.now) _ (λ ys n. n ≡ capped (natural 0 ys)) _ (λ ys a x b f' j k. let more = natural_push 0 ys x.now in search rules)
    _ _ _ _ (slice_gives c.iter.result) (omega arith) c.fold.ensures.ran)

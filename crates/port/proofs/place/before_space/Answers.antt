use Rattle.std.proofs.Common.{rules, tests, ◌≡◌, eqb}
use Rattle.std.proofs.lemmas.Iterator.{YieldsList-from_slice}
use Rattle.std.proofs.lemmas.Iterator.Search.{position_from_yields_List}
use Rattle.std.specs.List.{position}
use Rattle.port.proofs.Places.{up_to_position}
use Rattle.port.proofs.place.before_space.Goals as goal

pub returns : goal.returns
returns c =
    let xs = c.args.bytes.now in
    let found : c.position-space.result ≡ position (λ c. eqb c 32) xs =
    position_from_yields_List (λ c. eqb c 32) _ _ c.position-space.result c.position-space.ensures.ran (YieldsList-from_slice xs c.iter.ensures.rest) (λ x b q k. search (rules, tests))
    in
    up_to_position xs c.position-space.result c.unwrap_or.result found c.unwrap_or.ensures

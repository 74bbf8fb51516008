use Rattle.std.proofs.Common.{◌≡◌, ◌+◌, ◌-◌, ◌*◌, take, drop, ap, ◌∙◌, arith, w32, SFits, rules}
use Rattle.std.proofs.lemmas.Int.{to_z-of_z}
use Rattle.decimal.specs.Reading.{read_as}
use Rattle.port.specs.Place.{up_to_space, or_zero}
use Rattle.port.proofs.Places.{number}
use Rattle.port.proofs.place.read_place.Goals as goal

pub returns : goal.returns
returns c =
    let f : SFits w32 c.unwrap_or.result = search rules in
    let p = drop (12 * c.args.place) c.args.places.now in
    let e : 12 * c.args.place + 12 - 12 * c.args.place ≡ 12 = omega arith in
    simp to_z-of_z (ap number (c.unwrap_or.ensures ∙ ap or_zero (c.read.ensures ∙ ap read_as (c.before_space-text.ensures ∙ ap (λ n. up_to_space (take n p)) e))))

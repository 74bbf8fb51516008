use Rattle.std.proofs.Common.{◌≡◌, ◌≤◌, length, ◌∙◌, arith, w32, SFits, rules}
use Rattle.std.specs.Fmt.{signed_decimal}
use Rattle.std.proofs.lemmas.List.{length-take}
use Rattle.std.proofs.lemmas.Int.{to_z-of_z}
use Rattle.port.proofs.Places.{text_padded}
use Rattle.port.proofs.place.text_of.Goals as goal

pub slice_bounds-place-end : goal.slice_bounds-place-end
slice_bounds-place-end c =
    let l : length c.text-text.result.now ≤ 11 = rw c.text-text.ensures (simp length-take (omega arith)) in
    search rules

pub returns : goal.returns
returns c =
    let f : SFits w32 c.args.reading.value = search rules in
    let s : c.text-text.result.now ≡ signed_decimal c.args.reading.value = c.text-text.ensures ∙ (simp to_z-of_z at c.spell-numeral.ensures) in
    text_padded c.args.reading c.copy_from_slice.new.self c.text-text.result.now c.copy_from_slice.ensures.after s

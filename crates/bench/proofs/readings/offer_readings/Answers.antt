use Rattle.std.proofs.Common.{◌≡◌, ◌∷◌, ◌++◌, take, sym, ap, ◌∙◌, rules}
use Rattle.std.proofs.lemmas.Int.{to_z-of_z}
use Rattle.port.specs.declared.reading.Reading.{Reading}
use Rattle.port.specs.Meaning.{Offered}
use Rattle.syntax.specs.Left.{lines_left}
use Rattle.bench.specs.Input.{numbers}
use Rattle.bench.proofs.Offering.{offered_more, offered_shown, numbers_ok}
use Rattle.bench.proofs.readings.offer_readings.Goals as goal

pub loop-line-preserved-in-Ok : goal.loop-line-preserved-in-Ok
loop-line-preserved-in-Ok g c =
    let m = g.P.Port.meaning c.loop-line.port in
    let m' = g.P.Port.meaning c.offer.new.self in
    let x : Reading = record { value = c.in-Ok.value } in
    let left = lines_left c.next.new.self in
    let i = c.loop-line.invariant in
    let e : lines_left c.loop-line.line-iterator ≡ c.in-Some.line.now ∷ left = search rules in
    let l : numbers (lines_left c.loop-line.line-iterator) ≡ x ∷ numbers left = ap numbers e ∙ numbers_ok c.in-Some.line.now left c.in-Ok.value c.in-Ok.ensures in
    let o : Offered m x c.offer.result m' = search (rules, to_z-of_z) in
    let s = offered_shown m m' x c.offer.result o in
    (tt, tt, offered_more m m' x c.offer.result (numbers left) o ∙ ap (λ xs. m.waiting ++ take m.openings xs) (sym l) ∙ i.2, s.0 ∙ i.3, s.1 ∙ i.4)

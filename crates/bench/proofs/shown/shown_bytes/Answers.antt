use Rattle.std.proofs.Common.{◌≡◌, ◌-◌, length, IfOk, vec_items, List, ℕ, subst, arith, rules, tests}
use Rattle.std.specs.Iterator.Adapters.{filter_map_source}
use Rattle.std.specs.List.{slice_get, filter_map, range_with_len}
use Rattle.std.proofs.lemmas.Iterator.{items_from_collect, YieldsList-from_range}
use Rattle.std.proofs.lemmas.Iterator.Consumers.{YieldsList-from_filter_map}
use Rattle.bench.proofs.Wording.{at_places}
use Rattle.bench.proofs.shown.shown_bytes.Goals as goal

pub returns : goal.returns
returns g c =
    let xs = (g.P.Port.meaning c.args.port.now).shown in
    let n : c.shown.result - 0 ≡ length xs = omega arith in
    let all : filter_map_source c.filter_map.result ≡ record { start = 0; end = c.shown.result } = search rules in
    let made : IfOk c.collect.result (λ v. vec_items v ≡ filter_map (λ i. slice_get xs i) (range_with_len 0 (length xs))) =
    items_from_collect c.collect.result c.collect.ensures.ran
    (YieldsList-from_filter_map _ (λ i. slice_get xs i) (YieldsList-from_range 0 c.shown.result (length xs) all n) c.filter_map.ensures.closure (λ x r q k. search (rules, tests)))
    in
    subst (λ (bs : List ℕ). IfOk c.collect.result (λ v. vec_items v ≡ bs)) (at_places xs) made

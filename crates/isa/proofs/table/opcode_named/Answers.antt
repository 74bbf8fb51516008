use Rattle.std.proofs.Common.{rules, ◌∙◌, ap, option_map, map, position}
use Rattle.std.proofs.lemmas.Iterator.{YieldsList-from_slice}
use Rattle.std.proofs.lemmas.Iterator.Search.{find_from_yields_List}
use Rattle.program.specs.Names.{same, smalls}
use Rattle.isa.proofs.Decoding.{of_lent, first_named}
use Rattle.isa.proofs.table.opcode_named.Goals as goal

pub returns : goal.returns
returns c =
    let w = smalls c.args.word.now in
    let rows = c.iter.result.rest.now in
    let found = find_from_yields_List (λ row. same w row.0.now) c.find.new.self _ c.find.result c.find.ensures.ran (YieldsList-from_slice {s = c.iter.result} rows cc) (λ x b q k. search rules) in
    of_lent (λ row. row.1) c.find.result c.map.result _ c.map.ensures.cases (λ x y k. search rules)
    ∙ ap (option_map (λ row. row.1)) found
    ∙ first_named w rows (ap (map (λ row. row.1)) c.iter.ensures.rest) (ap (position (λ row. same w row.0.now)) c.iter.ensures.rest)

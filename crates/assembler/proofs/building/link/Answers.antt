use Rattle.std.proofs.Common.{◌≡◌, List, map, length, sym, ap, ◌∙◌, arith}
use Rattle.std.proofs.lemmas.List.{length-map, length-take-le}
use Rattle.program.specs.declared.label.Label.{Label}
use Rattle.slots.specs.Items.{items, slots_of}
use Rattle.assembler.specs.Assembly.{forms, linked, made}
use Rattle.assembler.specs.Cells.{all, cell, opening}
use Rattle.assembler.specs.Marks.{mark_of, entry_of}
use Rattle.assembler.specs.Progress.{entries, marks}
use Rattle.assembler.specs.Survey.{surveyed}
use Rattle.assembler.proofs.Clips.{puts_as}
use Rattle.assembler.proofs.Passes.{built, counts_same}
use Rattle.assembler.proofs.building.link.Goals as goal

pub returns : goal.returns
returns c =
    let n = c.args.cells in
    let site = forms c.args.texts.site.now in
    let library = forms c.args.texts.library.now in
    let t = c.args.tally in
    let l = c.args.labels.now in
    let u = c.args.units.now in
    let m = marks l in
    let e = entries u in
    let ls = marks c.lay_out.new.labels in
    let v = c.args.written.now in
    let w = c.write_all.new.written in
    let k : length m ≡ l.len = length-map (items l) mark_of ∙ length-take-le l.len (slots_of l) (omega arith) in
    let j : length e ≡ u.len = length-map (items u) entry_of ∙ length-take-le u.len (slots_of u) (omega arith) in
    let a = c.len.ensures ∙ c.lay_out.ensures.len ∙ sym k in
    let b = c.len-2.ensures ∙ c.open_units.ensures.len ∙ sym j in
    let f = λ (xs : List Label). map mark_of xs in
    let g = λ (xs : List Label). linked n site library (surveyed t m e) (f xs) ≡ made n site library (surveyed t m e) (f xs) in
    record {
      builds = built n site library t m ls e (entries c.open_units.new.units) _ v w c.finished.result c.finished.ensures
          (counts_same n t.code t.data t.heap c.len.result c.len-2.result (length m) (length e) a b)
          c.if-code-data.false c.requires.extents c.lay_out.ensures.labels
          (ap (λ xs. linked n site library (surveyed t m e) (f xs)) (sym c.items.ensures) ∙ c.in_ok-check_names.ensures n (surveyed t m e) ∙ ap (λ xs. made n site library (surveyed t m e) (f xs)) c.items.ensures)
          (puts_as v w _ (map (cell ls) (all site library)) (ap (λ xs. map (cell (f xs)) (all site library)) c.items-2.ensures) c.write_all.ensures)
          c.requires.fresh.none c.requires.fresh.whole
          (c.open_units.ensures.units ∙ ap (λ xs. map (opening (f xs)) e) c.items-3.ensures);
      written = c.write_all.ensures.kept;
      labels = c.lay_out.ensures.kept;
      units = c.open_units.ensures.kept;
    }

use Rattle.std.proofs.Common.{map, rules}
use Rattle.assembler.specs.Assembly.{forms}
use Rattle.assembler.specs.Cells.{all, cell}
use Rattle.assembler.specs.Marks.{mark_of}
use Rattle.assembler.proofs.Clips.{kept_then}
use Rattle.assembler.proofs.Written.{sections_more}
use Rattle.assembler.proofs.writing.write_all.Goals as goal

pub loop-want-preserved : goal.loop-want-preserved
loop-want-preserved c =
    let ls = map mark_of c.args.labels.now in
    let site = forms c.args.texts.site.now in
    let library = forms c.args.texts.library.now in
    let a = c.args.written.now in
    let b = c.loop-want.written in
    let m = c.write_section.new.written in
    let d = c.write_section-in-loop-want.new.written in
    let p = c.write_section.ensures in
    let r = c.write_section-in-loop-want.ensures in (
      sections_more ls site library a b m d (map (cell ls) (all site library)) c.loop-want.want-index _ c.loop-want-test.true (search rules) c.loop-want.invariant.0 p r,
      kept_then a b d c.loop-want.invariant.1 (kept_then b m d p.kept r.kept),
    )

use Rattle.std.proofs.Common.{◌+◌, ◌-◌, replicate, arith}
use Rattle.std.proofs.lemmas.Int.{to_z-of_z}
use Rattle.assembler.proofs.Clips.{kept_then, left_more, replicate_next}
use Rattle.assembler.proofs.writing.put_copies.Goals as goal

pub loop-i-preserved : goal.loop-i-preserved
loop-i-preserved c =
    let f = c.ranges.value in
    let n = c.args.count in
    let i = c.loop-i._i in
    let p = c.put.ensures in
    simp to_z-of_z (
      left_more c.args.written.now c.loop-i.written c.put.new.written _ c.args.value (replicate (n - i) c.args.value) (replicate (n - (i + 1)) c.args.value) (replicate n c.args.value) (simp to_z-of_z at c.loop-i.invariant.0) (replicate_next n i c.args.value (omega arith)) (simp to_z-of_z) p,
      kept_then c.args.written.now c.loop-i.written c.put.new.written c.loop-i.invariant.1 p.kept,
    )

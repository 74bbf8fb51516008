use Rattle.std.proofs.Common.{◌≡◌, ℕ, suc, ◌+◌, [], ℤ, pos, ◌+ℤ◌, sym, subst, arith, rules, w64, to_z, of_z}
use Rattle.std.proofs.lemmas.Int.{ints}
use Rattle.program.specs.declared.unit.Unit.{Unit as UnitRecord}
use Rattle.plan.specs.Programs.{Program, Listed}
use Rattle.plan.specs.Lawful.{main, unit}
use Rattle.plan.specs.Walks.{root}
use Rattle.checker.specs.Progress.{judged, places}
use Rattle.checker.specs.Work.{Route}
use Rattle.checker.proofs.Works.{rooted}
use Rattle.checker.proofs.work.Work.begin.Goals as goal

pub arrive-requires-clause-route : goal.arrive-requires-clause-route
arrive-requires-clause-route c = ([], root 0 0 main, tt)

pub arrive-requires-in-loop-k-clause-route : goal.arrive-requires-in-loop-k-clause-route
arrive-requires-in-loop-k-clause-route c =
    let P : Program = judged c.args.self.now in
    let v : UnitRecord = c.index-units-k.result in
    let e : to_z w64 (of_z w64 (to_z w64 (of_z w64 c.from.result) +ℤ pos 3)) ≡ pos (v.entry + 3) = omega (arith, ints) in
    let l : Listed P.units c.loop-k.k v = (c.loop-k-test.true, sym c.index-units-k.is) in
    let n : c.unwrap-body.result ≡ suc c.loop-k.k = search rules in
    subst (λ (Q : Program). Route Q (places c.loop-k.self) (to_z w64 (of_z w64 (to_z w64 (of_z w64 c.from.result) +ℤ pos 3))) c.unwrap-body.result 0) (sym c.loop-k.invariant.moved.is)
    (subst (λ (z : ℤ). Route P (places c.loop-k.self) z c.unwrap-body.result 0) (sym e)
    (subst (λ (z : ℕ). Route P (places c.loop-k.self) (pos (v.entry + 3)) z 0) (sym n) ([], root (v.entry + 3) (suc c.loop-k.k) (unit c.loop-k.k v l), tt)))

pub returns-clause-begun : goal.returns-clause-begun
returns-clause-begun c =
    (c.loop-k.invariant.moved, rooted (judged c.args.self.now) (places c.loop-k.self) c.loop-k.invariant.main (λ k v l. c.loop-k.invariant.units k v (omega (arith, l.0)) l))

use Rattle.std.proofs.Common.{◌≡◌, ℕ, ◌≤◌, List, ℤ, length, sym, refl, subst, arith}
use Rattle.isa.specs.Code.{Divides, first}
use Rattle.plan.specs.Lawful.{Table, planned}
use Rattle.plan.specs.Programs.{Program}
use Rattle.plan.proofs.Dividing.{scan_next}
use Rattle.checker.specs.Progress.{judged, places}
use Rattle.checker.specs.Work.{Base}
use Rattle.checker.proofs.Marks.{mark_more, mark_rest, mark_bare, unset_bare}
use Rattle.checker.proofs.Works.{base_none}
use Rattle.checker.proofs.work.Work.mark.Goals as goal

pub loop-a-init : goal.loop-a-init
loop-a-init c =
    record {
      lender = refl;
      is = refl;
      empty = c.requires.empty;
      divides = first;
      within = omega arith;
      marked = λ b h. absurd (omega arith);
      unset = λ b h. c.requires.unset b;
      bare = unset_bare c.args.self.now.plan.now c.requires.unset;
    }

pub loop-a-preserved : goal.loop-a-preserved
loop-a-preserved c =
    let code : List ℤ = c.args.self.now.program.code.now in
    let t : Table = c.loop-a.self.plan.now in
    let i = c.loop-a.invariant in
    let s = scan_next code c.loop-a.a c.in-Some.i c.length_of-a.result i.divides c.in-Some.ensures.is c.length_of-a.ensures in
    let l : length code ≤ length t = subst (λ (P : Program). length P.code ≤ length t) i.is c.loop-a.self.table in
    record {
      lender = i.lender;
      is = i.is;
      empty = i.empty;
      divides = s.0;
      within = s.1;
      marked = mark_more code t c.loop-a.a (planned 0 1001) l i.divides c.in-Some.i c.length_of-a.result c.loop-a-test.true c.in-Some.ensures.is c.length_of-a.ensures i.unset i.marked;
      unset = mark_rest code t c.loop-a.a (planned 0 1001) l i.divides c.in-Some.i c.length_of-a.result c.loop-a-test.true c.in-Some.ensures.is c.length_of-a.ensures i.unset;
      bare = mark_bare t c.loop-a.a (planned 0 1001) (omega (arith, l, c.loop-a-test.true)) refl i.bare;
    }

pub returns-clause-marked : goal.returns-clause-marked
returns-clause-marked c =
    let P : Program = judged c.args.self.now in
    let i = c.loop-a.invariant in
    let n : c.loop-a.a ≡ length P.code = omega (arith, i.within, c.loop-a-test.false) in (
      record {
        is = i.is;
        marked = λ b h. i.marked b (omega (arith, n, h));
        base = subst (λ (z : List ℕ). Base P (places c.loop-a.self) z) (sym i.empty) (base_none P (places c.loop-a.self) i.bare);
      },
      subst (λ (z : ℕ). Divides P.code z) n i.divides,
    )

use Rattle.std.proofs.Common.{◌≡◌, ◌<◌, length, sym, ◌∙◌, subst, arith, rules, ℕ}
use Rattle.std.proofs.lemmas.List.{get_or_read}
use Rattle.plan.specs.Programs.{Program}
use Rattle.checker.specs.Progress.{judged, places, came}
use Rattle.checker.specs.Work.{SetAt, Arrived, Done, places_in}
use Rattle.checker.proofs.Works.{rooted_grow, drain_more, finished, count_le, arrived_trans, moved_back}
use Rattle.checker.proofs.work.Work.drain.Goals as goal

pub visit-requires-clause-placed : goal.visit-requires-clause-placed
visit-requires-clause-placed c =
    let w = c.loop-address.self in
    let at = get_or_read (came w) c.loop-address.i c.in-Some.address c.in-Some.ensures.0 c.in-Some.ensures.1 0 in
    subst (λ (z : ℕ). SetAt (places w) z) (sym at) (c.loop-address.invariant.moved.arrived.base.placed c.loop-address.i c.in-Some.ensures.0)

pub visit-requires-clause-inside : goal.visit-requires-clause-inside
visit-requires-clause-inside c =
    let w = c.loop-address.self in
    let m = c.loop-address.invariant.moved in
    let at = get_or_read (came w) c.loop-address.i c.in-Some.address c.in-Some.ensures.0 c.in-Some.ensures.1 0 in
    let s : SetAt (places w) c.in-Some.address = subst (λ (z : ℕ). SetAt (places w) z) (sym at) (m.arrived.base.placed c.loop-address.i c.in-Some.ensures.0) in
    subst (λ (P : Program). c.in-Some.address < length P.code) (sym m.is) (m.arrived.base.seated c.in-Some.address s.0 s.1).inside

pub overflow_add-i : goal.overflow_add-i
overflow_add-i c =
    let w = c.loop-address.self in
    let n : length (came w) ≡ places_in (places w) (length c.args.self.now.program.code.now) = c.loop-address.invariant.moved.arrived.base.counted in
    let m = count_le (places w) (length c.args.self.now.program.code.now) in
    let s = c.args.self.now.small in
    let l = c.in-Some.ensures.0 in search rules

pub loop-address-smaller : goal.loop-address-smaller
loop-address-smaller c =
    let w = c.loop-address.self in
    let n : length (came w) ≡ places_in (places w) (length c.args.self.now.program.code.now) = c.loop-address.invariant.moved.arrived.base.counted in
    let m = count_le (places w) (length c.args.self.now.program.code.now) in
    let l = c.in-Some.ensures.0 in omega arith

pub loop-address-preserved : goal.loop-address-preserved
loop-address-preserved c =
    let P : Program = judged c.args.self.now in
    let w = c.loop-address.self in
    let u = c.visit.new.self in
    let i = c.loop-address.invariant in
    let l = c.in-Some.ensures.0 in
    let at = get_or_read (came w) c.loop-address.i c.in-Some.address l c.in-Some.ensures.1 0 in
    let m = moved_back P _ u c.in_ok-visit.ensures.visited.0 i.moved.is in
    let g : Arrived P (places w) (places u) (came w) (came u) = m.arrived in
    let d = subst (λ (Q : Program). Done Q (places u) c.in-Some.address) i.moved.is c.in_ok-visit.ensures.visited.1 in
    record {
      lender = c.in_ok-visit.ensures.lender ∙ i.lender;
      moved = record { is = m.is; marked = m.marked; arrived = arrived_trans P (places c.args.self.now) (places w) (places u) (came c.args.self.now) (came w) (came u) i.moved.arrived g };
      rooted = rooted_grow P (places w) (places u) g.grows i.rooted;
      done = drain_more P (places w) (places u) (came w) (came u) c.loop-address.i c.in-Some.address i.moved.arrived.base i.done g d l at;
      within = omega (arith, l, g.longer.more);
    }

pub returns-clause-drained : goal.returns-clause-drained
returns-clause-drained c =
    let w = c.loop-address.self in
    let i = c.loop-address.invariant in
    let l = c.in_default.ensures in
    finished (judged c.args.self.now) (places w) (came w) i.moved.arrived.base (λ j h. i.done j (omega (arith, h, l))) i.rooted c.requires.divided c.requires.opened

use Rattle.std.proofs.Common.{◌≡◌, ℕ, List, [], ◌∷◌, ◌++◌, length, get_or, set, ℤ, pos, Some, None, sym, refl, ◌∙◌, subst, arith, rules, w64}
use Rattle.std.proofs.lemmas.Int.{to_z-of_z}
use Rattle.slots.specs.Items.{items}
use Rattle.plan.specs.Programs.{Program}
use Rattle.plan.specs.Lawful.{Has, Table, plan_of}
use Rattle.plan.proofs.Walking.{walk_low}
use Rattle.checker.specs.Progress.{judged, places, came}
use Rattle.checker.specs.Work.{places_of, Route, Arrived}
use Rattle.checker.proofs.Marks.{places_room, places_set, marked_set}
use Rattle.checker.proofs.Works.{arrived_new, room_left, passes}
use Rattle.checker.proofs.work.Work.arrive.Goals as goal

pub unwrap-requires : goal.unwrap-requires
unwrap-requires c =
    let w = c.args.self.now in
    let P : Program = judged w in
    let h : get_or (places w) c.in-Some.a None ≡ None = sym c.in-None.ensures in
    let e : c.args.to ≡ pos c.in-Some.a = sym (to_z-of_z w64 c.args.to c.ranges.to) ∙ c.in-Some.ensures.0 in
    let n = room_left P (places w) (came w) c.requires.ready.base c.in-Some.a c.args.at c.in-Some.ensures.1 (places_room w.plan.now (length P.code) w.table) h
    (subst (λ (z : ℤ). Route P (places w) z c.args.at.body c.args.at.depth) e c.requires.route) in
    passes c.push.result _ _ c.push.ensures.items (λ y q. omega (arith, n, q.0, w.slots))

pub returns-in-None-clause-arrived : goal.returns-in-None-clause-arrived
returns-in-None-clause-arrived c =
    let w = c.args.self.now in
    let P : Program = judged w in
    let t : Table = places w in
    let h : get_or t c.in-Some.a None ≡ None = sym c.in-None.ensures in
    let e : c.args.to ≡ pos c.in-Some.a = sym (to_z-of_z w64 c.args.to c.ranges.to) ∙ c.in-Some.ensures.0 in
    let r = subst (λ (z : ℤ). Route P t z c.args.at.body c.args.at.depth) e c.requires.route in
    let sits = c.in-Some.ensures.1 in
    let low = walk_low P r.0 (pos c.in-Some.a) c.args.at.body c.args.at.depth r.1 in
    let v : places_of (set w.plan.now c.in-Some.a (Some c.args.at)) ≡ set t c.in-Some.a (Some c.args.at) = places_set w.plan.now c.in-Some.a c.args.at low in
    let n = arrived_new P t (came w) c.requires.ready.base c.in-Some.a c.args.at sits (places_room w.plan.now (length P.code) w.table) h r in
    let m : c.unwrap-address.result ≡ c.in-Some.a = search rules in
    let p : items c.push.new.self ≡ came w ++ c.in-Some.a ∷ [] = subst (λ (z : ℕ). items c.push.new.self ≡ came w ++ z ∷ []) m (rw c.unwrap.ensures at c.push.ensures.items).0 in (
      record {
        is = refl;
        marked = marked_set P.code w.plan.now c.in-Some.a c.args.at w.table sits.divides c.requires.ready.marked;
        arrived = subst (λ (u : Table). Arrived P t u (came w) (items c.push.new.self)) (sym v)
            (subst (λ (z : List ℕ). Arrived P t (set t c.in-Some.a (Some c.args.at)) (came w) z) (sym p) n.0);
      },
      (c.in-Some.a, e, subst (λ (u : Table). Has (plan_of u) c.in-Some.a c.args.at.body c.args.at.depth) (sym v) n.1),
    )

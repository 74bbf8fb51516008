use Rattle.std.proofs.Common.{[], ◌∷◌, sym, refl, ◌∙◌, subst, inl, inr}
use Rattle.std.proofs.lemmas.Result.{MatchResult-weaker}
use Rattle.plan.specs.declared.next.Next.TheVariants.{Onward, Fork}
use Rattle.plan.specs.Programs.{Program}
use Rattle.plan.specs.Causes.{Due}
use Rattle.checker.specs.Progress.{judged, places, came}
use Rattle.checker.specs.Work.{Route}
use Rattle.checker.proofs.Works.{steps_to, route_on, done_at, holds_grow, moved_trans}
use Rattle.checker.proofs.work.Work.visit.Goals as goal

pub follow-requires-clause-route : goal.follow-requires-clause-route
follow-requires-clause-route c =
    let w = c.args.self.now in
    let st = steps_to (judged w) c.args.address c.unwrap-at.result c.in_ok-next.next (Onward c.in-Onward.s) c.in-Onward.is c.in_ok-next.ensures in
    route_on (judged w) (places w) (came w) c.requires.ready.base c.args.address c.unwrap-at.result (sym c.place_at.ensures ∙ c.unwrap-at.ensures) (c.in-Onward.s ∷ []) c.in-Onward.s st (inl refl)

pub returns-in-Onward-clause-visited : goal.returns-in-Onward-clause-visited
returns-in-Onward-clause-visited c =
    let w = c.args.self.now in
    let st = steps_to (judged w) c.args.address c.unwrap-at.result c.in_ok-next.next (Onward c.in-Onward.s) c.in-Onward.is c.in_ok-next.ensures in
    MatchResult-weaker c.follow.result c.follow.ensures.arrived
    (λ x h. (h.0, done_at (judged w) (places w) (places c.follow.new.self) c.args.address c.unwrap-at.result (c.in-Onward.s ∷ []) h.0.arrived.grows (sym c.place_at.ensures ∙ c.unwrap-at.ensures) st (h.1, tt)))
    (λ y d. d)

pub follow-requires-in-Fork-clause-route : goal.follow-requires-in-Fork-clause-route
follow-requires-in-Fork-clause-route c =
    let w = c.args.self.now in
    let st = steps_to (judged w) c.args.address c.unwrap-at.result c.in_ok-next.next (Fork c.in-Fork.s c.in-Fork.t) c.in-Fork.is c.in_ok-next.ensures in
    route_on (judged w) (places w) (came w) c.requires.ready.base c.args.address c.unwrap-at.result (sym c.place_at.ensures ∙ c.unwrap-at.ensures) (c.in-Fork.s ∷ c.in-Fork.t ∷ []) c.in-Fork.s st (inl refl)

pub follow-requires-in-Fork-2-clause-route : goal.follow-requires-in-Fork-2-clause-route
follow-requires-in-Fork-2-clause-route c =
    let w = c.args.self.now in
    let v = c.follow-in-Fork.new.self in
    let m = c.in_ok-follow-in-Fork.ensures.arrived.0 in
    let st = steps_to (judged w) c.args.address c.unwrap-at.result c.in_ok-next.next (Fork c.in-Fork.s c.in-Fork.t) c.in-Fork.is c.in_ok-next.ensures in
    subst (λ (P : Program). Route P (places v) c.in-Fork.t.address c.unwrap-at.result.body c.in-Fork.t.depth) (sym m.is)
    (route_on (judged w) (places v) (came v) m.arrived.base c.args.address c.unwrap-at.result (m.arrived.grows c.args.address c.unwrap-at.result (sym c.place_at.ensures ∙ c.unwrap-at.ensures)) (c.in-Fork.s ∷ c.in-Fork.t ∷ []) c.in-Fork.t st (inr (inl refl)))

pub returns-in_ok-follow-in-Fork-clause-visited : goal.returns-in_ok-follow-in-Fork-clause-visited
returns-in_ok-follow-in-Fork-clause-visited c =
    let w = c.args.self.now in
    let v = c.follow-in-Fork.new.self in
    let u = c.follow-in-Fork-2.new.self in
    let m = c.in_ok-follow-in-Fork.ensures.arrived in
    let st = steps_to (judged w) c.args.address c.unwrap-at.result c.in_ok-next.next (Fork c.in-Fork.s c.in-Fork.t) c.in-Fork.is c.in_ok-next.ensures in
    MatchResult-weaker c.follow-in-Fork-2.result c.follow-in-Fork-2.ensures.arrived
    (λ x h. let g = moved_trans (judged w) w v u m.0 h.0 in (
      g,
      done_at (judged w) (places w) (places u) c.args.address c.unwrap-at.result (c.in-Fork.s ∷ c.in-Fork.t ∷ []) g.arrived.grows (sym c.place_at.ensures ∙ c.unwrap-at.ensures) st
          (holds_grow (places v) (places u) c.unwrap-at.result.body c.in-Fork.s h.0.arrived.grows m.1, (h.1, tt)),
    ))
    (λ y d. subst (λ (P : Program). Due P y.cause y.address) m.0.is d)

use Rattle.std.proofs.Common.{◌≡◌, ◌+◌, pos, sym, refl, ◌∙◌, inl, inr, arith, w32, w64, of_z, to_z, ◌+ℤ◌}
use Rattle.std.proofs.lemmas.Int.{to_z-of_z, ints}
use Rattle.plan.proofs.coded.Coded.call.Goals as goal

pub returns-then-from : goal.returns-then-from
returns-then-from c =
    let u = rw c.in_ok-v.ensures.ok_part at c.unit_at.ensures in
    inr (inl (refl, (u.0, c.in_ok-v.v, u.1, sym (to_z-of_z w32 c.args.start c.ranges.start) ∙ u.2, omega arith)))

pub returns : goal.returns
returns c =
    let u = rw c.in_ok-v.ensures.ok_part at c.unit_at.ensures in
    let z : to_z w64 (of_z w64 (to_z w64 (of_z w64 c.from-4.result) +ℤ pos 3)) ≡ pos (c.args.address + 3) = omega (arith, ints) in
    ((u.0, c.in_ok-v.v, record { listed = u.1; enters = sym (to_z-of_z w32 c.args.start c.ranges.start) ∙ u.2; deep = omega arith; under = omega arith; back = rw (z, c.from-5.ensures) }), (omega arith, tt))

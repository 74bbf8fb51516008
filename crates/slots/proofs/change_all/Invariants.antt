use Rattle.std.proofs.Common.{◌≡◌, take, drop}
use Rattle.std.specs.List.{AllZip}
use Rattle.slots.proofs.change_all.Given as goal

abbrev pub invariant-loop-x : goal.invariant-loop-x
invariant-loop-x g l =
    AllZip (λ x y. goal.F-post g l.change x y) (take l.x-index l.initial.elements) (take l.x-index l.elements)
    × (drop l.x-index l.elements ≡ drop l.x-index l.initial.elements)

-- The three laws together.
use Rattle.controller.specs.Law.{Laws}
use Rattle.controller.proofs.Back.{calling_law}
use Rattle.controller.proofs.Same.{alike_lives}
use Rattle.controller.proofs.Walks.{life_fine}

pub laws : Laws
laws P p law k new cs l e = let f = life_fine P p law k cs l new e in (f.told, calling_law P p law k new l f, alike_lives P k cs l new e)

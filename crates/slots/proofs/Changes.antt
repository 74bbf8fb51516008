-- What a list's elements show after `change_each`.
use Rattle.std.proofs.Common.{◌≡◌, List, [], ◌∷◌, map, refl, ap, ◌∙◌}
use Rattle.std.specs.List.{AllZip}

-- Where each new element shows to g what h makes of what the old one shows, so do the lists.
pub map_changed : {X M : Type 0} (R : X → X → Type 0) (g : X → M) (h : M → M) → ((x y : X) → R x y → g y ≡ h (g x)) → (xs ys : List X) → AllZip R xs ys → map g ys ≡ map h (map g xs)
map_changed R g h each [] [] z = refl
map_changed R g h each [] (y ∷ ys) z = absurd z
map_changed R g h each (x ∷ xs) [] z = absurd z
map_changed R g h each (x ∷ xs) (y ∷ ys) z = ap (λ m. m ∷ map g ys) (each x y z.0) ∙ ap (λ ms. h (g x) ∷ ms) (map_changed R g h each xs ys z.1)

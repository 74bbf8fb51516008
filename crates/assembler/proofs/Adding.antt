-- Names looked for among items, and one item more in a list.
use Rattle.std.proofs.Common.{◌≡◌, ℕ, ◌<◌, ◌≤◌, Bool, true, false, ◌||◌, List, [], ◌∷◌, ◌++◌, map, length, Ok, Err, IsErrAnd, Result, sym, refl, ap, ◌∙◌, MatchResult}
use Rattle.std.proofs.lemmas.List.{length-map, map_push}
use Rattle.std.specs.List.{list_any}
use Rattle.slots.specs.Items.{items, room}
use Rattle.slots.specs.declared.list.SlotList.{SlotList}
use Rattle.std.proofs.lemmas.Bool.{lt-ltb, le-ltb}
use Rattle.program.specs.Names.{same}
use Rattle.program.specs.declared.fault.AssemblyCause.{AssemblyCause}
use Rattle.program.specs.declared.fault.AssemblyCause.TheVariants.{ListFull}
use Rattle.assembler.specs.Marks.{has}
use Rattle.assembler.specs.Survey.{Step, adding, stop}

pub has_yes : (w v : List ℕ) (vs : List (List ℕ)) → same w v ≡ true → has w (v ∷ vs) ≡ true
has_yes w v vs e = rw (e, has) refl

pub has_no : (w v : List ℕ) (vs : List (List ℕ)) → same w v ≡ false → has w (v ∷ vs) ≡ has w vs
has_no w v vs e = rw (e, has) refl

-- is a word the name of an item?
pub has_any : {T : Type 0} (named : T → List ℕ) (w : List ℕ) (xs : List T) → list_any (λ x. same w (named x)) xs ≡ has w (map named xs)
has_any named w [] = refl
has_any named w (x ∷ xs) = go (same w (named x)) refl (has_any named w xs)
  where
    go : (b : Bool) → same w (named x) ≡ b → list_any (λ y. same w (named y)) xs ≡ has w (map named xs) → list_any (λ y. same w (named y)) (x ∷ xs) ≡ has w (named x ∷ map named xs)
    go true e ih = ap (λ b. b || list_any (λ y. same w (named y)) xs) e ∙ sym (has_yes w (named x) (map named xs) e)
    go false e ih = ap (λ b. b || list_any (λ y. same w (named y)) xs) e ∙ ih ∙ sym (has_no w (named x) (map named xs) e)

module _ {X : Type 0} (room : ℕ) (names : List (List ℕ)) (xs : List X) (w : List ℕ) (x : X) (on : List X → Step) where
  pub adding_full : false ≡ has w names → room ≤ length xs → adding room names xs w x on ≡ stop ListFull
  adding_full e h = rw (← e, le-ltb (length xs) room h) refl

  pub adding_new : (ys : List X) → false ≡ has w names → length xs < room → ys ≡ xs ++ x ∷ [] → adding room names xs w x on ≡ on ys
  adding_new ys e h f = rw (← e, lt-ltb (length xs) room h, f) refl

-- a list takes one more, or is full
pub pushed : {T : Type 0} (r : Result (Unit {0}) T) (s : Result (Unit {0}) AssemblyCause) (P : T → AssemblyCause → Type 0) (old new : SlotList T) (names : List (List ℕ)) (w : List ℕ) (x : T) → false ≡ has w names
    → MatchResult r (λ u. s ≡ Ok u) (λ y. IsErrAnd s (P y)) → ((y : T) (c : AssemblyCause) → P y c → c ≡ ListFull)
    → MatchResult r (λ _. (items new ≡ items old ++ x ∷ []) × (length (items old) < room old) × (room new ≡ room old)) (λ _. (room old ≤ length (items old)) × (new ≡ old))
    → MatchResult s (λ _. (on : List T → Step) → adding (room old) names (items old) w x on ≡ on (items new)) (λ c. (on : List T → Step) → adding (room old) names (items old) w x on ≡ stop c) × (room new ≡ room old)
pushed (Ok u) (Ok v) P old new names w x e m k p = (λ on. adding_new (room old) names (items old) w x on (items new) e p.1 p.0, p.2)
pushed (Ok u) (Err c) P old new names w x e m k p = absurd (no_ok u c m)
  where
    no_ok : (u : Unit {0}) (c : AssemblyCause) → Err c ≡ Ok u → ⊥
    no_ok u c q = cc
pushed (Err y) (Ok v) P old new names w x e m k p = absurd m
pushed (Err y) (Err c) P old new names w x e m k p = (λ on. adding_full (room old) names (items old) w x on e p.0 ∙ ap stop (sym (k y c m)), ap room p.1)

-- one more in a list of what items stand for
pub adding_map : {X Y : Type 0} (f : X → Y) (room : ℕ) (names : List (List ℕ)) (xs : List X) (w : List ℕ) (x : X) (on : List Y → Step) → adding room names (map f xs) w (f x) on ≡ adding room names xs w x (λ ys. on (map f ys))
adding_map f room names xs w x on = rw (length-map xs f, map_push f xs x) refl

-- the same, where names are those of what the items stand for
module _ {X Y : Type 0} (f : X → Y) (name : Y → List ℕ) (room : ℕ) (xs : List X) (w : List ℕ) (x : X) (y : Y) (e : f x ≡ y) where
  names_map : (zs : List X) → map name (map f zs) ≡ map (λ z. name (f z)) zs
  names_map [] = refl
  names_map (z ∷ zs) = ap (λ vs. name (f z) ∷ vs) (names_map zs)

  pub adding_as : (on : List Y → Step) → adding room (map name (map f xs)) (map f xs) w y on ≡ adding room (map (λ z. name (f z)) xs) xs w x (λ ys. on (map f ys))
  adding_as on =
      ap (λ v. adding room (map name (map f xs)) (map f xs) w v on) (sym e)
      ∙ ap (λ ns. adding room ns (map f xs) w (f x) on) (names_map xs)
      ∙ adding_map f room (map (λ z. name (f z)) xs) xs w x on

  pub added_as : (r : Result (Unit {0}) AssemblyCause) (ys : List X) → MatchResult r (λ _. (on : List X → Step) → adding room (map (λ z. name (f z)) xs) xs w x on ≡ on ys) (λ c. (on : List X → Step) → adding room (map (λ z. name (f z)) xs) xs w x on ≡ stop c)
      → MatchResult r (λ _. (on : List Y → Step) → adding room (map name (map f xs)) (map f xs) w y on ≡ on (map f ys)) (λ c. (on : List Y → Step) → adding room (map name (map f xs)) (map f xs) w y on ≡ stop c)
  added_as (Ok u) ys h = λ on. adding_as on ∙ h (λ ys. on (map f ys))
  added_as (Err c) ys h = λ on. adding_as on ∙ h (λ ys. on (map f ys))

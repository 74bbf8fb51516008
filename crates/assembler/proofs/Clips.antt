-- Cells put one after another, as far as there is room.
use Rattle.std.proofs.Common.{◌≡◌, ℕ, zero, suc, ◌+◌, ◌-◌, ◌<◌, List, [], ◌∷◌, ◌++◌, take, replicate, ℤ, sym, refl, ap, ◌∙◌, append_assoc, arith}
use Rattle.slots.specs.Items.{items, room}
use Rattle.slots.specs.declared.list.SlotList.{SlotList}
use Rattle.assembler.specs.Progress.{Kept, Puts, clipped}

-- the same slots
pub kept_same : {T : Type 0} (l : SlotList T) → Kept l l
kept_same l = record { room = refl; lender = refl }

pub kept_then : {T : Type 0} (a b c : SlotList T) → Kept a b → Kept b c → Kept a c
kept_then a b c p q = record { room = q.room ∙ p.room; lender = q.lender ∙ p.lender }

-- what is clipped once is clipped for good
clip_clip : (n : ℕ) (xs ys : List ℤ) → take n (take n xs ++ ys) ≡ take n (xs ++ ys)
clip_clip zero xs ys = refl
clip_clip (suc n) [] ys = refl
clip_clip (suc n) (x ∷ xs) ys = ap (λ zs. x ∷ zs) (clip_clip n xs ys)

-- what is still to be put
pub puts_left : (a b : SlotList ℤ) (xs ys : List ℤ) → Puts a b xs → clipped b ys ≡ clipped a (xs ++ ys)
puts_left a b xs ys p =
    ap (λ n. take n (items b ++ ys)) p.kept.room
    ∙ ap (λ zs. take (room a) (zs ++ ys)) p.cells
    ∙ clip_clip (room a) (items a ++ xs) ys
    ∙ ap (take (room a)) (append_assoc (items a) xs ys)

pub puts_then : (a b c : SlotList ℤ) (xs ys : List ℤ) → Puts a b xs → Puts b c ys → Puts a c (xs ++ ys)
puts_then a b c xs ys p q = record {
  cells = q.cells ∙ puts_left a b xs ys p;
  kept = kept_then a b c p.kept q.kept;
}

pub puts_as : (a b : SlotList ℤ) (xs ys : List ℤ) → xs ≡ ys → Puts a b xs → Puts a b ys
puts_as a b xs ys e p = record { cells = p.cells ∙ ap (clipped a) e; kept = p.kept }

-- the next of the cells that are left is put
pub left_more : (a b c : SlotList ℤ) (v w : ℤ) (vs ws xs : List ℤ) → clipped b vs ≡ clipped a xs → vs ≡ w ∷ ws → v ≡ w → Puts b c (v ∷ []) → clipped c ws ≡ clipped a xs
left_more a b c v w vs ws xs e f g p = puts_left b c (v ∷ []) ws p ∙ ap (λ x. clipped b (x ∷ ws)) g ∙ ap (clipped b) (sym f) ∙ e

pub replicate_next : (n i : ℕ) (v : ℤ) → i < n → replicate (n - i) v ≡ v ∷ replicate (n - (i + 1)) v
replicate_next n i v h =
    let e : n - i ≡ suc (n - (i + 1)) = omega arith in
    ap (λ k. replicate k v) e

-- the next of the cells that are left, more than one
pub left_then : (a b c : SlotList ℤ) (vs ws xs ys : List ℤ) → clipped b ws ≡ clipped a xs → ws ≡ vs ++ ys → Puts b c vs → clipped c ys ≡ clipped a xs
left_then a b c vs ws xs ys e f p = puts_left b c vs ys p ∙ ap (clipped b) (sym f) ∙ e

-- What lists leave in their slots, and what assemble leaves.
use Rattle.std.proofs.Common.{◌≡◌, ℕ, zero, suc, ◌+◌, ◌-◌, List, [], ◌∷◌, ◌++◌, map, length, take, replicate, ℤ, pos, Ok, Err, sym, refl, ap, ◌∙◌, subst, arith, length-append}
use Rattle.std.proofs.lemmas.List.{length-map, length-replicate, length-take-le, map-append}
use Rattle.program.specs.Records.{NoLabel, NoUnit}
use Rattle.program.specs.declared.assembled.Assembled.{Assembled}
use Rattle.program.specs.declared.fault.Fault.{Fault}
use Rattle.program.specs.declared.label.Label.{Label}
use Rattle.program.specs.declared.unit.Unit.{Unit as UnitRecord}
use Rattle.slots.specs.Items.{items, slots_of}
use Rattle.slots.specs.declared.list.SlotList.{SlotList}
use Rattle.assembler.specs.Assembly.{Assembly, program, unread, refusal}
use Rattle.assembler.specs.Builds.{Builds, Refuses}
use Rattle.assembler.specs.Handed.{Handed, Outcome, padded}
use Rattle.assembler.specs.Marks.{Mark, Entry, mark, entry, mark_of, entry_of, no_mark, no_entry}

map_replicate : {X Y : Type 0} (f : X → Y) (n : ℕ) (x : X) → map f (replicate n x) ≡ replicate n (f x)
map_replicate f zero x = refl
map_replicate f (suc n) x = ap (λ ys. f x ∷ ys) (map_replicate f n x)

module _ {X : Type 0} (l : SlotList X) (z : X) (m xs : List X) (n : ℕ) (e : m ≡ xs) (long : length m ≡ n) where
  items_long : length (items l) ≡ l.len
  items_long = length-take-le l.len (slots_of l) (omega arith)

  -- the elements, and a value in every slot that is left
  pub filled : xs ≡ items l ++ replicate (length (slots_of l) - l.len) z → m ≡ padded (items l) z n
  filled p =
      let i = items_long in
      let a : length m ≡ length (items l) + (length (slots_of l) - l.len) = ap length (e ∙ p) ∙ length-append (items l) (replicate (length (slots_of l) - l.len) z) ∙ ap (λ k. length (items l) + k) (length-replicate (length (slots_of l) - l.len) z) in
      let b : length (slots_of l) - l.len ≡ n - length (items l) = omega arith in
      e ∙ p ∙ ap (λ k. items l ++ replicate k z) b

  -- a value in every slot
  pub cleared : xs ≡ replicate (length (slots_of l)) z → m ≡ replicate n z
  cleared p =
      let a : length m ≡ length (slots_of l) = ap length (e ∙ p) ∙ length-replicate (length (slots_of l)) z in
      let b : length (slots_of l) ≡ n = omega arith in
      e ∙ p ∙ ap (λ k. replicate k z) b

  module _ {Y : Type 0} (f : X → Y) (y : Y) (none : f z ≡ y) where
    pub filled_as : xs ≡ items l ++ replicate (length (slots_of l) - l.len) z → map f m ≡ padded (map f (items l)) y n
    filled_as p =
        ap (map f) (filled p)
        ∙ map-append f (items l) (replicate (n - length (items l)) z)
        ∙ ap (λ ys. map f (items l) ++ ys) (map_replicate f (n - length (items l)) z ∙ ap (replicate (n - length (items l))) none)
        ∙ ap (λ k. map f (items l) ++ replicate (n - k) y) (sym (length-map (items l) f))

    pub cleared_as : xs ≡ replicate (length (slots_of l)) z → map f m ≡ replicate n y
    cleared_as p = ap (map f) (cleared p) ∙ map_replicate f n z ∙ ap (replicate n) none

-- empty records stand for nothing
pub no_mark_lem : (l : Label) → NoLabel l → mark_of l ≡ no_mark
no_mark_lem l h =
    ap (λ k. mark (take k l.name.bytes) l.section l.address) h.0.1
    ∙ ap (λ s. mark [] s l.address) h.1
    ∙ ap (λ a. mark [] no_mark.section a) h.2

pub no_entry_lem : (u : UnitRecord) → NoUnit u → entry_of u ≡ no_entry
no_entry_lem u h =
    ap (λ k. entry (take k u.name.bytes) u.entry u.arguments u.results) h.0.1
    ∙ ap (λ e. entry [] e u.arguments u.results) h.1
    ∙ ap (λ m. entry [] 0 m u.results) h.2
    ∙ ap (λ r. entry [] 0 0 r) h.3

-- a program that was built
pub built_outcome : (x y : Assembly) (a : Assembled) (cells : List ℤ) (ls : List Mark) (us : List Entry) (before after : Handed)
    → Builds (length before.memory) (Ok a) x cells ls us → x ≡ y
    → after.memory ≡ padded cells (pos 0) (length before.memory)
    → map mark_of after.labels ≡ padded ls no_mark (length before.labels)
    → map entry_of after.units ≡ padded us no_entry (length before.units)
    → Outcome (Ok a) y before after
built_outcome x y a cells ls us before after b e m l u = subst (λ (v : Assembly). Outcome (Ok a) v before after) e (go x b)
  where
    go : (v : Assembly) → Builds (length before.memory) (Ok a) v cells ls us → Outcome (Ok a) v before after
    go (program p) c = (
      c.0,
      record {
        memory = m ∙ sym c.1;
        labels = l ∙ ap (λ vs. padded vs no_mark (length before.labels)) c.2;
        units = u ∙ ap (λ vs. padded vs no_entry (length before.units)) c.3;
      },
    )
    go (unread d at) c = absurd c
    go (refusal d at) c = absurd c

-- texts that were refused
pub refused_outcome : (x y : Assembly) (f : Fault) (before after : Handed)
    → Refuses f x → x ≡ y
    → after.memory ≡ replicate (length before.memory) (pos 0)
    → map mark_of after.labels ≡ replicate (length before.labels) no_mark
    → map entry_of after.units ≡ replicate (length before.units) no_entry
    → Outcome (Err f) y before after
refused_outcome x y f before after b e m l u = subst (λ (v : Assembly). Outcome (Err f) v before after) e (go x b)
  where
    go : (v : Assembly) → Refuses f v → Outcome (Err f) v before after
    go (program p) c = absurd c
    go (unread d at) c = absurd c
    go (refusal d at) c = (c, record { memory = m; labels = l; units = u })

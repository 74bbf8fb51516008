-- What a list over slots holds.
use Rattle.std.specs.Prelude.{ℕ, List, take}
use Rattle.slots.specs.declared.list.SlotList.{SlotList}

module _ {T : Type 0} where
  -- every slot, used or not
  abbrev pub slots_of : SlotList T → List T
  slots_of l = l.slots.now

  -- the elements, in order
  abbrev pub items : SlotList T → List T
  items l = take l.len (slots_of l)

  -- how many elements it can hold
  abbrev pub room : SlotList T → ℕ
  room l = l.room

-- The limits of a program.
use Rattle.std.specs.Prelude.{◌+◌, ◌≤◌}
use Rattle.program.specs.declared.counts.Counts.{Counts}

-- from 16 to 65,536 cells, which hold code, data and heap; at most 512 labels and 64 units
pub record Lawful (c : Counts) : Type 0 where
  pub least : 16 ≤ c.cells
  pub most : c.cells ≤ 65536
  pub fits : c.code + c.«data» + c.heap ≤ c.cells
  pub labelled : c.labels ≤ 512
  pub united : c.units ≤ 64

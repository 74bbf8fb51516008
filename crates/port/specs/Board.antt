-- What the port on the board means.
use Rattle.std.specs.Prelude.{◌-◌, take}
use Rattle.port.specs.declared.board.BoardPort.{BoardPort}
use Rattle.port.specs.Meaning.{Meaning, meant}
use Rattle.port.specs.Ring.{queue, reading_at}

-- of 16 places and 64 bytes, those that are not used are free
abbrev pub on_board : BoardPort → Meaning
on_board b = meant (queue (reading_at b.readings) 16 b.ring.first b.ring.count) (take b.bytes.written b.bytes.memory) (16 - b.ring.count) (64 - b.bytes.written)

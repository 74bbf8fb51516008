-- Slots that hold nothing.
use Rattle.std.specs.Prelude.{◌≡◌, replicate}
use Rattle.program.specs.declared.name.Name.{Name}
use Rattle.program.specs.declared.label.Label.{Label}
use Rattle.program.specs.declared.unit.Unit.{Unit as UnitRecord}
use Rattle.program.specs.declared.section.Section.TheVariants.{Code}

-- 31 bytes of zero
abbrev pub no_name : Name → Type 0
no_name n = (n.bytes ≡ replicate 31 0) × (n.len ≡ 0)

-- every part of the record is zero
abbrev pub NoLabel : Label → Type 0
NoLabel l = no_name l.name × (l.section ≡ Code) × (l.address ≡ 0)

abbrev pub NoUnit : UnitRecord → Type 0
NoUnit u = no_name u.name × (u.entry ≡ 0) × (u.arguments ≡ 0) × (u.results ≡ 0)

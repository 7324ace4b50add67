use Rattle.std.proofs.Common.{take}
use Rattle.program_tables.specs.Kinds.{AreOfKinds}
use Rattle.program_tables.proofs.tables.Tables.new.Given as goal

abbrev pub invariant-loop-item : goal.invariant-loop-item
invariant-loop-item l = AreOfKinds (take l.item-index l.program.items.items) l.items.tasks l.items.spaces l.items.aliases

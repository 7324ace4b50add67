use Rattle.std.proofs.Common.{◌≡◌, take, map}
use Rattle.code_rules.specs.Slots.{slot_of_reach}
use Rattle.compile_types.specs.Here.{where_of}
use Rattle.compile_types.proofs.here.Here.slots_of_reaches.Given as goal

abbrev pub invariant-loop-reach : goal.invariant-loop-reach
invariant-loop-reach l = l.slots ≡ map (slot_of_reach (where_of l.self) l.own) (take l.reach-index l.reaches)

use Rattle.std.proofs.Common.{◌≡◌, take}
use Rattle.physical_instances.specs.Kept.{KeepsSpare, map_of}
use Rattle.physical_instances.proofs.Room.{HaveRoom}
use Rattle.physical_instances.proofs.contents.Contents.reserve.Given as goal

abbrev pub invariant-loop-part : goal.invariant-loop-part
invariant-loop-part l = record {
  map : map_of l.self ≡ map_of l.initial.self;
  spare : KeepsSpare l.initial.self l.self;
  room : HaveRoom l.parts l.initial.self l.self (take l.part-index l.parts);
}

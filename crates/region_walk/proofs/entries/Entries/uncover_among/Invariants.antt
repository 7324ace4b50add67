use Rattle.std.proofs.Common.{◌≡◌, drop, map}
use Rattle.region_walk.specs.Ranges.{uncovered_among}
use Rattle.region_walk.proofs.entries.Entries.uncover_among.Given as goal

abbrev pub invariant-loop-user : goal.invariant-loop-user
invariant-loop-user l =
    map (uncovered_among (drop l.user-index l.users) l.context.0 l.op.0 l.needs) l.self
    ≡ map (uncovered_among l.users l.context.0 l.op.0 l.needs) l.initial.self

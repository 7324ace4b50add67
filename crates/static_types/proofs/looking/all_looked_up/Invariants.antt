use Rattle.std.proofs.Common.{◌≡◌, take, map}
use Rattle.regent_tree.specs.StaticTypes.{looked_up}
use Rattle.static_types.proofs.looking.all_looked_up.Given as goal

abbrev pub invariant-loop-region : goal.invariant-loop-region
invariant-loop-region g l = l.reaches ≡ map (looked_up (g.L.Looking.looks l.look)) (take l.region-index l.regions)

use Rattle.std.proofs.Common.{◌≡◌, ◌++◌, drop}
use Rattle.board_terms.specs.Makes.{children_from}
use Rattle.board_gives.proofs.parting.children_of.Given as goal

abbrev pub invariant-loop-colour : goal.invariant-loop-colour
invariant-loop-colour l =
    l.children ++ children_from l.root l.partition.0 l.colour (drop l.colour l.sets) ≡ children_from l.root l.partition.0 0 l.sets

use Rattle.std.proofs.Common.{◌≡◌, ◌++◌, drop}
use Rattle.regent_tree.specs.Partitions.{each_with}
use Rattle.partitions.specs.Pairwise.{made_by}
use Rattle.partitions.proofs.pairwise.colour_by_colour.Given as goal

abbrev pub invariant-loop-colour : goal.invariant-loop-colour
invariant-loop-colour l =
    l.sets.items ++ each_with (made_by l.operation) (drop l.colour l.p) (drop l.colour l.q)
    ≡ each_with (made_by l.operation) l.p l.q

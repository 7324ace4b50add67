use Rattle.std.proofs.Common.{◌≡◌, ◌+◌, ◌≤◌, ◌++◌, ◌∷◌, vec_capacity, vec_len}
use Rattle.region_forest.specs.Standings.{child_standings}
use Rattle.region_forest.specs.declared.standing.Standing.TheVariants.{Partition}
use Rattle.region_forest.proofs.standings.add_standings.Given as goal

abbrev pub invariant-loop-colour : goal.invariant-loop-colour
invariant-loop-colour l = record {
  room : vec_len l.standings + l.colours ≤ vec_capacity l.standings + l.colour;
  items : l.standings.items ≡ l.fn.standings.items ++ Partition l.fn.region ∷ child_standings l.partition 0 l.colour;
}

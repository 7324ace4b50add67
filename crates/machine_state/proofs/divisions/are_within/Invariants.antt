use Rattle.std.proofs.Common.{◌≡◌, drop, map}
use Rattle.std.specs.List.{list_all}
use Rattle.plain_values.specs.Points.{within}
use Rattle.machine_terms.specs.declared.value.RegionValue.{RegionValue}
use Rattle.machine_state.proofs.divisions.are_within.Given as goal

abbrev pub invariant-loop-child : goal.invariant-loop-child
invariant-loop-child l =
    list_all (λ s. within s l.region.points) (map (λ (r : RegionValue). r.points) (drop l.child-index l.children))
    ≡ list_all (λ s. within s l.region.points) (map (λ (r : RegionValue). r.points) l.children)

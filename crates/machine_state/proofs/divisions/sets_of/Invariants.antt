use Rattle.std.proofs.Common.{◌≡◌, map, take}
use Rattle.machine_terms.specs.declared.value.RegionValue.{RegionValue}
use Rattle.machine_state.proofs.divisions.sets_of.Given as goal

abbrev pub invariant-loop-child : goal.invariant-loop-child
invariant-loop-child l =
    l.sets.items ≡ map (λ (r : RegionValue). r.points) (take l.child-index l.partition.children)

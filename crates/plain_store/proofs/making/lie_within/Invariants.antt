use Rattle.std.proofs.Common.{◌≡◌, drop}
use Rattle.std.specs.List.{list_all}
use Rattle.plain_values.specs.Points.{within}
use Rattle.plain_store.proofs.making.lie_within.Given as goal

abbrev pub invariant-loop-set : goal.invariant-loop-set
invariant-loop-set l = list_all (λ s. within s l.parent) (drop l.set-index l.sets)
    ≡ list_all (λ s. within s l.parent) l.sets

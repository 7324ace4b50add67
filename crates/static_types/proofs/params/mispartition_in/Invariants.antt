use Rattle.std.proofs.Common.{◌≡◌, drop}
use Rattle.check_rules.specs.rules.Partitions.{mispartition_in}
use Rattle.static_types.proofs.params.mispartition_in.Given as goal

abbrev pub invariant-loop-place : goal.invariant-loop-place
invariant-loop-place l = mispartition_in l.types (drop l.place l.params) (drop l.place l.args)
    ≡ mispartition_in l.types l.params l.args

use Rattle.std.proofs.Common.{◌≡◌, drop}
use Rattle.check_rules.specs.rules.Spaces.{differ_in}
use Rattle.static_types.proofs.params.differ_in.Given as goal

abbrev pub invariant-loop-place : goal.invariant-loop-place
invariant-loop-place l = differ_in l.types (drop l.place l.params) (drop l.place l.args)
    ≡ differ_in l.types l.params l.args

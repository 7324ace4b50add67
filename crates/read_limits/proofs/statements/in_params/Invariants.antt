use Rattle.std.proofs.Common.{◌≡◌, drop}
use Rattle.regent_tree.specs.Limits.{first_excess, parts_of_params}
use Rattle.read_limits.proofs.statements.in_params.Given as goal

abbrev pub invariant-loop-param : goal.invariant-loop-param
invariant-loop-param l =
    first_excess (parts_of_params (drop l.param-index l.params)) ≡ first_excess (parts_of_params l.params)

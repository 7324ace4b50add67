use Rattle.std.proofs.Common.{◌≡◌, drop}
use Rattle.check_rules.specs.rules.Spaces.{misfit_in}
use Rattle.static_types.proofs.params.misfit_in.Given as goal

abbrev pub invariant-loop-place : goal.invariant-loop-place
invariant-loop-place l = misfit_in l.types (drop l.place l.params) (drop l.place l.args)
    ≡ misfit_in l.types l.params l.args

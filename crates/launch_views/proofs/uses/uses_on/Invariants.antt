use Rattle.std.proofs.Common.{◌≡◌, take}
use Rattle.check_rules.specs.launches.Views.{uses_on}
use Rattle.launch_views.proofs.uses.uses_on.Given as goal

abbrev pub invariant-loop-right : goal.invariant-loop-right
invariant-loop-right l = l.uses ≡ uses_on (take l.right-index l.rights) l.place

use Rattle.std.proofs.Common.{◌≡◌, drop}
use Rattle.regent_tree.specs.Lookup.{has_param}
use Rattle.static_types.proofs.looking.has_param.Given as goal

abbrev pub invariant-loop-param : goal.invariant-loop-param
invariant-loop-param l = has_param (drop l.param-index l.params) l.name ≡ has_param l.params l.name

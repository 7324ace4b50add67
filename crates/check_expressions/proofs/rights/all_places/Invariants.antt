use Rattle.std.proofs.Common.{◌≡◌, take, map}
use Rattle.regent_tree.specs.StaticTypes.{place_in}
use Rattle.regent_tree.specs.declared.types.Param.{Param}
use Rattle.check_expressions.proofs.rights.all_places.Given as goal

abbrev pub invariant-loop-field : goal.invariant-loop-field
invariant-loop-field l = l.places.items ≡ map (λ (p : Param). place_in l.fields p.name) (take l.field-index l.fields)

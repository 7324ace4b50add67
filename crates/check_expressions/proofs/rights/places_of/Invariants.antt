use Rattle.std.proofs.Common.{◌≡◌, take, map}
use Rattle.std.specs.Prelude.{filter}
use Rattle.regent_tree.specs.Lookup.{has_param}
use Rattle.regent_tree.specs.StaticTypes.{place_in}
use Rattle.check_expressions.proofs.rights.places_of.Given as goal

abbrev pub invariant-loop-name : goal.invariant-loop-name
invariant-loop-name l = l.places.items ≡ map (place_in l.fields) (filter (has_param l.fields) (take l.name-index l.names))

-- Parameters and fields that are declared with the names of some parameters.
use Rattle.std.specs.Prelude.{List, map}
use Rattle.regent_tree.specs.declared.types.Param.{Param}
use Rattle.regent_tree.specs.declared.typing.Bound.{Bound}
use Rattle.check_rules.specs.scopes.Visits.{Declaration}

-- where these names are of the types that are written
abbrev pub declared_with : List Bound → List Param → List Declaration
declared_with names all =
    map (λ (p : Param). record { written = names; names = names; param = p }) all

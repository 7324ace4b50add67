-- The types that parameters say, in their order.
use Rattle.std.specs.Prelude.{List, [], suc, ℕ, ◌∷◌}
use Rattle.regent_tree.specs.StaticTypes.{among_params, type_said}
use Rattle.regent_tree.specs.Syntax.{Tree}
use Rattle.regent_tree.specs.declared.types.Param.{Param}
use Rattle.regent_tree.specs.declared.typing.Bound.{Bound}
use Rattle.regent_tree.specs.declared.typing.StaticType.{StaticType}
use Rattle.check_rules.specs.types.Params.{says_no_type, type_unless}

-- those of a list's parameters from a place on
abbrev pub said_from : Tree → List Param → ℕ → List Param → List StaticType
said_from tree all i [] = []
said_from tree all i (p ∷ ps) =
    type_said tree (among_params all) i p.term ∷ said_from tree all (suc i) ps

-- the same, but unknown where a term says no type among the list's names
abbrev pub beside_from : Tree → List Bound → List Param → ℕ → List Param → List StaticType
beside_from tree names all i [] = []
beside_from tree names all i (p ∷ ps) =
    type_unless (says_no_type tree names p.term) (type_said tree (among_params all) i p.term)
    ∷ beside_from tree names all (suc i) ps

-- The scope in which a task's body begins.
use Rattle.std.specs.Prelude.{List, [], length, ◌++◌, ◌∷◌}
use Rattle.regent_tree.specs.Lookup.{is_bound}
use Rattle.regent_tree.specs.Scopes.{Scope, known_of_clauses, known_of_params}
use Rattle.regent_tree.specs.Syntax.{TaskTree, Tree}
use Rattle.regent_tree.specs.declared.typing.Bound.{Bound}
use Rattle.check_rules.specs.rules.Clauses.{clauses_told}
use Rattle.check_rules.specs.types.Declarations.{params_bound}
use Rattle.check_rules.specs.types.Params.{type_unless}

-- of parameters that share a name, all but the first have an unknown type
abbrev pub known_once : List Bound → List Bound
known_once [] = []
known_once (b ∷ bs) =
    record b { static_type = type_unless (is_bound bs b.name) b.static_type } ∷ known_once bs

-- as in the meaning of programs, but that a parameter whose type or name has a breach has an unknown
-- type, and a clause with a breach tells nothing
abbrev pub body_scope : Tree → TaskTree → Scope
body_scope tree t = let names = known_once (params_bound tree t.params) in record {
  names = names;
  known = known_of_params names ++ known_of_clauses t.params (clauses_told tree t);
  next = length t.params;
}

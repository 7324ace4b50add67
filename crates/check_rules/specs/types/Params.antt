-- The names that a list of parameters binds; where a type says nothing, it is unknown.
use Rattle.std.specs.Prelude.{Bool, List, cond, get_or, map, reverse, ℕ, ◌||◌}
use Rattle.regent_tree.specs.Scopes.{bound_params}
use Rattle.regent_tree.specs.declared.typing.Bound.{Bound}
use Rattle.regent_tree.specs.declared.typing.StaticType.{StaticType}
use Rattle.regent_tree.specs.declared.typing.StaticType.TheVariants.{Unknown as unknown_type}
use Rattle.regent_tree.specs.Syntax.{Tree}
use Rattle.regent_tree.specs.declared.types.Param.{Param}
use Rattle.regent_tree.specs.declared.types.TypeTerm.{TypeTerm}
use Rattle.regent_tree.specs.declared.types.TypeTerm.TheVariants as typed
use Rattle.check_rules.specs.rules.Counts.{miscounts_in_type}
use Rattle.check_rules.specs.rules.Names.{unbound_name_in_type}

-- a name or a count in the type is wrong, so that it says no type
abbrev pub says_no_type : Tree → List Bound → TypeTerm → Bool
says_no_type tree names t = unbound_name_in_type tree names t || miscounts_in_type tree t

abbrev pub type_unless : Bool → StaticType → StaticType
type_unless flawed t = cond flawed unknown_type t

-- the type that a parameter of a list is declared with
abbrev pub term_at : List Param → ℕ → TypeTerm
term_at params i = get_or (map (λ (p : Param). p.term) params) i typed.Truth

-- the names of a list of parameters, where each flawed type is unknown
abbrev pub with_unknown : (TypeTerm → Bool) → List Param → List Bound → List Bound
with_unknown flawed params names = map (λ (b : Bound). record b {
  static_type = type_unless (flawed (term_at params b.number)) b.static_type;
}) names

-- the names of a list of parameters, as its types may use them
abbrev pub params_beside : Tree → List Param → List Bound
params_beside tree params = let names = bound_params tree params 0 params in
    with_unknown (says_no_type tree names) params names

-- the types of a list of parameters, in their order
abbrev pub types_in_order : List Bound → List StaticType
types_in_order names = map (λ (b : Bound). b.static_type) (reverse names)

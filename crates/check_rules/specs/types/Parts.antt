-- The parts of an expression, and expressions in lists.
use Rattle.std.specs.Prelude.{List, [], ◌++◌, ◌∷◌}
use Rattle.regent_tree.specs.Syntax.{Arms, Expression, Expressions, Links, Steps, a_link, access_expr, an_arm, an_expr, at_step, call_expr, cast_expr, chain_expr, convert_expr, field_step, is_null_expr, no_arm, no_expr, no_link, no_step, null_expr, number_expr, prefix_expr, space_expr, truth_expr}

-- an expression and all expressions in it
abbrev mutual
  pub subexpressions : Expression → List Expression
  subexpressions (number_expr z w) = number_expr z w ∷ []
  subexpressions (truth_expr b) = truth_expr b ∷ []
  subexpressions (chain_expr first rest) = chain_expr first rest ∷ subexpressions first ++ parts_of_links rest
  subexpressions (prefix_expr signs e) = prefix_expr signs e ∷ subexpressions e
  subexpressions (call_expr task args) = call_expr task args ∷ parts_of_args args
  subexpressions (access_expr n steps) = access_expr n steps ∷ parts_of_steps steps
  subexpressions (convert_expr t e) = convert_expr t e ∷ subexpressions e
  subexpressions (is_null_expr e) = is_null_expr e ∷ subexpressions e
  subexpressions (null_expr p) = null_expr p ∷ []
  subexpressions (cast_expr p e) = cast_expr p e ∷ subexpressions e
  subexpressions (space_expr k e) = space_expr k e ∷ subexpressions e

  pub parts_of_links : Links → List Expression
  parts_of_links no_link = []
  parts_of_links (a_link o e rest) = subexpressions e ++ parts_of_links rest

  pub parts_of_args : Expressions → List Expression
  parts_of_args no_expr = []
  parts_of_args (an_expr e es) = subexpressions e ++ parts_of_args es

  pub parts_of_steps : Steps → List Expression
  parts_of_steps no_step = []
  parts_of_steps (field_step f rest) = parts_of_steps rest
  parts_of_steps (at_step e rest) = subexpressions e ++ parts_of_steps rest

abbrev pub listed : Expressions → List Expression
listed no_expr = []
listed (an_expr e es) = e ∷ listed es

abbrev pub tests_of : Arms → List Expression
tests_of no_arm = []
tests_of (an_arm test body rest) = test ∷ tests_of rest

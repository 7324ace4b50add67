-- The plain tree that a program's own tree means, by cases.
use Rattle.std.specs.Prelude.{List, [], ◌∷◌}
use Rattle.regent_tree.specs.declared.expression.Expr.{Expr, Number, Truth, Chain', Prefix', Call', Access', Convert', IsNull', Null, Cast', Space', Row_of-Link, end_of-Link, more_of-Link, Row_of-Expr, end_of-Expr, more_of-Expr, Row_of-Step, end_of-Step, more_of-Step}
use Rattle.regent_tree.specs.declared.expression.Link.{Link}
use Rattle.regent_tree.specs.declared.expression.Step.{Step, Field, At}
use Rattle.regent_tree.specs.declared.statement.Init.{Init}
use Rattle.regent_tree.specs.declared.statement.Init.TheVariants as init
use Rattle.regent_tree.specs.Syntax.{Expression, number_expr, truth_expr, chain_expr, prefix_expr, call_expr, access_expr, convert_expr, is_null_expr, null_expr, cast_expr, space_expr, Links, no_link, a_link, Expressions, no_expr, an_expr, Steps, no_step, field_step, at_step, Initializer, region_initializer, equal_initializer, by_field_initializer, image_initializer, preimage_initializer, both_initializer, either_initializer, plain_initializer}

abbrev mutual
  pub expression_of : Expr → Expression
  expression_of (Number value width) = number_expr value width
  expression_of (Truth b) = truth_expr b
  expression_of (Chain' p first shape rest) = chain_expr (expression_of first) (links_of rest)
  expression_of (Prefix' signs p inner) = prefix_expr signs (expression_of inner)
  expression_of (Call' task shape args) = call_expr task (expressions_of args)
  expression_of (Access' name shape steps) = access_expr name (steps_of steps)
  expression_of (Convert' to p inner) = convert_expr to (expression_of inner)
  expression_of (IsNull' p inner) = is_null_expr (expression_of inner)
  expression_of (Null pointer) = null_expr pointer
  expression_of (Cast' pointer p inner) = cast_expr pointer (expression_of inner)
  expression_of (Space' kind p size) = space_expr kind (expression_of size)

  pub links_of : {m : _} → Row_of-Link m → Links
  links_of end_of-Link = no_link
  links_of (more_of-Link operator operand rest) =
      a_link operator (expression_of operand) (links_of rest)

  pub expressions_of : {m : _} → Row_of-Expr m → Expressions
  expressions_of end_of-Expr = no_expr
  expressions_of (more_of-Expr e rest) = an_expr (expression_of e) (expressions_of rest)

  pub steps_of : {m : _} → Row_of-Step m → Steps
  steps_of end_of-Step = no_step
  steps_of (more_of-Step (Field name) rest) = field_step name (steps_of rest)
  steps_of (more_of-Step (At e) rest) = at_step (expression_of e) (steps_of rest)

-- the same of the lists that code sees
abbrev pub links_in : List Link → Links
links_in [] = no_link
links_in (l ∷ ls) = a_link l.operator (expression_of l.operand) (links_in ls)

abbrev pub expressions_in : List Expr → Expressions
expressions_in [] = no_expr
expressions_in (e ∷ es) = an_expr (expression_of e) (expressions_in es)

abbrev pub step_before : Step → Steps → Steps
step_before (Field name) rest = field_step name rest
step_before (At e) rest = at_step (expression_of e) rest

abbrev pub steps_in : List Step → Steps
steps_in [] = no_step
steps_in (s ∷ ss) = step_before s (steps_in ss)

abbrev pub initializer_of : Init → Initializer
initializer_of (init.Region space fields) = region_initializer (expression_of space) fields
initializer_of (init.Equal region colours) = equal_initializer region (expression_of colours)
initializer_of (init.ByField region field colours) = by_field_initializer region field (expression_of colours)
initializer_of (init.Image parent partition region field) = image_initializer parent partition region field
initializer_of (init.Preimage parent partition region field) =
    preimage_initializer parent partition region field
initializer_of (init.Both p q) = both_initializer p q
initializer_of (init.Either p q) = either_initializer p q
initializer_of (init.Plain e) = plain_initializer (expression_of e)

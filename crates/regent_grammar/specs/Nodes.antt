-- Parts of the tree as they are read, in plain lists, and the nodes that they make.
use Rattle.std.specs.Prelude.{List, [], ◌∷◌, ◌++◌, Option, Some, None}
use Rattle.regent_tree.specs.declared.expression.Operator.{Operator}
use Rattle.regent_tree.specs.declared.expression.Sign.{Sign}
use Rattle.regent_tree.specs.Syntax.{Name, Expression, chain_expr, prefix_expr, Links, no_link, a_link, Expressions, no_expr, an_expr, Steps, no_step, field_step, at_step, Statement, Block, no_statement, then_statement, Arms, no_arm, an_arm, Otherwise, no_else, else_block}

-- an operator and the operand behind it
pub record Joined : Type 0 where
  pub operator : Operator
  pub operand : Expression

abbrev pub links_from : List Joined → Links
links_from [] = no_link
links_from (j ∷ js) = a_link j.operator j.operand (links_from js)

-- a chain with one member is that member
abbrev pub chain_of : Expression → List Joined → Expression
chain_of first [] = first
chain_of first (j ∷ js) = chain_expr first (links_from (j ∷ js))

-- without a sign there is no prefix
abbrev pub prefix_of : List Sign → Expression → Expression
prefix_of [] e = e
prefix_of (s ∷ ss) e = prefix_expr (s ∷ ss) e

abbrev pub expressions_from : List Expression → Expressions
expressions_from [] = no_expr
expressions_from (e ∷ es) = an_expr e (expressions_from es)

-- a step of an access
pub data Stepped : Type 0 where
  by_field : Name → Stepped
  by_place : Expression → Stepped

abbrev pub step_then : Stepped → Steps → Steps
step_then (by_field name) rest = field_step name rest
step_then (by_place e) rest = at_step e rest

abbrev pub steps_from : List Stepped → Steps
steps_from [] = no_step
steps_from (s ∷ ss) = step_then s (steps_from ss)

-- a name with the steps behind it
pub record Accessed : Type 0 where
  pub name : Name
  pub steps : Steps

abbrev pub block_from : List Statement → Block
block_from [] = no_statement
block_from (s ∷ ss) = then_statement s (block_from ss)

-- statements, and one that returns behind them
abbrev pub returning_from : List Statement → Option Statement → Block
returning_from ss None = block_from ss
returning_from ss (Some s) = block_from (ss ++ s ∷ [])

-- a test of an `if` with its block
pub record Armed : Type 0 where
  pub test : Expression
  pub body : Block

abbrev pub arms_from : List Armed → Arms
arms_from [] = no_arm
arms_from (a ∷ as') = an_arm a.test a.body (arms_from as')

abbrev pub otherwise_from : Option Block → Otherwise
otherwise_from None = no_else
otherwise_from (Some block) = else_block block

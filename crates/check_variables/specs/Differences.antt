-- Expressions that may be the difference of two partitions, or an element of a region.
use Rattle.std.specs.Prelude.{Bool, None, Option, Some, false, true}
use Rattle.regent_tree.specs.Syntax.{Expression, Links, Name, Steps, a_link, access_expr, at_step, chain_expr, no_link, no_step}
use Rattle.regent_tree.specs.declared.expression.Arithmetic.TheVariants.{Subtract}
use Rattle.regent_tree.specs.declared.expression.Operator.TheVariants.{Compute}
use Rattle.regent_tree.specs.declared.expression.Step.{At, Field, Step}

-- two bare names with one `-`
abbrev pub subtracted : Name → Name → Expression
subtracted p q =
    chain_expr (access_expr p no_step) (a_link (Compute Subtract) (access_expr q no_step) no_link)

-- the name that is all of an expression
abbrev pub name_alone : Expression → Option Name
name_alone (access_expr n no_step) = Some n
name_alone e = None

-- the name that is all of what is taken off
abbrev pub name_taken_off : Links → Option Name
name_taken_off (a_link (Compute Subtract) e no_link) = name_alone e
name_taken_off links = None

abbrev pub two_names : Option Name → Option Name → Option (Name × Name)
two_names (Some p) (Some q) = Some (p, q)
two_names p q = None

-- the names of an expression that is two bare names with one `-`
abbrev pub names_subtracted : Expression → Option (Name × Name)
names_subtracted (chain_expr first rest) = two_names (name_alone first) (name_taken_off rest)
names_subtracted e = None

-- one place is all that stands behind a name
abbrev pub is_place : Step → Bool
is_place (At e) = true
is_place (Field f) = false

abbrev pub is_one_place : Steps → Bool
is_one_place (at_step e no_step) = true
is_one_place steps = false

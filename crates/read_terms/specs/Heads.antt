-- What is left to read of a primary behind its head: the head's rule, with what was read in its place.
use Rattle.std.specs.Prelude.{ℕ, List}
use Rattle.regent_tree.specs.Syntax.{Expression, convert_expr, is_null_expr, cast_expr, space_expr}
use Rattle.regent_tree.specs.Plain.{expression_of}
use Rattle.regent_lex.specs.declared.tables.Mark.TheVariants as mark
use Rattle.regent_grammar.specs.Rules.{Sort, Rule, gives, ◌⊛◌, ◌⊳◌, ◌⊲◌}
use Rattle.regent_grammar.specs.Singles.{a_mark, arguments}
use Rattle.regent_grammar.specs.Expressions.{expression, access, steps, accessed, an_access, a_call}
use Rattle.read_terms.specs.declared.heads.Wrap.{Wrap}
use Rattle.read_terms.specs.declared.heads.Wrap.TheVariants.{Plain, Convert, IsNull, Cast, Space}
use Rattle.read_terms.specs.declared.heads.Head.{Head}
use Rattle.read_terms.specs.declared.heads.Head.TheVariants.{Whole, Call, Access, Wrapped}

-- what was read already
abbrev pub nothing : Rule Sort.unit
nothing = gives tt

-- an expression and the parenthesis behind it
abbrev pub closed : Rule Sort.expression
closed = nothing ⊳ expression ⊲ a_mark mark.Close

-- the steps behind the name of an access
abbrev pub behind_name : List ℕ → Rule Sort.accessed
behind_name name = gives (accessed name) ⊛ steps

-- an access as a value
abbrev pub access_value : Rule Sort.expression
access_value = gives an_access ⊛ access

-- what stands around the expression in parentheses
abbrev pub around : Wrap → Expression → Expression
around Plain e = e
around (Convert to) e = convert_expr to e
around IsNull e = is_null_expr e
around (Cast pointer) e = cast_expr pointer e
around (Space kind) e = space_expr kind e

abbrev pub rest_of_wrap : Wrap → Rule Sort.expression
rest_of_wrap Plain = closed
rest_of_wrap (Convert to) = gives (λ e. convert_expr to e) ⊛ closed
rest_of_wrap IsNull = gives (λ e. is_null_expr e) ⊛ (nothing ⊳ closed)
rest_of_wrap (Cast pointer) = gives (λ e. cast_expr pointer e) ⊛ closed
rest_of_wrap (Space kind) = gives (λ e. space_expr kind e) ⊛ closed

abbrev pub rest_of : Head → Rule Sort.expression
rest_of (Whole e) = gives (expression_of e)
rest_of (Call name) = gives (a_call name) ⊛ arguments expression
rest_of (Access name) = gives an_access ⊛ behind_name name
rest_of (Wrapped wrap) = rest_of_wrap wrap

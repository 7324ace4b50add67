-- Expressions.
use Rattle.std.specs.Prelude.{ℕ, Bool, true, false, ◌||◌, List, [], ◌∷◌, Option, Some, None, is_some}
use Rattle.regent_tree.specs.declared.expression.Arithmetic.TheVariants as arithmetic
use Rattle.regent_tree.specs.declared.expression.Comparison.TheVariants as comparison
use Rattle.regent_tree.specs.declared.expression.Operator.{Operator}
use Rattle.regent_tree.specs.declared.expression.Operator.TheVariants as operator
use Rattle.regent_tree.specs.declared.expression.Sign.{Sign}
use Rattle.regent_tree.specs.declared.expression.Sign.TheVariants as sign
use Rattle.regent_tree.specs.Syntax.{Expression, number_expr, truth_expr, call_expr, access_expr, convert_expr, is_null_expr, null_expr, cast_expr, space_expr}
use Rattle.regent_lex.specs.declared.tables.Mark.TheVariants as mark
use Rattle.regent_grammar.specs.declared.symbol.Symbol.{Symbol}
use Rattle.regent_grammar.specs.declared.symbol.Symbol.TheVariants as symbol
use Rattle.regent_lex.specs.declared.tables.Word.TheVariants as word
use Rattle.regent_grammar.specs.Nodes.{Joined, chain_of, prefix_of, expressions_from, Stepped, by_field, by_place, steps_from, Accessed}
use Rattle.regent_grammar.specs.Symbols.{comes, come, is_mark, is_word, is_name}
use Rattle.regent_grammar.specs.Rules.{Sort, Rule, gives, one, use', an_expression, when◌then◌else◌, many, ◌⊛◌, ◌⊳◌, ◌⊲◌}
use Rattle.regent_grammar.specs.Singles.{a_mark, a_word, name, in_parentheses, arguments}
use Rattle.regent_grammar.specs.Types.{kind, pointer, number, number_of}

unfoldable pub expression : Rule Sort.expression
expression = use' an_expression

-- ---- accesses

-- access = Name { `.` Name | `[` expr `]` }
unfoldable pub field_step : Rule Sort.step
field_step = gives (λ n. by_field n) ⊛ a_mark mark.Dot ⊳ name

unfoldable pub place_step : Rule Sort.step
place_step =
    gives (λ e. by_place e) ⊛ a_mark mark.OpenSquare ⊳ expression ⊲ a_mark mark.CloseSquare

unfoldable pub step : Rule Sort.step
step = when comes (is_mark mark.Dot) then field_step else place_step

abbrev pub begins_step : Symbol → Bool
begins_step s = is_mark mark.Dot s || is_mark mark.OpenSquare s

unfoldable pub steps : Rule (Sort.listed Sort.step)
steps = many (comes begins_step) step

abbrev pub accessed : List ℕ → List Stepped → Accessed
accessed name steps = record { name = name; steps = steps_from steps }

unfoldable pub access : Rule Sort.accessed
access = gives accessed ⊛ name ⊛ steps

-- ---- primaries

-- Number | `true` | `false`
abbrev pub literal_of : Symbol → Option Expression
literal_of (symbol.Number value width) = Some (number_expr value width)
literal_of (symbol.Word word.True) = Some (truth_expr true)
literal_of (symbol.Word word.False) = Some (truth_expr false)
literal_of _ = None

unfoldable pub literal : Rule Sort.expression
literal = one literal_of

-- Name `(` [ expr { `,` expr } ] `)`
abbrev pub a_call : List ℕ → List Expression → Expression
a_call name args = call_expr name (expressions_from args)

unfoldable pub call : Rule Sort.expression
call = gives a_call ⊛ name ⊛ arguments expression

-- number `(` expr `)` | `[` number `]` `(` expr `)`
unfoldable pub conversion : Rule Sort.expression
conversion = gives (λ n e. convert_expr n e) ⊛ number ⊛ in_parentheses expression

unfoldable pub bracketed_conversion : Rule Sort.expression
bracketed_conversion =
    gives (λ n e. convert_expr n e) ⊛ a_mark mark.OpenSquare ⊳ number ⊲ a_mark mark.CloseSquare
    ⊛ in_parentheses expression

-- `isnull` `(` expr `)`
unfoldable pub null_test : Rule Sort.expression
null_test = gives (λ w e. is_null_expr e) ⊛ a_word word.Isnull ⊛ in_parentheses expression

-- `null` `(` pointer `)`
unfoldable pub null_pointer : Rule Sort.expression
null_pointer = gives (λ p. null_expr p) ⊛ a_word word.Null ⊳ in_parentheses pointer

-- `dynamic_cast` `(` pointer `,` expr `)`
unfoldable pub cast : Rule Sort.expression
cast =
    gives (λ p e. cast_expr p e) ⊛ a_word word.DynamicCast ⊳ a_mark mark.Open ⊳ pointer
    ⊛ a_mark mark.Comma ⊳ expression ⊲ a_mark mark.Close

-- `ispace` `(` kind `,` expr `)`
unfoldable pub new_space : Rule Sort.expression
new_space =
    gives (λ k e. space_expr k e) ⊛ a_word word.Ispace ⊳ a_mark mark.Open ⊳ kind
    ⊛ a_mark mark.Comma ⊳ expression ⊲ a_mark mark.Close

-- An access that is read as a value.
abbrev pub an_access : Accessed → Expression
an_access a = access_expr a.name a.steps

abbrev pub is_literal : Symbol → Bool
is_literal s = is_some (literal_of s)

abbrev pub is_number : Symbol → Bool
is_number s = is_some (number_of s)

-- A name is a call where a parenthesis follows it.
unfoldable pub primary : Rule Sort.expression
primary =
    when comes is_literal then literal
    else when comes (is_mark mark.Open) then in_parentheses expression
    else when come (is_name ∷ is_mark mark.Open ∷ []) then call
    else when comes is_number then conversion
    else when comes (is_mark mark.OpenSquare) then bracketed_conversion
    else when comes (is_word word.Isnull) then null_test
    else when comes (is_word word.Null) then null_pointer
    else when comes (is_word word.DynamicCast) then cast
    else when comes (is_word word.Ispace) then new_space
    else gives an_access ⊛ access

-- ---- chains

-- prefix = { `-` | `not` } primary
abbrev pub sign_of : Symbol → Option Sign
sign_of (symbol.Mark mark.Minus) = Some sign.Minus
sign_of (symbol.Word word.Not) = Some sign.Not
sign_of _ = None

abbrev pub is_sign : Symbol → Bool
is_sign s = is_some (sign_of s)

unfoldable pub a_sign : Rule Sort.sign
a_sign = one sign_of

unfoldable pub prefix : Rule Sort.expression
prefix = gives prefix_of ⊛ many (comes is_sign) a_sign ⊛ primary

-- A member, and further ones behind operators: the longest chain, which groups to the left.
abbrev pub joined : Operator → Expression → Joined
joined operator operand = record { operator = operator; operand = operand }

abbrev pub is_operator : (Symbol → Option Operator) → Symbol → Bool
is_operator operator_of s = is_some (operator_of s)

unfoldable pub an_operator : (Symbol → Option Operator) → Rule Sort.operator
an_operator operator_of = one operator_of

unfoldable pub link : (Symbol → Option Operator) → Rule Sort.expression → Rule Sort.joined
link operator_of member = gives joined ⊛ an_operator operator_of ⊛ member

unfoldable pub chain : (Symbol → Option Operator) → Rule Sort.expression → Rule Sort.expression
chain operator_of member =
    gives chain_of ⊛ member ⊛ many (comes (is_operator operator_of)) (link operator_of member)

-- product = prefix { ( `*` | `/` | `%` ) prefix }
abbrev pub product_operator : Symbol → Option Operator
product_operator (symbol.Mark mark.Star) = Some (operator.Compute arithmetic.Multiply)
product_operator (symbol.Mark mark.Slash) = Some (operator.Compute arithmetic.Divide)
product_operator (symbol.Mark mark.Percent) = Some (operator.Compute arithmetic.Remainder)
product_operator _ = None

unfoldable pub product : Rule Sort.expression
product = chain product_operator prefix

-- sum = product { ( `+` | `-` ) product }
abbrev pub sum_operator : Symbol → Option Operator
sum_operator (symbol.Mark mark.Plus) = Some (operator.Compute arithmetic.Add)
sum_operator (symbol.Mark mark.Minus) = Some (operator.Compute arithmetic.Subtract)
sum_operator _ = None

unfoldable pub sum : Rule Sort.expression
sum = chain sum_operator product

-- compare = sum { ( `==` | `~=` | `<` | `<=` | `>` | `>=` ) sum }
abbrev pub compare_operator : Symbol → Option Operator
compare_operator (symbol.Mark mark.Equal) = Some (operator.Compare comparison.Equal)
compare_operator (symbol.Mark mark.NotEqual) = Some (operator.Compare comparison.NotEqual)
compare_operator (symbol.Mark mark.Less) = Some (operator.Compare comparison.Less)
compare_operator (symbol.Mark mark.AtMost) = Some (operator.Compare comparison.AtMost)
compare_operator (symbol.Mark mark.Greater) = Some (operator.Compare comparison.Greater)
compare_operator (symbol.Mark mark.AtLeast) = Some (operator.Compare comparison.AtLeast)
compare_operator _ = None

unfoldable pub compare : Rule Sort.expression
compare = chain compare_operator sum

-- and = compare { `and` compare }
abbrev pub and_operator : Symbol → Option Operator
and_operator (symbol.Word word.And) = Some operator.And
and_operator _ = None

unfoldable pub conjunction : Rule Sort.expression
conjunction = chain and_operator compare

-- expr = and { `or` and }
abbrev pub or_operator : Symbol → Option Operator
or_operator (symbol.Word word.Or) = Some operator.Or
or_operator _ = None

unfoldable pub disjunction : Rule Sort.expression
disjunction = chain or_operator conjunction

-- Each production of expressions writes: a prefix has a sign, and a chain a link.
use Rattle.std.proofs.Common.{◌≡◌, List, [], ◌∷◌, Option, Some, None, ap, refl, subst}
use Rattle.regent_tree.specs.declared.expression.Operator.{Operator}
use Rattle.regent_tree.specs.declared.expression.Sign.{Sign}
use Rattle.regent_tree.specs.Syntax.{Expression}
use Rattle.regent_lex.specs.declared.tables.Mark.TheVariants as mark
use Rattle.regent_lex.specs.declared.tables.Word.TheVariants as word
use Rattle.regent_grammar.specs.declared.symbol.Symbol.{Symbol}
use Rattle.regent_grammar.specs.declared.symbol.Symbol.TheVariants as symbol
use Rattle.regent_grammar.specs.Expressions as expr
use Rattle.regent_grammar.specs.Nodes.{Joined, Stepped, by_field, by_place, chain_of, expressions_from, links_from, prefix_of, steps_from}
use Rattle.regent_grammar.specs.Rules.{Rule, Sort, an_expression}
use Rattle.regent_grammar.specs.Types as type
use Rattle.expression_laws.specs.Writing.{AreLinked, AreStepped, AreWritten, IsWritten}
use Rattle.written_trees.proofs.Writings.{Written, Writes, arguments', in_parentheses', mark', maybe_listed', name', separated', word', write_gives, write_many, write_one, write_use, write_when, ◌⊛'◌, ◌⊲'◌, ◌⊳'◌}

-- ---- lists

pub arguments_written : (es : List Expression) → Written (Sort.listed Sort.expression) es → AreWritten (expressions_from es)
arguments_written [] h = tt
arguments_written (e ∷ es) h = (h.0, arguments_written es h.1)

links_written : (js : List Joined) → Written (Sort.listed Sort.joined) js → AreLinked (links_from js)
links_written [] h = tt
links_written (j ∷ js) h = (h.0, links_written js h.1)

steps_written : (ss : List Stepped) → Written (Sort.listed Sort.step) ss → AreStepped (steps_from ss)
steps_written [] h = tt
steps_written (by_field name ∷ ss) h = steps_written ss h.1
steps_written (by_place e ∷ ss) h = (h.0, steps_written ss h.1)

-- ---- types

pub kind' : Writes Sort.kind type.kind
unfolding type.kind
kind' = write_one (λ u x e. tt)

pub reference' : Writes Sort.reference type.reference
unfolding type.reference
reference' = write_one (λ u x e. tt)

pub space_use' : Writes Sort.space_use type.space_use
unfolding type.space_use
space_use' = write_gives (λ x h y k. tt) ⊛' name' ⊛' maybe_listed' reference'

pub pointer' : Writes Sort.pointer type.pointer
unfolding type.pointer
pointer' = write_gives (λ x h y k z l. tt) ⊛' kind' ⊛' mark' mark.Open ⊳' space_use' ⊛' mark' mark.Comma ⊳' separated' reference' ⊲' mark' mark.Close

pub number' : Writes Sort.number type.number
unfolding type.number
number' = write_one (λ u x e. tt)

-- ---- accesses

pub expression' : Writes Sort.expression expr.expression
unfolding expr.expression
expression' = write_use {n = an_expression}

field_step' : Writes Sort.step expr.field_step
unfolding expr.field_step
field_step' = write_gives (λ x h. tt) ⊛' mark' mark.Dot ⊳' name'

place_step' : Writes Sort.step expr.place_step
unfolding expr.place_step
place_step' = write_gives (λ e h. h) ⊛' mark' mark.OpenSquare ⊳' expression' ⊲' mark' mark.CloseSquare

steps' : Writes (Sort.listed Sort.step) expr.steps
unfolding expr.steps expr.step
steps' = write_many (write_when field_step' place_step')

pub access' : Writes Sort.accessed expr.access
unfolding expr.access
access' = write_gives (λ x h ss k. steps_written ss k) ⊛' name' ⊛' steps'

-- ---- primaries

pub some_is : {A : Type 0} {x y : A} → Some x ≡ Some y → x ≡ y
some_is {A} {x} {y} h = ap (value_in x) h
  where
    value_in : A → Option A → A
    value_in x None = x
    value_in x (Some y) = y

literal_written : (u : Symbol) (x : Expression) → expr.literal_of u ≡ Some x → IsWritten x
literal_written (symbol.Number v w) x e = subst IsWritten (some_is e) tt
literal_written (symbol.Word word.True) x e = subst IsWritten (some_is e) tt
literal_written (symbol.Word word.False) x e = subst IsWritten (some_is e) tt
literal_written _ x e = absurd cc

literal' : Writes Sort.expression expr.literal
unfolding expr.literal
literal' = write_one literal_written

call' : Writes Sort.expression expr.call
unfolding expr.call
call' = write_gives (λ x h es k. arguments_written es k) ⊛' name' ⊛' arguments' expression'

conversion' : Writes Sort.expression expr.conversion
unfolding expr.conversion
conversion' = write_gives (λ x h e k. k) ⊛' number' ⊛' in_parentheses' expression'

bracketed_conversion' : Writes Sort.expression expr.bracketed_conversion
unfolding expr.bracketed_conversion
bracketed_conversion' = write_gives (λ x h e k. k) ⊛' mark' mark.OpenSquare ⊳' number' ⊲' mark' mark.CloseSquare ⊛' in_parentheses' expression'

null_test' : Writes Sort.expression expr.null_test
unfolding expr.null_test
null_test' = write_gives (λ x h e k. k) ⊛' word' word.Isnull ⊛' in_parentheses' expression'

null_pointer' : Writes Sort.expression expr.null_pointer
unfolding expr.null_pointer
null_pointer' = write_gives (λ x h. tt) ⊛' word' word.Null ⊳' in_parentheses' pointer'

cast' : Writes Sort.expression expr.cast
unfolding expr.cast
cast' = write_gives (λ x h e k. k) ⊛' word' word.DynamicCast ⊳' mark' mark.Open ⊳' pointer' ⊛' mark' mark.Comma ⊳' expression' ⊲' mark' mark.Close

new_space' : Writes Sort.expression expr.new_space
unfolding expr.new_space
new_space' = write_gives (λ x h e k. k) ⊛' word' word.Ispace ⊳' mark' mark.Open ⊳' kind' ⊛' mark' mark.Comma ⊳' expression' ⊲' mark' mark.Close

primary' : Writes Sort.expression expr.primary
unfolding expr.primary
primary' =
    write_when literal' (write_when (in_parentheses' expression') (write_when call'
    (write_when conversion' (write_when bracketed_conversion' (write_when null_test'
    (write_when null_pointer' (write_when cast' (write_when new_space'
    (write_gives (λ a h. h) ⊛' access')))))))))

-- ---- prefixes and chains

prefix_written : (ss : List Sign) (e : Expression) → IsWritten e → IsWritten (prefix_of ss e)
prefix_written [] e h = h
prefix_written (s ∷ ss) e h = h

prefix' : Writes Sort.expression expr.prefix
unfolding expr.prefix expr.a_sign
prefix' = write_gives (λ ss h e k. prefix_written ss e k) ⊛' write_many (write_one (λ u x e. tt)) ⊛' primary'

chain_written : (e : Expression) (js : List Joined) → IsWritten e → Written (Sort.listed Sort.joined) js → IsWritten (chain_of e js)
chain_written e [] h k = h
chain_written e (j ∷ js) h k = (h, links_written (j ∷ js) k, refl)

chain' : (table : Symbol → Option Operator) {member : Rule Sort.expression} → Writes Sort.expression member → Writes Sort.expression (expr.chain table member)
unfolding expr.chain expr.link expr.an_operator
chain' table member =
    write_gives (λ e h js k. chain_written e js h k) ⊛' member
    ⊛' write_many (write_gives (λ o h e k. k) ⊛' write_one (λ u x e. tt) ⊛' member)

pub disjunction' : Writes Sort.expression expr.disjunction
unfolding expr.disjunction expr.conjunction expr.compare expr.sum expr.product
disjunction' =
    chain' expr.or_operator (chain' expr.and_operator (chain' expr.compare_operator
    (chain' expr.sum_operator (chain' expr.product_operator prefix'))))

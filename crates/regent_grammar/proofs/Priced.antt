-- Each production is priced.
use Rattle.std.proofs.Common.{◌≡◌, ℕ, suc, ◌+◌, ◌≤◌, List, [], ◌∷◌, ◌++◌, Option, Some, None, length, ap, subst, arith}
use Rattle.regent_tree.specs.declared.expression.Operator.{Operator}
use Rattle.regent_tree.specs.declared.expression.Sign.{Sign}
use Rattle.regent_tree.specs.Syntax.{Expression}
use Rattle.regent_tree.specs.Limits.{node, nodes, parts_of_expression, parts_of_links, parts_of_expressions, parts_of_steps}
use Rattle.regent_lex.specs.declared.tables.Mark.TheVariants as mark
use Rattle.regent_grammar.specs.declared.symbol.Symbol.{Symbol}
use Rattle.regent_grammar.specs.declared.symbol.Symbol.TheVariants as symbol
use Rattle.regent_lex.specs.declared.tables.Word.TheVariants as word
use Rattle.regent_grammar.specs.Nodes.{Joined, chain_of, prefix_of, links_from, expressions_from}
use Rattle.regent_grammar.specs.Rules.{Sort, an_expression, Rule}
use Rattle.regent_grammar.specs.Nodes.{steps_from}
use Rattle.regent_grammar.specs.Types as type
use Rattle.regent_grammar.specs.Expressions as expr
use Rattle.regent_grammar.specs.Laws.{NumberFits}
use Rattle.regent_grammar.proofs.Sizes.{counts_more, references_counted, Size, Keeps, keeps_more, keeps_node, keeps_append, expressions_kept, links_kept, steps_kept, signs_kept}
use Rattle.regent_grammar.proofs.Prices.{Priced, price_gives, price_one, price_when, price_many, price_use, ◌⊛'◌, ◌⊳'◌, ◌⊲'◌, mark', word', name', separated', in_parentheses', maybe_listed', arguments'}

-- ---- types

pub kind' : Priced Sort.kind type.kind
unfolding type.kind
kind' = price_one (λ u x e h. omega arith)

pub reference' : Priced Sort.reference type.reference
unfolding type.reference
reference' = price_one (λ u x e h. omega arith)

pub space_use' : Priced Sort.space_use type.space_use
unfolding type.space_use
space_use' = price_gives (λ x n h y m k. tt) ⊛' name' ⊛' maybe_listed' reference'

pub pointer' : Priced Sort.pointer type.pointer
unfolding type.pointer
pointer' =
    price_gives (λ x n h y m k z j l. let c = references_counted z j l in (omega arith, omega arith)) ⊛' kind' ⊛' mark' mark.Open ⊳' space_use'
    ⊛' mark' mark.Comma ⊳' separated' reference' ⊲' mark' mark.Close

pub number' : Priced Sort.number type.number
unfolding type.number
number' = price_one (λ u x e h. omega arith)

-- ---- expressions

pub expression' : Priced Sort.expression expr.expression
unfolding expr.expression
expression' = price_use {n = an_expression}

pub field_step' : Priced Sort.step expr.field_step
unfolding expr.field_step
field_step' = price_gives (λ x n h. (omega arith, (tt, tt), tt)) ⊛' mark' mark.Dot ⊳' name'

pub place_step' : Priced Sort.step expr.place_step
unfolding expr.place_step
place_step' =
    price_gives (λ e n h. keeps_node 1 0 (parts_of_expression e) n (0 + n) h (omega arith) (omega arith))
    ⊛' mark' mark.OpenSquare ⊳' expression' ⊲' mark' mark.CloseSquare

pub steps' : Priced (Sort.listed Sort.step) expr.steps
unfolding expr.steps expr.step
steps' = price_many (price_when field_step' place_step')

pub access' : Priced Sort.accessed expr.access
unfolding expr.access
access' =
    price_gives (λ x n h ss m k. let two : 2 ≤ n = h in
    let p = steps_kept ss m k in let l = p.0 in
    (omega arith, p.1, counts_more (parts_of_steps (steps_from ss)) m (0 + n + m) p.2 (omega arith)))
    ⊛' name' ⊛' steps'

some_is : {A : Type 0} {x y : A} → Some x ≡ Some y → x ≡ y
some_is {A} {x} {y} h = ap (value_in x) h
  where
    value_in : A → Option A → A
    value_in x None = x
    value_in x (Some y) = y

literal_price : (u : Symbol) (x : Expression) → expr.literal_of u ≡ Some x → NumberFits u →
    Size Sort.expression x 2
literal_price (symbol.Number v w) x e h =
    subst (λ y. Size Sort.expression y 2) (some_is e) (omega arith, (tt, (h, tt)), tt)
literal_price (symbol.Word word.True) x e h =
    subst (λ y. Size Sort.expression y 2) (some_is e) (omega arith, (tt, tt), tt)
literal_price (symbol.Word word.False) x e h =
    subst (λ y. Size Sort.expression y 2) (some_is e) (omega arith, (tt, tt), tt)
literal_price _ x e h = absurd cc

pub literal' : Priced Sort.expression expr.literal
unfolding expr.literal
literal' = price_one literal_price

-- what a node costs over a list of arguments
node_of_args : (es : List Expression) (n m k : ℕ) → 2 ≤ n →
    Size (Sort.listed Sort.expression) es m → n + m ≤ k →
    Keeps 1 (node ∷ parts_of_expressions (expressions_from es)) k
node_of_args es n m k two h l =
    keeps_node 0 1 (parts_of_expressions (expressions_from es)) m k (expressions_kept es m h)
    (omega arith) (omega arith)

pub call' : Priced Sort.expression expr.call
unfolding expr.call
call' =
    price_gives (λ x n h es m k. node_of_args es n m (0 + n + m) h k (omega arith)) ⊛' name'
    ⊛' arguments' expression'

-- a node over one expression, behind something that has paid for it
node_over : (e : Expression) (n m k : ℕ) → 2 ≤ n → Size Sort.expression e m → n + m ≤ k →
    Keeps 1 (node ∷ parts_of_expression e) k
node_over e n m k two h l = keeps_node 1 1 (parts_of_expression e) m k h (omega arith) (omega arith)

pub conversion' : Priced Sort.expression expr.conversion
unfolding expr.conversion
conversion' =
    price_gives (λ x n h e m k. node_over e n m (0 + n + m) h k (omega arith)) ⊛' number'
    ⊛' in_parentheses' expression'

pub bracketed_conversion' : Priced Sort.expression expr.bracketed_conversion
unfolding expr.bracketed_conversion
bracketed_conversion' =
    price_gives (λ x n h e m k. node_over e n m (0 + n + m) h k (omega arith))
    ⊛' mark' mark.OpenSquare ⊳' number' ⊲' mark' mark.CloseSquare ⊛' in_parentheses' expression'

pub null_test' : Priced Sort.expression expr.null_test
unfolding expr.null_test
null_test' =
    price_gives (λ x n h e m k. node_over e n m (0 + n + m) h k (omega arith)) ⊛' word' word.Isnull
    ⊛' in_parentheses' expression'

pub null_pointer' : Priced Sort.expression expr.null_pointer
unfolding expr.null_pointer
null_pointer' =
    price_gives (λ x n h. let two = h.0 in let c = h.1 in (omega arith, (tt, (tt, tt)), (omega arith, tt))) ⊛' word' word.Null ⊳' in_parentheses' pointer'

pub cast' : Priced Sort.expression expr.cast
unfolding expr.cast
cast' =
    price_gives (λ x n h e m k. let p = node_over e n m (0 + n + m) h.0 k (omega arith) in let c = h.1 in
    (p.0, (tt, (tt, k.1)), (omega arith, p.2)))
    ⊛' word' word.DynamicCast ⊳' mark' mark.Open ⊳' pointer'
    ⊛' mark' mark.Comma ⊳' expression' ⊲' mark' mark.Close

pub new_space' : Priced Sort.expression expr.new_space
unfolding expr.new_space
new_space' =
    price_gives (λ x n h e m k. node_over e n m (0 + n + m) h k (omega arith))
    ⊛' word' word.Ispace ⊳' mark' mark.Open ⊳' kind'
    ⊛' mark' mark.Comma ⊳' expression' ⊲' mark' mark.Close

pub primary' : Priced Sort.expression expr.primary
unfolding expr.primary
primary' =
    price_when literal' (price_when (in_parentheses' expression') (price_when call'
    (price_when conversion' (price_when bracketed_conversion' (price_when null_test'
    (price_when null_pointer' (price_when cast' (price_when new_space'
    (price_gives (λ a n h. keeps_node 2 1 (parts_of_steps a.steps) n (0 + n) h (omega arith) (omega arith)) ⊛' access')))))))))

prefix_price : (ss : List Sign) (n : ℕ) (e : Expression) (m : ℕ) → Size (Sort.listed Sort.sign) ss n →
    Size Sort.expression e m → Size Sort.expression (prefix_of ss e) (0 + n + m)
prefix_price [] n e m h k = keeps_more 1 (parts_of_expression e) m (0 + n + m) k (omega arith)
prefix_price (s ∷ ss) n e m h k =
    keeps_node (suc (suc (length ss))) 1 (nodes (s ∷ ss) ++ parts_of_expression e) (n + m) (0 + n + m)
    (keeps_append (suc (length ss)) 1 (suc (suc (length ss))) (nodes (s ∷ ss)) (parts_of_expression e) n m (n + m)
    (signs_kept (s ∷ ss) n h) k (omega arith) (omega arith))
    (omega arith) (omega arith)

pub prefix' : Priced Sort.expression expr.prefix
unfolding expr.prefix expr.a_sign
prefix' =
    price_gives (λ ss n h e m k. prefix_price ss n e m h k)
    ⊛' price_many (price_one (λ u x e h. omega arith)) ⊛' primary'

chain_price : (e : Expression) (n : ℕ) (js : List Joined) (m : ℕ) → Size Sort.expression e n →
    Size (Sort.listed Sort.joined) js m → Size Sort.expression (chain_of e js) (0 + n + m)
chain_price e n [] m h k = keeps_more 1 (parts_of_expression e) n (0 + n + m) h (omega arith)
chain_price e n (j ∷ js) m h k =
    keeps_node (suc (suc (length js))) 1 (parts_of_expression e ++ parts_of_links (links_from (j ∷ js))) (n + m) (0 + n + m)
    (keeps_append 1 (suc (length js)) (suc (suc (length js))) (parts_of_expression e) (parts_of_links (links_from (j ∷ js))) n m (n + m)
    h (links_kept (j ∷ js) m k) (omega arith) (omega arith))
    (omega arith) (omega arith)

pub chain' : (table : Symbol → Option Operator) {member : Rule Sort.expression} →
    Priced Sort.expression member → Priced Sort.expression (expr.chain table member)
unfolding expr.chain expr.link expr.an_operator
chain' table member =
    price_gives (λ e n h js m k. chain_price e n js m h k) ⊛' member
    ⊛' price_many (price_gives (λ o n h e m k. keeps_more 1 (parts_of_expression e) m (0 + n + m) k (omega arith))
    ⊛' price_one (λ u x e h. tt) ⊛' member)

pub disjunction' : Priced Sort.expression expr.disjunction
unfolding expr.disjunction expr.conjunction expr.compare expr.sum expr.product
disjunction' =
    chain' expr.or_operator (chain' expr.and_operator (chain' expr.compare_operator
    (chain' expr.sum_operator (chain' expr.product_operator prefix'))))

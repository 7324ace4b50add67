-- Each production of statements and items is priced.
use Rattle.std.proofs.Common.{◌≡◌, ℕ, suc, ◌+◌, ◌≤◌, List, [], ◌∷◌, ◌++◌, Option, Some, None, length, ap, subst, arith}
use Rattle.regent_tree.specs.declared.types.Param.{Param}
use Rattle.regent_tree.specs.declared.types.TypeTerm.{TypeTerm}
use Rattle.regent_tree.specs.declared.types.Kind.{Kind}
use Rattle.regent_tree.specs.declared.types.SpaceUse.{SpaceUse}
use Rattle.regent_tree.specs.Limits.{parts_of_term}
use Rattle.regent_tree.specs.Syntax.{Expression, Initializer, Block}
use Rattle.regent_tree.specs.Limits.{Part, node, nodes, parts_of_expression, parts_of_expressions, parts_of_steps, parts_of_init, parts_of_value, parts_of_form, parts_of_block, parts_of_arms, parts_of_otherwise, parts_of_params, parts_of_type, parts_of_item}
use Rattle.regent_lex.specs.declared.tables.Mark.TheVariants as mark
use Rattle.regent_grammar.specs.declared.symbol.Symbol.{Symbol}
use Rattle.regent_grammar.specs.declared.symbol.Symbol.TheVariants as symbol
use Rattle.regent_lex.specs.declared.tables.Word.TheVariants as word
use Rattle.regent_grammar.specs.Nodes.{expressions_from, returning_from, Armed, arms_from, otherwise_from}
use Rattle.std.specs.Prelude.{codes}
use Rattle.regent_grammar.specs.Rules.{Sort, Value, an_expression, a_block}
use Rattle.regent_grammar.specs.Singles as single
use Rattle.regent_grammar.specs.Types as type
use Rattle.regent_grammar.specs.Statements as stmt
use Rattle.regent_grammar.specs.Items as item
use Rattle.regent_grammar.specs.Laws.{NumberFits}
use Rattle.regent_grammar.proofs.Sizes.{counts_more, params_counted, Size, Keeps, keeps_more, keeps_node, keeps_append, expressions_kept, names_kept, returning_kept, arms_kept, otherwise_kept, type_kept, params_kept}
use Rattle.regent_grammar.proofs.Prices.{Priced, price_gives, price_here, price_one, price_when, price_many, price_use, NamedPriced, ◌⊛'◌, ◌⊳'◌, ◌⊲'◌, maybe', mark', word', named', cons', the_text', name', text', separated', in_parentheses', maybe_listed', arguments'}
use Rattle.regent_grammar.proofs.Priced.{kind', space_use', pointer', number', expression', access', disjunction'}

pub block' : Priced Sort.block stmt.block
unfolding stmt.block
block' = price_use {n = a_block}

-- ---- types

region_price : (k : Option Kind) (u : SpaceUse) (n : ℕ) → Size Sort.type_term (type.a_region k u) n
region_price None u n = (omega arith, tt, tt)
region_price (Some k) u n = (omega arith, tt, tt)

pub type_term' : Priced Sort.type_term type.type_term
unfolding type.type_term type.index_space type.region_type type.region_kind type.partition_type type.disjointness
type_term' =
    price_when (price_gives (λ x n h. let c = h.1 in (omega arith, (tt, tt), (omega arith, tt))) ⊛' pointer')
    (price_when (word' word.Bool ⊳' price_gives (omega arith, tt, tt))
    (price_when (price_gives (λ x n h. (omega arith, tt, tt)) ⊛' (word' word.Ispace ⊳' in_parentheses' kind'))
    (price_when
    (price_gives (λ x n h y m k. region_price x y (0 + n + m))
    ⊛' word' word.Region ⊳' mark' mark.Open
    ⊳' maybe' (word' word.Ispace ⊳' in_parentheses' kind' ⊲' mark' mark.Comma)
    ⊛' space_use' ⊲' mark' mark.Close)
    (price_when
    (price_gives (λ x n h y m k z j l. (omega arith, tt, tt))
    ⊛' word' word.Partition ⊳' mark' mark.Open ⊳' price_one (λ u x e h. tt)
    ⊛' mark' mark.Comma ⊳' name' ⊛' maybe' (mark' mark.Comma ⊳' name') ⊲' mark' mark.Close)
    (price_gives (λ x n h. (omega arith, tt, tt)) ⊛' number')))))

pub parameter' : Priced Sort.parameter type.parameter
unfolding type.parameter
parameter' =
    price_gives (λ x n h y m k t j l. let two : 2 ≤ m = k in (omega arith, keeps_more 0 (parts_of_term t) j (0 + n + m + j) l (omega arith))) ⊛' price_here ⊛' name' ⊛' mark' mark.Colon ⊳' type_term'

-- ---- initializers

-- an expression alone
expression_kept : (e : Expression) (m k : ℕ) → Size Sort.expression e m → m ≤ k → Keeps 0 (parts_of_expression e) k
expression_kept e m k h l = let p = h.0 in (omega arith, h.1, counts_more (parts_of_expression e) m k h.2 l)

pub initializer' : Priced Sort.initializer stmt.initializer
unfolding stmt.initializer stmt.new_region stmt.equal_partition stmt.field_partition stmt.mapped_partition stmt.mapping stmt.both_partitions stmt.either_partition
initializer' =
    price_when
    (price_gives (λ e n h s m k. expression_kept e n (0 + n + m) h (omega arith))
    ⊛' word' word.Region ⊳' mark' mark.Open ⊳' expression'
    ⊛' mark' mark.Comma ⊳' space_use' ⊲' mark' mark.Close)
    (price_when
    (price_gives (λ r n h e m k. expression_kept e m (0 + n + m) k (omega arith))
    ⊛' word' word.Partition ⊳' mark' mark.Open ⊳' word' word.Equal ⊳' mark' mark.Comma ⊳' name'
    ⊛' mark' mark.Comma ⊳' expression' ⊲' mark' mark.Close)
    (price_when
    (price_gives (λ r n h f m k e j l. expression_kept e j (0 + n + m + j) l (omega arith))
    ⊛' word' word.Partition ⊳' mark' mark.Open ⊳' name' ⊛' mark' mark.Dot ⊳' name'
    ⊛' mark' mark.Comma ⊳' expression' ⊲' mark' mark.Close)
    (price_when
    (price_one mapping_price ⊛' mark' mark.Open ⊳' name' ⊛' mark' mark.Comma ⊳' name'
    ⊛' mark' mark.Comma ⊳' name' ⊛' mark' mark.Dot ⊳' name' ⊲' mark' mark.Close)
    (price_when
    (price_gives (λ x n h y m k. (omega arith, tt, tt)) ⊛' name' ⊛' mark' mark.Ampersand ⊳' name')
    (price_when
    (price_gives (λ x n h y m k. (omega arith, tt, tt)) ⊛' name' ⊛' mark' mark.Bar ⊳' name')
    (price_gives (λ e n h. expression_kept e n (0 + n) h (omega arith)) ⊛' expression'))))))
  where
    some_is : {A : Type 0} {x y : A} → Some x ≡ Some y → x ≡ y
    some_is {A} {x} {y} h = ap (value_in x) h
      where
        value_in : A → Option A → A
        value_in x None = x
        value_in x (Some y) = y

    mapping_price : (u : Symbol) (x : Value stmt.Mapping) → stmt.mapping_of u ≡ Some x → NumberFits u → Size stmt.Mapping x 2
    mapping_price (symbol.Word word.Image) x e h =
        subst (λ y. Size stmt.Mapping y 2) (some_is e) (λ s n p q m k r j l f i o. (omega arith, tt, tt))
    mapping_price (symbol.Word word.Preimage) x e h =
        subst (λ y. Size stmt.Mapping y 2) (some_is e) (λ s n p q m k r j l f i o. (omega arith, tt, tt))
    mapping_price _ x e h = absurd cc

-- ---- statements of one line

init_kept : (i : Option Initializer) (n : ℕ) → Size (Sort.optional Sort.initializer) i n → Keeps 0 (parts_of_init i) n
init_kept None n h = (omega arith, tt, tt)
init_kept (Some s) n h = h

-- the node of a statement, paid by a name or another terminal before what is kept
stated : (ps : List Part) (n m k : ℕ) → 2 ≤ n → Keeps 0 ps m → n + m ≤ k → Keeps 1 ps k
stated ps n m k two h l = let p = h.0 in (omega arith, h.1, counts_more ps m k h.2 (omega arith))

pub variable' : Priced Sort.form stmt.variable
unfolding stmt.variable
variable' =
    price_gives (λ x n h t m k i j l.
    stated (parts_of_type t ++ parts_of_init i) n (m + j) (0 + n + m + j) h
    (keeps_append 0 0 0 (parts_of_type t) (parts_of_init i) m j (m + j) (type_kept t m k) (init_kept i j l) (omega arith) (omega arith))
    (omega arith))
    ⊛' word' word.Var ⊳' name' ⊛' maybe' (mark' mark.Colon ⊳' type_term')
    ⊛' maybe' (mark' mark.Assign ⊳' initializer')

names' : Priced Sort.names single.names
unfolding single.names
names' = price_gives (λ x n h xs m k. names_kept (x ∷ xs) (0 + n + m) (n, m, h, k, omega arith)) ⊛' name' ⊛' price_many (mark' mark.Comma ⊳' name')

pub fields' : Priced Sort.names stmt.fields
unfolding stmt.fields
fields' =
    price_when (mark' mark.OpenBrace ⊳' names' ⊲' mark' mark.CloseBrace)
    (price_gives (λ x n h. names_kept (x ∷ []) (0 + n) (n, 0, h, tt, omega arith)) ⊛' name')

pub filling' : Priced Sort.form stmt.filling
unfolding stmt.filling
filling' =
    price_gives (λ r n h fs m k e j l.
    stated (nodes fs ++ parts_of_expression e) n (m + j) (0 + n + m + j) h
    (keeps_append 0 1 0 (nodes fs) (parts_of_expression e) m j (m + j) k l (omega arith) (omega arith))
    (omega arith))
    ⊛' word' word.Fill ⊳' mark' mark.Open ⊳' name'
    ⊛' mark' mark.Dot ⊳' fields' ⊛' mark' mark.Comma ⊳' expression' ⊲' mark' mark.Close

pub assertion' : Priced Sort.form stmt.assertion
unfolding stmt.assertion
assertion' =
    price_gives (λ e n h. keeps_more 1 (parts_of_expression e) n (0 + n) h (omega arith))
    ⊛' word' word.Regentlib ⊳' mark' mark.Dot ⊳' named' (codes "assert") ⊳' mark' mark.Open
    ⊳' expression' ⊲' maybe' (mark' mark.Comma ⊳' text') ⊲' mark' mark.Close

pub further_arguments' : Priced (Sort.listed Sort.expression) stmt.further_arguments
unfolding stmt.further_arguments
further_arguments' = price_many (mark' mark.Comma ⊳' expression')

print_format' : Priced Sort.bytes stmt.print_format
unfolding stmt.print_format
print_format' = mark' mark.Dot ⊳' named' (codes "printf") ⊳' mark' mark.Open ⊳' text'

print_arguments' : Priced (Sort.listed Sort.expression) stmt.print_arguments
unfolding stmt.print_arguments
print_arguments' = further_arguments' ⊲' mark' mark.Close

pub printing' : Priced Sort.form stmt.printing
unfolding stmt.printing
printing' =
    price_gives (λ f n h es m k.
    stated (parts_of_expressions (expressions_from es)) n m (0 + n + m) h (expressions_kept es m k) (omega arith))
    ⊛' word' word.Regentlib ⊳' mark' mark.Dot ⊳' named' (codes "c") ⊳' print_format'
    ⊛' print_arguments'

pub printing_by' : Priced Sort.form stmt.printing_by
unfolding stmt.printing_by
printing_by' =
    price_gives (λ a n h f i g es m k.
    stated (parts_of_expressions (expressions_from es)) n m (0 + n + i + m) h (expressions_kept es m k) (omega arith))
    ⊛' name' ⊛' print_format' ⊛' print_arguments'

pub task_call' : Priced Sort.form stmt.task_call
unfolding stmt.task_call
task_call' =
    price_gives (λ x n h es m k.
    stated (parts_of_expressions (expressions_from es)) n m (0 + n + m) h (expressions_kept es m k) (omega arith))
    ⊛' name' ⊛' arguments' expression'

pub assignment' : Priced Sort.form stmt.assignment
unfolding stmt.assignment stmt.assign stmt.assign_sign stmt.extremum
assignment' =
    price_gives (λ a n h w m k e j l.
    keeps_append 2 1 1 (parts_of_steps a.steps) (parts_of_expression e) n j (0 + n + m + j) h l (omega arith) (omega arith))
    ⊛' access'
    ⊛' price_when (price_one (λ u x e h. tt) ⊲' mark' mark.Assign) (price_one (λ u x e h. tt))
    ⊛' expression'

-- ---- statements with blocks

pub body' : Priced Sort.block stmt.body
unfolding stmt.body
body' = word' word.Do ⊳' block' ⊲' word' word.End

pub plain_block' : Priced Sort.form stmt.plain_block
unfolding stmt.plain_block
plain_block' =
    price_gives (λ x n h b m k. stated (parts_of_block b) n m (0 + n + m) h k (omega arith))
    ⊛' word' word.Do ⊛' block' ⊲' word' word.End

pub while_loop' : Priced Sort.form stmt.while_loop
unfolding stmt.while_loop
while_loop' =
    price_gives (λ e n h b m k.
    keeps_append 1 0 1 (parts_of_expression e) (parts_of_block b) n m (0 + n + m) h k (omega arith) (omega arith))
    ⊛' word' word.While ⊳' expression' ⊛' body'

pub arm' : Priced Sort.arm stmt.arm
unfolding stmt.arm
arm' =
    price_gives (λ e n h b m k.
    keeps_append 1 0 1 (parts_of_expression e) (parts_of_block b) n m (0 + n + m) h k (omega arith) (omega arith))
    ⊛' expression' ⊛' word' word.Then ⊳' block'

conditional_price : (a : Armed) (n : ℕ) (bs : List Armed) (m : ℕ) (o : Option Block) (j : ℕ) →
    Size Sort.arm a n → Size (Sort.listed Sort.arm) bs m → Size (Sort.optional Sort.block) o j →
    Size Sort.form (stmt.a_conditional a bs o) (0 + n + m + j)
conditional_price a n bs m o j h k l =
    let arms = arms_kept (a ∷ bs) (n + m) (n, m, h, k, omega arith) in
    keeps_append (suc (length bs)) 0 1 (parts_of_arms (arms_from (a ∷ bs))) (parts_of_otherwise (otherwise_from o)) (n + m) j (0 + n + m + j) arms
    (otherwise_kept o j l) (omega arith) (omega arith)

pub conditional' : Priced Sort.form stmt.conditional
unfolding stmt.conditional
conditional' =
    price_gives (λ a n h bs m k o j l. conditional_price a n bs m o j h k l)
    ⊛' word' word.If ⊳' arm' ⊛' price_many (word' word.Elseif ⊳' arm')
    ⊛' maybe' (word' word.Else ⊳' block') ⊲' word' word.End

pub loop_in' : Priced stmt.Demandable stmt.loop_in
unfolding stmt.loop_in
loop_in' =
    price_gives (λ x n h e m k b j l d i g.
    keeps_append 1 0 1 (parts_of_expression e) (parts_of_block b) m j (0 + n + m + j + i) k l (omega arith) (omega arith))
    ⊛' word' word.For ⊳' name' ⊛' word' word.In ⊳' expression' ⊛' body'

pub loop_to' : Priced stmt.Demandable stmt.loop_to
unfolding stmt.loop_to
loop_to' =
    price_gives (λ x n h e m k f j l b i g d o z.
    keeps_append 1 0 1 (parts_of_expression e) (parts_of_expression f ++ parts_of_block b) m (j + i) (0 + n + m + j + i + o) k
    (keeps_append 1 0 0 (parts_of_expression f) (parts_of_block b) j i (j + i) l g (omega arith) (omega arith))
    (omega arith) (omega arith))
    ⊛' word' word.For ⊳' name' ⊛' mark' mark.Assign ⊳' expression'
    ⊛' mark' mark.Comma ⊳' expression' ⊛' body'

pub demandable_loop' : Priced Sort.form stmt.demandable_loop
unfolding stmt.demandable_loop stmt.for_loop stmt.demand
demandable_loop' =
    price_gives (λ d n h loop m k. keeps_more 1 (parts_of_form (loop d)) (m + n) (0 + n + m) (k d n h) (omega arith))
    ⊛' price_when (word' word.Demand ⊳' in_parentheses' (word' word.IndexLaunch) ⊳' price_gives tt) (price_gives tt)
    ⊛' price_when loop_in' loop_to'

-- ---- blocks

pub form' : Priced Sort.form stmt.form
unfolding stmt.form
form' =
    price_when variable' (price_when conditional' (price_when while_loop' (price_when demandable_loop'
    (price_when plain_block' (price_when filling' (price_when assertion' (price_when printing'
    (price_when printing_by' (price_when task_call' assignment')))))))))

pub statement' : Priced Sort.statement stmt.statement
unfolding stmt.statement
statement' =
    price_gives (λ line n h f m k. keeps_node 1 0 (parts_of_form f) m (0 + n + m) k (omega arith) (omega arith))
    ⊛' price_here ⊛' form'

pub maybe_semicolon' : Priced (Sort.optional Sort.unit) stmt.maybe_semicolon
unfolding stmt.maybe_semicolon
maybe_semicolon' = maybe' (mark' mark.Semicolon)

return_price : (o : Option Expression) (n m k : ℕ) → 2 ≤ n → Size (Sort.optional Sort.expression) o m → n + m ≤ k →
    Keeps 0 (node ∷ parts_of_value o) k
return_price None n m k two h l = (omega arith, (tt, tt), tt)
return_price (Some e) n m k two h l = keeps_node 1 0 (parts_of_expression e) m k h (omega arith) (omega arith)

pub return_statement' : Priced Sort.statement stmt.return_statement
unfolding stmt.return_statement stmt.return_value
return_statement' =
    price_gives (λ line i g w n h o m k. return_price o n m (0 + i + n + m) h k (omega arith))
    ⊛' price_here ⊛' word' word.Return
    ⊛' price_when (price_gives tt)
    (price_gives (λ e n h. keeps_more 1 (parts_of_expression e) n (0 + n) h (omega arith)) ⊛' expression')

pub statements' : Priced Sort.block stmt.statements
unfolding stmt.statements
statements' =
    price_gives (λ ss n h o m k.
    keeps_more 0 (parts_of_block (returning_from ss o)) (n + m) (0 + n + m) (returning_kept ss o n m h k) (omega arith))
    ⊛' price_many (statement' ⊲' maybe_semicolon')
    ⊛' maybe' (return_statement' ⊲' maybe_semicolon')

pub named_priced : NamedPriced
named_priced an_expression = disjunction'
named_priced a_block = statements'

-- ---- items

space_price : (x : List ℕ) (ps : List Param) (fs : List Param) (n m j k : ℕ) → 2 ≤ n →
    Size (Sort.listed Sort.parameter) ps m → Size (Sort.listed Sort.parameter) fs j → n + m + j ≤ k →
    Size Sort.item_form (item.a_field_space x ps fs) k
space_price x ps fs n m j k two h g l =
    let p = keeps_append 0 0 0 (parts_of_params ps) (parts_of_params fs) m j k (params_kept ps m h) (params_kept fs j g) (omega arith) (omega arith) in
    let a = params_counted ps m h in let b = params_counted fs j g in
    (omega arith, (p.0, (tt, (tt, p.1)), (omega arith, (omega arith, p.2))))

separator' : Priced Sort.unit item.separator
unfolding item.separator
separator' = price_one (λ u x e h. omega arith)

pub field_space' : Priced Sort.item_form item.field_space
unfolding item.field_space item.some_fields
field_space' =
    price_gives (λ x n h ps m k fs j l. space_price x ps fs n m j (0 + n + m + j) h k l (omega arith))
    ⊛' word' word.Fspace ⊳' name' ⊛' maybe_listed' parameter'
    ⊛' mark' mark.OpenBrace
    ⊳' price_when (price_gives tt)
    (cons' ⊛' parameter' ⊛' price_many (separator' ⊳' parameter') ⊲' maybe' separator')
    ⊲' mark' mark.CloseBrace

pub grant' : Priced Sort.grant item.grant
unfolding item.grant item.operation item.reading_or_writing
grant' =
    price_when (price_gives (λ o n h. tt) ⊛' word' word.Reduces ⊳' price_one (λ u x e h. tt))
    (price_one (λ u x e h. tt))

pub clause' : Priced Sort.clause item.clause
unfolding item.clause item.privileges item.place item.within item.apart
clause' =
    price_when
    (price_gives (λ g n h gs m k ps j l. tt) ⊛' grant' ⊛' price_many grant'
    ⊛' in_parentheses' (separated' (price_gives (λ x n h fs m k. tt) ⊛' name' ⊛' maybe' (mark' mark.Dot ⊳' fields'))))
    (price_when
    (price_gives (λ a n h b m k. tt) ⊛' name' ⊛' mark' mark.AtMost ⊳' name')
    (price_gives (λ a n h b m k. tt) ⊛' name' ⊛' mark' mark.Star ⊳' name'))

task_price : (x : List ℕ) (ps : List Param) (t : Option TypeTerm) (cs : _) (b : Block) (n m j d k : ℕ) → 2 ≤ n →
    Size (Sort.listed Sort.parameter) ps m → Size (Sort.optional Sort.type_term) t j → Size Sort.block b d →
    n + m + j + d ≤ k → Size Sort.item_form (item.a_task x ps t cs b) k
task_price x ps t cs b n m j d k two h g f l =
    let body = keeps_append 0 0 0 (parts_of_type t) (parts_of_block b) j d (j + d) (type_kept t j g) f (omega arith) (omega arith) in
    let p = keeps_append 0 0 0 (parts_of_params ps) (parts_of_type t ++ parts_of_block b) m (j + d) k (params_kept ps m h) body (omega arith) (omega arith) in
    let a = params_counted ps m h in
    (omega arith, (p.0, (tt, p.1), (omega arith, p.2)))

pub task' : Priced Sort.item_form item.task
unfolding item.task item.clauses
task' =
    price_gives (λ x n h ps m k t j l cs i g b d f. task_price x ps t cs b n m j d (0 + n + m + j + i + d) h k l f (omega arith))
    ⊛' word' word.Task ⊳' name' ⊛' arguments' parameter'
    ⊛' maybe' (mark' mark.Colon ⊳' type_term')
    ⊛' price_when (word' word.Where ⊳' separated' clause' ⊲' word' word.Do) (price_gives tt)
    ⊛' block' ⊲' word' word.End

pub item_form' : Priced Sort.item_form item.item_form
unfolding item.item_form item.the_import item.alias item.start_call
item_form' =
    price_when (price_gives (λ x n h. let two : 2 ≤ n = h in (omega arith, (omega arith, tt, tt))) ⊛' word' word.Import ⊲' the_text' (codes "regent"))
    (price_when
    (price_gives (λ x n h. let two : 2 ≤ n = h in (omega arith, (omega arith, tt, tt))) ⊛' word' word.Local ⊳' name' ⊲' mark' mark.Assign
    ⊲' word' word.Regentlib ⊲' mark' mark.Dot ⊲' named' (codes "c"))
    (price_when field_space' (price_when task'
    (price_gives (λ x n h. let two : 2 ≤ n = h in (omega arith, (omega arith, tt, tt)))
    ⊛' word' word.Regentlib ⊳' mark' mark.Dot ⊳' named' (codes "start") ⊳' in_parentheses' name'))))

pub item' : Priced Sort.item item.item
unfolding item.item
item' =
    price_gives (λ line n h f m k. let two = k.0 in (omega arith, keeps_more 0 (parts_of_item f) m (0 + n + m) k.1 (omega arith)))
    ⊛' price_here ⊛' item_form'

pub program' : Priced (Sort.listed Sort.item) item.program
unfolding item.program
program' = cons' ⊛' item' ⊛' price_many item'

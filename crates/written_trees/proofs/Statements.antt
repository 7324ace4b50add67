-- Each production of statements and items writes.
use Rattle.std.proofs.Common.{◌≡◌, List, [], ◌∷◌, ◌++◌, Option, Some, None, refl, subst}
use Rattle.std.specs.Prelude.{codes}
use Rattle.regent_tree.specs.declared.types.TypeTerm.{TypeTerm}
use Rattle.regent_tree.specs.Syntax.{Block, Expression, Initializer, Name, Statement, a_statement, return_form, var_form}
use Rattle.regent_lex.specs.declared.tables.Mark.TheVariants as mark
use Rattle.regent_lex.specs.declared.tables.Word.TheVariants as word
use Rattle.regent_grammar.specs.declared.symbol.Symbol.{Symbol}
use Rattle.regent_grammar.specs.declared.symbol.Symbol.TheVariants as symbol
use Rattle.regent_grammar.specs.Items as item
use Rattle.regent_grammar.specs.Nodes.{Armed, arms_from, block_from, otherwise_from, returning_from}
use Rattle.regent_grammar.specs.Rules.{Sort, Value, a_block, an_expression}
use Rattle.regent_grammar.specs.Singles as single
use Rattle.regent_grammar.specs.Statements as stmt
use Rattle.regent_grammar.specs.Types as type
use Rattle.expression_laws.specs.WrittenStatements.{AreWrittenArms, IsWrittenBlock, IsWrittenElse, IsWrittenForm}
use Rattle.written_trees.proofs.Expressions.{access', arguments_written, disjunction', expression', kind', number', pointer', some_is, space_use'}
use Rattle.written_trees.proofs.Writings.{AllWrite, Writes, Written, arguments', cons', in_parentheses', mark', maybe', maybe_listed', name', named', separated', text', the_text', word', write_gives, write_here, write_many, write_one, write_use, write_when, ◌⊛'◌, ◌⊲'◌, ◌⊳'◌}

block' : Writes Sort.block stmt.block
unfolding stmt.block
block' = write_use {n = a_block}

-- ---- types

type_term' : Writes Sort.type_term type.type_term
unfolding type.type_term type.index_space type.region_type type.region_kind type.partition_type type.disjointness
type_term' =
    write_when (write_gives (λ x h. tt) ⊛' pointer')
    (write_when (word' word.Bool ⊳' write_gives tt)
    (write_when (write_gives (λ x h. tt) ⊛' (word' word.Ispace ⊳' in_parentheses' kind'))
    (write_when
    (write_gives (λ x h y k. tt)
    ⊛' word' word.Region ⊳' mark' mark.Open
    ⊳' maybe' (word' word.Ispace ⊳' in_parentheses' kind' ⊲' mark' mark.Comma)
    ⊛' space_use' ⊲' mark' mark.Close)
    (write_when
    (write_gives (λ x h y k z l. tt)
    ⊛' word' word.Partition ⊳' mark' mark.Open ⊳' write_one (λ u x e. tt)
    ⊛' mark' mark.Comma ⊳' name' ⊛' maybe' (mark' mark.Comma ⊳' name') ⊲' mark' mark.Close)
    (write_gives (λ x h. tt) ⊛' number')))))

parameter' : Writes Sort.parameter type.parameter
unfolding type.parameter
parameter' = write_gives (λ x h y k t l. tt) ⊛' write_here ⊛' name' ⊛' mark' mark.Colon ⊳' type_term'

-- ---- initializers

mapping_written : (u : Symbol) (x : Value stmt.Mapping) → stmt.mapping_of u ≡ Some x → Written stmt.Mapping x
mapping_written (symbol.Word word.Image) x e = subst (λ y. Written stmt.Mapping y) (some_is e) (λ s h p k r l f i. tt)
mapping_written (symbol.Word word.Preimage) x e = subst (λ y. Written stmt.Mapping y) (some_is e) (λ s h p k r l f i. tt)
mapping_written _ x e = absurd cc

initializer' : Writes Sort.initializer stmt.initializer
unfolding stmt.initializer stmt.new_region stmt.equal_partition stmt.field_partition stmt.mapped_partition stmt.mapping stmt.both_partitions stmt.either_partition
initializer' =
    write_when
    (write_gives (λ e h s k. h)
    ⊛' word' word.Region ⊳' mark' mark.Open ⊳' expression'
    ⊛' mark' mark.Comma ⊳' space_use' ⊲' mark' mark.Close)
    (write_when
    (write_gives (λ r h e k. k)
    ⊛' word' word.Partition ⊳' mark' mark.Open ⊳' word' word.Equal ⊳' mark' mark.Comma ⊳' name'
    ⊛' mark' mark.Comma ⊳' expression' ⊲' mark' mark.Close)
    (write_when
    (write_gives (λ r h f k e l. l)
    ⊛' word' word.Partition ⊳' mark' mark.Open ⊳' name' ⊛' mark' mark.Dot ⊳' name'
    ⊛' mark' mark.Comma ⊳' expression' ⊲' mark' mark.Close)
    (write_when
    (write_one mapping_written ⊛' mark' mark.Open ⊳' name' ⊛' mark' mark.Comma ⊳' name'
    ⊛' mark' mark.Comma ⊳' name' ⊛' mark' mark.Dot ⊳' name' ⊲' mark' mark.Close)
    (write_when
    (write_gives (λ x h y k. tt) ⊛' name' ⊛' mark' mark.Ampersand ⊳' name')
    (write_when
    (write_gives (λ x h y k. tt) ⊛' name' ⊛' mark' mark.Bar ⊳' name')
    (write_gives (λ e h. h) ⊛' expression'))))))

-- ---- statements of one line

variable_written : (n : Name) (t : Option TypeTerm) (i : Option Initializer) → Written (Sort.optional Sort.initializer) i → IsWrittenForm (var_form n t i)
variable_written n t None h = tt
variable_written n t (Some i) h = h

variable' : Writes Sort.form stmt.variable
unfolding stmt.variable
variable' =
    write_gives (λ x h t k i l. variable_written x t i l)
    ⊛' word' word.Var ⊳' name' ⊛' maybe' (mark' mark.Colon ⊳' type_term')
    ⊛' maybe' (mark' mark.Assign ⊳' initializer')

names' : Writes Sort.names single.names
unfolding single.names
names' = write_gives (λ x h xs k. refl) ⊛' name' ⊛' write_many (mark' mark.Comma ⊳' name')

fields' : Writes Sort.names stmt.fields
unfolding stmt.fields
fields' =
    write_when (mark' mark.OpenBrace ⊳' names' ⊲' mark' mark.CloseBrace)
    (write_gives (λ x h. refl) ⊛' name')

filling' : Writes Sort.form stmt.filling
unfolding stmt.filling
filling' =
    write_gives (λ r h fs k e l. (l, k))
    ⊛' word' word.Fill ⊳' mark' mark.Open ⊳' name'
    ⊛' mark' mark.Dot ⊳' fields' ⊛' mark' mark.Comma ⊳' expression' ⊲' mark' mark.Close

assertion' : Writes Sort.form stmt.assertion
unfolding stmt.assertion
assertion' =
    write_gives (λ e h. h)
    ⊛' word' word.Regentlib ⊳' mark' mark.Dot ⊳' named' (codes "assert") ⊳' mark' mark.Open
    ⊳' expression' ⊲' maybe' (mark' mark.Comma ⊳' text') ⊲' mark' mark.Close

print_format' : Writes Sort.bytes stmt.print_format
unfolding stmt.print_format
print_format' = mark' mark.Dot ⊳' named' (codes "printf") ⊳' mark' mark.Open ⊳' text'

print_arguments' : Writes (Sort.listed Sort.expression) stmt.print_arguments
unfolding stmt.print_arguments stmt.further_arguments
print_arguments' = write_many (mark' mark.Comma ⊳' expression') ⊲' mark' mark.Close

printing' : Writes Sort.form stmt.printing
unfolding stmt.printing
printing' =
    write_gives (λ f h es k. arguments_written es k)
    ⊛' word' word.Regentlib ⊳' mark' mark.Dot ⊳' named' (codes "c") ⊳' print_format'
    ⊛' print_arguments'

printing_by' : Writes Sort.form stmt.printing_by
unfolding stmt.printing_by
printing_by' =
    write_gives (λ a h f k es l. arguments_written es l)
    ⊛' name' ⊛' print_format' ⊛' print_arguments'

task_call' : Writes Sort.form stmt.task_call
unfolding stmt.task_call
task_call' =
    write_gives (λ x h es k. arguments_written es k) ⊛' name' ⊛' arguments' expression'

assignment' : Writes Sort.form stmt.assignment
unfolding stmt.assignment stmt.assign stmt.assign_sign stmt.extremum
assignment' =
    write_gives (λ a h w k e l. (l, h)) ⊛' access'
    ⊛' write_when (write_one (λ u x e. tt) ⊲' mark' mark.Assign) (write_one (λ u x e. tt))
    ⊛' expression'

-- ---- statements with blocks

body' : Writes Sort.block stmt.body
unfolding stmt.body
body' = word' word.Do ⊳' block' ⊲' word' word.End

plain_block' : Writes Sort.form stmt.plain_block
unfolding stmt.plain_block
plain_block' = write_gives (λ x h b k. k) ⊛' word' word.Do ⊛' block' ⊲' word' word.End

while_loop' : Writes Sort.form stmt.while_loop
unfolding stmt.while_loop
while_loop' = write_gives (λ e h b k. (h, k)) ⊛' word' word.While ⊳' expression' ⊛' body'

arm' : Writes Sort.arm stmt.arm
unfolding stmt.arm
arm' = write_gives (λ e h b k. (h, k)) ⊛' expression' ⊛' word' word.Then ⊳' block'

arms_written : (as' : List Armed) → Written (Sort.listed Sort.arm) as' → AreWrittenArms (arms_from as')
arms_written [] h = tt
arms_written (a ∷ as') h = let p = h.0 in (p.0, p.1, arms_written as' h.1)

else_written : (o : Option Block) → Written (Sort.optional Sort.block) o → IsWrittenElse (otherwise_from o)
else_written None h = tt
else_written (Some b) h = h

conditional' : Writes Sort.form stmt.conditional
unfolding stmt.conditional
conditional' =
    write_gives (λ a h bs k o l. (arms_written (a ∷ bs) (h, k), else_written o l))
    ⊛' word' word.If ⊳' arm' ⊛' write_many (word' word.Elseif ⊳' arm')
    ⊛' maybe' (word' word.Else ⊳' block') ⊲' word' word.End

loop_in' : Writes stmt.Demandable stmt.loop_in
unfolding stmt.loop_in
loop_in' =
    write_gives (λ x h e k b l d i. (k, l))
    ⊛' word' word.For ⊳' name' ⊛' word' word.In ⊳' expression' ⊛' body'

loop_to' : Writes stmt.Demandable stmt.loop_to
unfolding stmt.loop_to
loop_to' =
    write_gives (λ x h e k f l b i d j. (k, l, i))
    ⊛' word' word.For ⊳' name' ⊛' mark' mark.Assign ⊳' expression'
    ⊛' mark' mark.Comma ⊳' expression' ⊛' body'

demandable_loop' : Writes Sort.form stmt.demandable_loop
unfolding stmt.demandable_loop stmt.for_loop stmt.demand
demandable_loop' =
    write_gives (λ d h loop k. k d h)
    ⊛' write_when (word' word.Demand ⊳' in_parentheses' (word' word.IndexLaunch) ⊳' write_gives tt) (write_gives tt)
    ⊛' write_when loop_in' loop_to'

-- ---- blocks

form' : Writes Sort.form stmt.form
unfolding stmt.form
form' =
    write_when variable' (write_when conditional' (write_when while_loop' (write_when demandable_loop'
    (write_when plain_block' (write_when filling' (write_when assertion' (write_when printing'
    (write_when printing_by' (write_when task_call' assignment')))))))))

statement' : Writes Sort.statement stmt.statement
unfolding stmt.statement
statement' = write_gives (λ line h f k. k) ⊛' write_here ⊛' form'

maybe_semicolon' : Writes (Sort.optional Sort.unit) stmt.maybe_semicolon
unfolding stmt.maybe_semicolon
maybe_semicolon' = maybe' (mark' mark.Semicolon)

return_written : (o : Option Expression) → Written (Sort.optional Sort.expression) o → IsWrittenForm (return_form o)
return_written None h = tt
return_written (Some e) h = h

return_statement' : Writes Sort.statement stmt.return_statement
unfolding stmt.return_statement stmt.return_value
return_statement' =
    write_gives (λ line h w k o l. return_written o l)
    ⊛' write_here ⊛' word' word.Return
    ⊛' write_when (write_gives tt) (write_gives (λ e h. h) ⊛' expression')

block_written : (ss : List Statement) → Written (Sort.listed Sort.statement) ss → IsWrittenBlock (block_from ss)
block_written [] h = tt
block_written (a_statement line form ∷ ss) h = (h.0, block_written ss h.1)

both_written : (ss : List Statement) (s : Statement) → Written (Sort.listed Sort.statement) ss → Written Sort.statement s → Written (Sort.listed Sort.statement) (ss ++ s ∷ [])
both_written [] s h k = (k, tt)
both_written (t ∷ ss) s h k = (h.0, both_written ss s h.1 k)

returning_written : (ss : List Statement) (o : Option Statement) → Written (Sort.listed Sort.statement) ss → Written (Sort.optional Sort.statement) o → IsWrittenBlock (returning_from ss o)
returning_written ss None h k = block_written ss h
returning_written ss (Some s) h k = block_written (ss ++ s ∷ []) (both_written ss s h k)

statements' : Writes Sort.block stmt.statements
unfolding stmt.statements
statements' =
    write_gives (λ ss h o k. returning_written ss o h k)
    ⊛' write_many (statement' ⊲' maybe_semicolon')
    ⊛' maybe' (return_statement' ⊲' maybe_semicolon')

pub all_write : AllWrite
all_write an_expression = disjunction'
all_write a_block = statements'

-- ---- items

separator' : Writes Sort.unit item.separator
unfolding item.separator
separator' = write_one (λ u x e. tt)

field_space' : Writes Sort.item_form item.field_space
unfolding item.field_space item.some_fields
field_space' =
    write_gives (λ x h ps k fs l. tt)
    ⊛' word' word.Fspace ⊳' name' ⊛' maybe_listed' parameter'
    ⊛' mark' mark.OpenBrace
    ⊳' write_when (write_gives tt)
    (cons' ⊛' parameter' ⊛' write_many (separator' ⊳' parameter') ⊲' maybe' separator')
    ⊲' mark' mark.CloseBrace

grant' : Writes Sort.grant item.grant
unfolding item.grant item.operation item.reading_or_writing
grant' =
    write_when (write_gives (λ o h. tt) ⊛' word' word.Reduces ⊳' write_one (λ u x e. tt))
    (write_one (λ u x e. tt))

clause' : Writes Sort.clause item.clause
unfolding item.clause item.privileges item.place item.within item.apart
clause' =
    write_when
    (write_gives (λ g h gs k ps l. tt) ⊛' grant' ⊛' write_many grant'
    ⊛' in_parentheses' (separated' (write_gives (λ x h fs k. tt) ⊛' name' ⊛' maybe' (mark' mark.Dot ⊳' fields'))))
    (write_when
    (write_gives (λ a h b k. tt) ⊛' name' ⊛' mark' mark.AtMost ⊳' name')
    (write_gives (λ a h b k. tt) ⊛' name' ⊛' mark' mark.Star ⊳' name'))

task' : Writes Sort.item_form item.task
unfolding item.task item.clauses
task' =
    write_gives (λ x h ps k t l cs i b j. j)
    ⊛' word' word.Task ⊳' name' ⊛' arguments' parameter'
    ⊛' maybe' (mark' mark.Colon ⊳' type_term')
    ⊛' write_when (word' word.Where ⊳' separated' clause' ⊲' word' word.Do) (write_gives tt)
    ⊛' block' ⊲' word' word.End

item_form' : Writes Sort.item_form item.item_form
unfolding item.item_form item.the_import item.alias item.start_call
item_form' =
    write_when (write_gives (λ x h. tt) ⊛' word' word.Import ⊲' the_text' (codes "regent"))
    (write_when
    (write_gives (λ x h. tt) ⊛' word' word.Local ⊳' name' ⊲' mark' mark.Assign
    ⊲' word' word.Regentlib ⊲' mark' mark.Dot ⊲' named' (codes "c"))
    (write_when field_space' (write_when task'
    (write_gives (λ x h. tt)
    ⊛' word' word.Regentlib ⊳' mark' mark.Dot ⊳' named' (codes "start") ⊳' in_parentheses' name'))))

item' : Writes Sort.item item.item
unfolding item.item
item' = write_gives (λ line h f k. k) ⊛' write_here ⊛' item_form'

pub program' : Writes (Sort.listed Sort.item) item.program
unfolding item.program
program' = cons' ⊛' item' ⊛' write_many item'

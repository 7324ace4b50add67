-- Statements and blocks.
use Rattle.std.specs.Prelude.{ℕ, Bool, true, false, ◌||◌, List, [], ◌∷◌, Option, Some, None, codes}
use Rattle.lane_kernels.specs.declared.numbers.Op.TheVariants.{Sum, Product, Least, Greatest}
use Rattle.regent_tree.specs.declared.statement.How.{How}
use Rattle.regent_tree.specs.declared.statement.How.TheVariants.{Set, Reduce}
use Rattle.regent_tree.specs.Syntax.{Expression, Initializer, region_initializer, equal_initializer, by_field_initializer, image_initializer, preimage_initializer, both_initializer, either_initializer, plain_initializer, Statement, a_statement, Form, var_form, if_form, while_form, for_in_form, for_to_form, do_form, fill_form, assert_form, print_form, call_form, assign_form, return_form, Block}
use Rattle.regent_lex.specs.declared.tables.Mark.TheVariants as mark
use Rattle.regent_grammar.specs.declared.symbol.Symbol.{Symbol}
use Rattle.regent_grammar.specs.declared.symbol.Symbol.TheVariants as symbol
use Rattle.regent_lex.specs.declared.tables.Word.TheVariants as word
use Rattle.regent_grammar.specs.Nodes.{expressions_from, Accessed, returning_from, Armed, arms_from, otherwise_from}
use Rattle.regent_grammar.specs.Symbols.{Test, comes, come, is_mark, is_word, is_named, is_name}
use Rattle.regent_grammar.specs.Rules.{Sort, ◌⇒◌, Rule, gives, here, one, use', a_block, when◌then◌else◌, maybe, many, ◌⊛◌, ◌⊳◌, ◌⊲◌}
use Rattle.regent_grammar.specs.Singles.{a_mark, a_word, named, name, names, text, in_parentheses, arguments}
use Rattle.regent_grammar.specs.Types.{space_use, type_term}
use Rattle.regent_grammar.specs.Expressions.{expression, access}

unfoldable pub block : Rule Sort.block
block = use' a_block

-- ---- initializers

-- `region` `(` expr `,` spaceuse `)`
unfoldable pub new_region : Rule Sort.initializer
new_region =
    gives (λ e s. region_initializer e s) ⊛ a_word word.Region ⊳ a_mark mark.Open ⊳ expression
    ⊛ a_mark mark.Comma ⊳ space_use ⊲ a_mark mark.Close

-- `partition` `(` `equal` `,` Name `,` expr `)`
unfoldable pub equal_partition : Rule Sort.initializer
equal_partition =
    gives (λ r e. equal_initializer r e)
    ⊛ a_word word.Partition ⊳ a_mark mark.Open ⊳ a_word word.Equal ⊳ a_mark mark.Comma ⊳ name
    ⊛ a_mark mark.Comma ⊳ expression ⊲ a_mark mark.Close

-- `partition` `(` Name `.` Name `,` expr `)`
unfoldable pub field_partition : Rule Sort.initializer
field_partition =
    gives (λ r f e. by_field_initializer r f e) ⊛ a_word word.Partition ⊳ a_mark mark.Open ⊳ name
    ⊛ a_mark mark.Dot ⊳ name ⊛ a_mark mark.Comma ⊳ expression ⊲ a_mark mark.Close

-- ( `image` | `preimage` ) `(` Name `,` Name `,` Name `.` Name `)`
abbrev pub mapping_of : Symbol → Option (List ℕ → List ℕ → List ℕ → List ℕ → Initializer)
mapping_of (symbol.Word word.Image) = Some (λ s p r f. image_initializer s p r f)
mapping_of (symbol.Word word.Preimage) = Some (λ s p r f. preimage_initializer s p r f)
mapping_of _ = None

abbrev pub is_mapping : Symbol → Bool
is_mapping s = is_word word.Image s || is_word word.Preimage s

abbrev pub Mapping : Sort
Mapping = Sort.bytes ⇒ Sort.bytes ⇒ Sort.bytes ⇒ Sort.bytes ⇒ Sort.initializer

unfoldable pub mapping : Rule Mapping
mapping = one mapping_of

unfoldable pub mapped_partition : Rule Sort.initializer
mapped_partition =
    mapping ⊛ a_mark mark.Open ⊳ name ⊛ a_mark mark.Comma ⊳ name
    ⊛ a_mark mark.Comma ⊳ name ⊛ a_mark mark.Dot ⊳ name ⊲ a_mark mark.Close

-- Name `&` Name | Name `|` Name
unfoldable pub both_partitions : Rule Sort.initializer
both_partitions = gives (λ p q. both_initializer p q) ⊛ name ⊛ a_mark mark.Ampersand ⊳ name

unfoldable pub either_partition : Rule Sort.initializer
either_partition = gives (λ p q. either_initializer p q) ⊛ name ⊛ a_mark mark.Bar ⊳ name

-- A name before `&` or `|` is a partition's.
unfoldable pub initializer : Rule Sort.initializer
initializer =
    when comes (is_word word.Region) then new_region
    else when come (is_word word.Partition ∷ is_mark mark.Open ∷ is_word word.Equal ∷ [])
    then equal_partition
    else when comes (is_word word.Partition) then field_partition
    else when comes is_mapping then mapped_partition
    else when come (is_name ∷ is_mark mark.Ampersand ∷ []) then both_partitions
    else when come (is_name ∷ is_mark mark.Bar ∷ []) then either_partition
    else gives (λ e. plain_initializer e) ⊛ expression

-- ---- statements of one line

-- `var` Name [ `:` type ] [ `=` init ]
unfoldable pub variable : Rule Sort.form
variable =
    gives (λ n t i. var_form n t i) ⊛ a_word word.Var ⊳ name
    ⊛ maybe (comes (is_mark mark.Colon)) (a_mark mark.Colon ⊳ type_term)
    ⊛ maybe (comes (is_mark mark.Assign)) (a_mark mark.Assign ⊳ initializer)

-- fields = Name | `{` Name { `,` Name } `}`
abbrev pub one_field : List ℕ → List (List ℕ)
one_field name = name ∷ []

unfoldable pub fields : Rule Sort.names
fields =
    when comes (is_mark mark.OpenBrace)
    then a_mark mark.OpenBrace ⊳ names ⊲ a_mark mark.CloseBrace
    else gives one_field ⊛ name

-- `fill` `(` Name `.` fields `,` expr `)`
unfoldable pub filling : Rule Sort.form
filling =
    gives (λ r fs e. fill_form r fs e) ⊛ a_word word.Fill ⊳ a_mark mark.Open ⊳ name
    ⊛ a_mark mark.Dot ⊳ fields ⊛ a_mark mark.Comma ⊳ expression ⊲ a_mark mark.Close

-- `regentlib` `.` `assert` `(` expr [ `,` String ] `)`: the text leaves no node
unfoldable pub assertion : Rule Sort.form
assertion =
    gives (λ e. assert_form e)
    ⊛ a_word word.Regentlib ⊳ a_mark mark.Dot ⊳ named (codes "assert") ⊳ a_mark mark.Open
    ⊳ expression ⊲ maybe (comes (is_mark mark.Comma)) (a_mark mark.Comma ⊳ text)
    ⊲ a_mark mark.Close

-- `(` String { `,` expr } `)`, behind `printf`
abbrev pub a_print : Option (List ℕ) → List ℕ → List Expression → Form
a_print alias format args = print_form alias format (expressions_from args)

unfoldable pub further_arguments : Rule (Sort.listed Sort.expression)
further_arguments = many (comes (is_mark mark.Comma)) (a_mark mark.Comma ⊳ expression)

-- `.` `printf` `(` String
unfoldable pub print_format : Rule Sort.bytes
print_format = a_mark mark.Dot ⊳ named (codes "printf") ⊳ a_mark mark.Open ⊳ text

-- { `,` expr } `)`
unfoldable pub print_arguments : Rule (Sort.listed Sort.expression)
print_arguments = further_arguments ⊲ a_mark mark.Close

-- `regentlib` `.` `c` `.` `printf` ..
unfoldable pub printing : Rule Sort.form
printing =
    gives (a_print None)
    ⊛ a_word word.Regentlib ⊳ a_mark mark.Dot ⊳ named (codes "c") ⊳ print_format
    ⊛ print_arguments

-- Name `.` `printf` ..
abbrev pub print_by : List ℕ → List ℕ → List Expression → Form
print_by alias format args = a_print (Some alias) format args

unfoldable pub printing_by : Rule Sort.form
printing_by =
    gives print_by ⊛ name ⊛ print_format ⊛ print_arguments

-- Name `(` [ expr { `,` expr } ] `)`
abbrev pub a_task_call : List ℕ → List Expression → Form
a_task_call name args = call_form name (expressions_from args)

unfoldable pub task_call : Rule Sort.form
task_call = gives a_task_call ⊛ name ⊛ arguments expression

-- assign = `=` | `+=` | `*=` | `min` `=` | `max` `=`
abbrev pub assign_of : Symbol → Option How
assign_of (symbol.Mark mark.Assign) = Some Set
assign_of (symbol.Mark mark.PlusAssign) = Some (Reduce Sum)
assign_of (symbol.Mark mark.StarAssign) = Some (Reduce Product)
assign_of _ = None

abbrev pub extremum_of : Symbol → Option How
extremum_of (symbol.Word word.Min) = Some (Reduce Least)
extremum_of (symbol.Word word.Max) = Some (Reduce Greatest)
extremum_of _ = None

abbrev pub is_extremum : Symbol → Bool
is_extremum s = is_word word.Min s || is_word word.Max s

unfoldable pub assign_sign : Rule Sort.how
assign_sign = one assign_of

unfoldable pub extremum : Rule Sort.how
extremum = one extremum_of

unfoldable pub assign : Rule Sort.how
assign = when comes is_extremum then extremum ⊲ a_mark mark.Assign else assign_sign

-- access assign expr
abbrev pub an_assignment : Accessed → How → Expression → Form
an_assignment target how value = assign_form target.name target.steps how value

unfoldable pub assignment : Rule Sort.form
assignment = gives an_assignment ⊛ access ⊛ assign ⊛ expression

-- ---- statements with blocks

-- `do` block `end`
unfoldable pub body : Rule Sort.block
body = a_word word.Do ⊳ block ⊲ a_word word.End

unfoldable pub plain_block : Rule Sort.form
plain_block = gives (λ w b. do_form b) ⊛ a_word word.Do ⊛ block ⊲ a_word word.End

-- `while` expr `do` block `end`
unfoldable pub while_loop : Rule Sort.form
while_loop = gives (λ e b. while_form e b) ⊛ a_word word.While ⊳ expression ⊛ body

-- `if` expr `then` block { `elseif` expr `then` block } [ `else` block ] `end`
abbrev pub armed : Expression → Block → Armed
armed test body = record { test = test; body = body }

unfoldable pub arm : Rule Sort.arm
arm = gives armed ⊛ expression ⊛ a_word word.Then ⊳ block

abbrev pub a_conditional : Armed → List Armed → Option Block → Form
a_conditional first arms other = if_form (arms_from (first ∷ arms)) (otherwise_from other)

unfoldable pub conditional : Rule Sort.form
conditional =
    gives a_conditional ⊛ a_word word.If ⊳ arm
    ⊛ many (comes (is_word word.Elseif)) (a_word word.Elseif ⊳ arm)
    ⊛ maybe (comes (is_word word.Else)) (a_word word.Else ⊳ block) ⊲ a_word word.End

-- for = `for` Name `in` expr `do` block `end` | `for` Name `=` expr `,` expr `do` block `end`
abbrev pub Demandable : Sort
Demandable = Sort.flag ⇒ Sort.form

abbrev pub a_loop_in : List ℕ → Expression → Block → Bool → Form
a_loop_in name domain body demanded = for_in_form demanded name domain body

unfoldable pub loop_in : Rule Demandable
loop_in = gives a_loop_in ⊛ a_word word.For ⊳ name ⊛ a_word word.In ⊳ expression ⊛ body

abbrev pub a_loop_to : List ℕ → Expression → Expression → Block → Bool → Form
a_loop_to name from to body demanded = for_to_form demanded name from to body

unfoldable pub loop_to : Rule Demandable
loop_to =
    gives a_loop_to ⊛ a_word word.For ⊳ name ⊛ a_mark mark.Assign ⊳ expression
    ⊛ a_mark mark.Comma ⊳ expression ⊛ body

unfoldable pub for_loop : Rule Demandable
for_loop =
    when come (is_word word.For ∷ is_name ∷ is_word word.In ∷ []) then loop_in else loop_to

-- [ `__demand` `(` `__index_launch` `)` ] for
unfoldable pub demand : Rule Sort.flag
demand =
    when comes (is_word word.Demand)
    then a_word word.Demand ⊳ in_parentheses (a_word word.IndexLaunch) ⊳ gives true
    else gives false

abbrev pub demanding : Bool → (Bool → Form) → Form
demanding demanded loop = loop demanded

unfoldable pub demandable_loop : Rule Sort.form
demandable_loop = gives demanding ⊛ demand ⊛ for_loop

-- ---- blocks

abbrev pub begins_loop : Symbol → Bool
begins_loop s = is_word word.Demand s || is_word word.For s

abbrev pub a_named_print : Test
a_named_print =
    come (is_name ∷ is_mark mark.Dot ∷ is_named (codes "printf") ∷ is_mark mark.Open ∷ [])

abbrev pub an_assert : Test
an_assert = come (is_word word.Regentlib ∷ is_mark mark.Dot ∷ is_named (codes "assert") ∷ [])

-- A name is a printing alias where `.printf(` follows it, a call where a parenthesis does, and else
-- it begins an access.
unfoldable pub form : Rule Sort.form
form =
    when comes (is_word word.Var) then variable
    else when comes (is_word word.If) then conditional
    else when comes (is_word word.While) then while_loop
    else when comes begins_loop then demandable_loop
    else when comes (is_word word.Do) then plain_block
    else when comes (is_word word.Fill) then filling
    else when an_assert then assertion
    else when comes (is_word word.Regentlib) then printing
    else when a_named_print then printing_by
    else when come (is_name ∷ is_mark mark.Open ∷ []) then task_call
    else assignment

-- a statement has the line of its first terminal
unfoldable pub statement : Rule Sort.statement
statement = gives (λ line f. a_statement line f) ⊛ here ⊛ form

unfoldable pub maybe_semicolon : Rule (Sort.optional Sort.unit)
maybe_semicolon = maybe (comes (is_mark mark.Semicolon)) (a_mark mark.Semicolon)

-- `return` [ expr ]: there is no value where the block or the text ends, or `;` comes.
abbrev pub ends_return : Symbol → Bool
ends_return s =
    is_mark mark.Semicolon s || is_word word.End s || is_word word.Else s || is_word word.Elseif s

abbrev pub returns_nothing : Test
returns_nothing [] = true
returns_nothing (t ∷ ts) = ends_return t.symbol

unfoldable pub return_value : Rule (Sort.optional Sort.expression)
return_value = when returns_nothing then gives None else gives (λ e. Some e) ⊛ expression

abbrev pub a_return : ℕ → Unit {0} → Option Expression → Statement
a_return line word value = a_statement line (return_form value)

unfoldable pub return_statement : Rule Sort.statement
return_statement =
    gives a_return ⊛ here ⊛ a_word word.Return ⊛ return_value

-- block = { stmt [ `;` ] } [ `return` [ expr ] [ `;` ] ]
abbrev pub begins_statement : Symbol → Bool
begins_statement (symbol.Name _) = true
begins_statement (symbol.Word word.Var) = true
begins_statement (symbol.Word word.If) = true
begins_statement (symbol.Word word.While) = true
begins_statement (symbol.Word word.Demand) = true
begins_statement (symbol.Word word.For) = true
begins_statement (symbol.Word word.Do) = true
begins_statement (symbol.Word word.Fill) = true
begins_statement (symbol.Word word.Regentlib) = true
begins_statement _ = false

unfoldable pub statements : Rule Sort.block
statements =
    gives returning_from ⊛ many (comes begins_statement) (statement ⊲ maybe_semicolon)
    ⊛ maybe (comes (is_word word.Return)) (return_statement ⊲ maybe_semicolon)

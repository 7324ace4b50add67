-- Items: field spaces, tasks, and the program.
use Rattle.std.specs.Prelude.{ℕ, Bool, false, ◌&&◌, ◌||◌, not, List, [], ◌∷◌, Option, Some, None, codes}
use Rattle.lane_kernels.specs.declared.numbers.Op.{Op}
use Rattle.lane_kernels.specs.declared.numbers.Op.TheVariants.{Sum, Product, Least, Greatest}
use Rattle.regent_tree.specs.declared.program.Clause.{Clause}
use Rattle.regent_tree.specs.declared.program.Clause.TheVariants.{Grants, Within, Apart}
use Rattle.regent_tree.specs.declared.program.Grant.{Grant}
use Rattle.regent_tree.specs.declared.program.Grant.TheVariants.{Reads, Writes, Reduces}
use Rattle.regent_tree.specs.declared.program.Place.{Place}
use Rattle.regent_tree.specs.declared.types.Param.{Param}
use Rattle.regent_tree.specs.declared.types.TypeTerm.{TypeTerm}
use Rattle.regent_tree.specs.Syntax.{Block, ItemForm, import_item, alias_item, space_item, task_item, start_item, ItemTree}
use Rattle.regent_lex.specs.declared.tables.Mark.TheVariants as mark
use Rattle.regent_grammar.specs.declared.symbol.Symbol.{Symbol}
use Rattle.regent_grammar.specs.declared.symbol.Symbol.TheVariants as symbol
use Rattle.regent_lex.specs.declared.tables.Word.TheVariants as word
use Rattle.regent_grammar.specs.Symbols.{Test, goes_on, comes, come, is_mark, is_word, is_name}
use Rattle.regent_grammar.specs.Rules.{Sort, Rule, gives, here, one, when◌then◌else◌, maybe, many, ◌⇒◌, ◌⊛◌, ◌⊳◌, ◌⊲◌}
use Rattle.regent_grammar.specs.Singles.{a_mark, a_word, named, the_text, name, separated, in_parentheses, maybe_listed, arguments}
use Rattle.regent_grammar.specs.Types.{type_term, parameter}
use Rattle.regent_grammar.specs.Statements.{fields, block}

-- ---- field spaces

-- sep = `,` | `;`
abbrev pub is_separator : Symbol → Bool
is_separator s = is_mark mark.Comma s || is_mark mark.Semicolon s

abbrev pub separator_of : Symbol → Option (Unit {0})
separator_of (symbol.Mark mark.Comma) = Some tt
separator_of (symbol.Mark mark.Semicolon) = Some tt
separator_of _ = None

unfoldable pub separator : Rule Sort.unit
separator = one separator_of

-- a separator comes, and no brace that closes the list behind it
abbrev pub not_closing : Test
not_closing ts = not (comes (is_mark mark.CloseBrace) ts)

abbrev pub another_field : Test
another_field [] = false
another_field (t ∷ ts) = is_separator t.symbol && not_closing ts

-- [ param { sep param } [ sep ] ]
unfoldable pub some_fields : Rule (Sort.listed Sort.parameter)
some_fields =
    gives (λ p ps. p ∷ ps) ⊛ parameter ⊛ many another_field (separator ⊳ parameter)
    ⊲ maybe (comes is_separator) separator

-- `fspace` Name [ `(` param { `,` param } `)` ] `{` [ param { sep param } [ sep ] ] `}`
abbrev pub a_field_space : List ℕ → List Param → List Param → ItemForm
a_field_space name params fields =
    space_item (record { name = name; params = params; fields = fields })

unfoldable pub field_space : Rule Sort.item_form
field_space =
    gives a_field_space ⊛ a_word word.Fspace ⊳ name ⊛ maybe_listed parameter
    ⊛ a_mark mark.OpenBrace
    ⊳ (when comes (is_mark mark.CloseBrace) then gives [] else some_fields)
    ⊲ a_mark mark.CloseBrace

-- ---- tasks

-- grant = `reads` | `writes` | `reduces` ( `+` | `*` | `min` | `max` )
abbrev pub operation_of : Symbol → Option Op
operation_of (symbol.Mark mark.Plus) = Some Sum
operation_of (symbol.Mark mark.Star) = Some Product
operation_of (symbol.Word word.Min) = Some Least
operation_of (symbol.Word word.Max) = Some Greatest
operation_of _ = None

abbrev pub access_of : Symbol → Option Grant
access_of (symbol.Word word.Reads) = Some Reads
access_of (symbol.Word word.Writes) = Some Writes
access_of _ = None

abbrev pub is_grant : Symbol → Bool
is_grant s = is_word word.Reads s || is_word word.Writes s || is_word word.Reduces s

unfoldable pub operation : Rule Sort.operation
operation = one operation_of

unfoldable pub reading_or_writing : Rule Sort.grant
reading_or_writing = one access_of

unfoldable pub grant : Rule Sort.grant
grant =
    when comes (is_word word.Reduces)
    then gives (λ o. Reduces o) ⊛ a_word word.Reduces ⊳ operation
    else reading_or_writing

-- place = Name [ `.` fields ]
abbrev pub a_place : List ℕ → Option (List (List ℕ)) → Place
a_place region fields = record { region = region; fields = fields }

unfoldable pub place : Rule Sort.place
place = gives a_place ⊛ name ⊛ maybe (comes (is_mark mark.Dot)) (a_mark mark.Dot ⊳ fields)

-- clause = grant { grant } `(` place { `,` place } `)` | Name `<=` Name | Name `*` Name
abbrev pub some_grants : Grant → List Grant → List Place → Clause
some_grants first further places = Grants (first ∷ further) places

unfoldable pub privileges : Rule Sort.clause
privileges =
    gives some_grants ⊛ grant ⊛ many (comes is_grant) grant ⊛ in_parentheses (separated place)

unfoldable pub within : Rule Sort.clause
within = gives (λ a b. Within a b) ⊛ name ⊛ a_mark mark.AtMost ⊳ name

unfoldable pub apart : Rule Sort.clause
apart = gives (λ a b. Apart a b) ⊛ name ⊛ a_mark mark.Star ⊳ name

unfoldable pub clause : Rule Sort.clause
clause =
    when comes is_grant then privileges
    else when come (is_name ∷ is_mark mark.AtMost ∷ []) then within
    else apart

-- task = `task` Name `(` [ param { `,` param } ] `)` [ `:` type ]
--        [ `where` clause { `,` clause } `do` ] block `end`
unfoldable pub clauses : Rule (Sort.listed Sort.clause)
clauses =
    when comes (is_word word.Where) then a_word word.Where ⊳ separated clause ⊲ a_word word.Do
    else gives []

abbrev pub a_task : List ℕ → List Param → Option TypeTerm → List Clause → Block → ItemForm
a_task name params result clauses body = task_item (record {
  name = name;
  params = params;
  result = result;
  clauses = clauses;
  body = body;
})

-- what stands before the body
abbrev pub task_head : Rule (Sort.block ⇒ Sort.item_form)
task_head =
    gives a_task ⊛ a_word word.Task ⊳ name ⊛ arguments parameter
    ⊛ maybe (comes (is_mark mark.Colon)) (a_mark mark.Colon ⊳ type_term)
    ⊛ clauses

unfoldable pub task : Rule Sort.item_form
task = task_head ⊛ block ⊲ a_word word.End

-- ---- programs

-- `import` String(regent)
unfoldable pub the_import : Rule Sort.item_form
the_import = gives (λ w. import_item) ⊛ a_word word.Import ⊲ the_text (codes "regent")

-- `local` Name `=` `regentlib` `.` `c`
unfoldable pub alias : Rule Sort.item_form
alias =
    gives (λ n. alias_item n)
    ⊛ a_word word.Local ⊳ name ⊲ a_mark mark.Assign ⊲ a_word word.Regentlib ⊲ a_mark mark.Dot
    ⊲ named (codes "c")

-- `regentlib` `.` `start` `(` Name `)`
unfoldable pub start_call : Rule Sort.item_form
start_call =
    gives (λ n. start_item n)
    ⊛ a_word word.Regentlib ⊳ a_mark mark.Dot ⊳ named (codes "start") ⊳ in_parentheses name

unfoldable pub item_form : Rule Sort.item_form
item_form =
    when comes (is_word word.Import) then the_import
    else when comes (is_word word.Local) then alias
    else when comes (is_word word.Fspace) then field_space
    else when comes (is_word word.Task) then task
    else start_call

-- an item has the line of its first terminal
abbrev pub an_item : ℕ → ItemForm → ItemTree
an_item line form = record { line = line; form = form }

unfoldable pub item : Rule Sort.item
item = gives an_item ⊛ here ⊛ item_form

-- program = item { item }, up to the text's end
unfoldable pub program : Rule (Sort.listed Sort.item)
program = gives (λ i is. i ∷ is) ⊛ item ⊛ many goes_on item

-- What the code's statements are as parts that are read.
use Rattle.std.specs.Prelude.{Bool, true, false, ◌∷◌, [], Option, Some, None}
use Rattle.regent_tree.specs.declared.statement.Arm.{Arm, Arm'}
use Rattle.regent_tree.specs.declared.statement.Stmt.{Stmt}
use Rattle.regent_tree.specs.Syntax.{Statement, a_statement}
use Rattle.regent_tree.specs.Plain.{expression_of}
use Rattle.regent_tree.specs.PlainProgram.{form_of, block_of}
use Rattle.regent_grammar.specs.Nodes.{Armed}
use Rattle.regent_grammar.specs.Rules.{Sort, Rule, when◌then◌else◌}
use Rattle.regent_grammar.specs.Symbols.{comes, come, is_mark, is_word, is_name}
use Rattle.regent_grammar.specs.Statements.{filling, assertion, printing, printing_by, task_call, assignment, an_assert, a_named_print}
use Rattle.regent_lex.specs.declared.tables.Mark.TheVariants as mark
use Rattle.regent_lex.specs.declared.tables.Word.TheVariants as word

abbrev pub statement_of : Stmt → Statement
statement_of s = a_statement s.line (form_of s.what)

-- whether there was one
abbrev pub present : Bool → Option (Unit {0})
present true = Some tt
present false = None

abbrev pub armed_of : Arm → Armed
armed_of (Arm' test shape body) = record { test = expression_of test; body = block_of body }

-- the statements without blocks that declare no variable
abbrev pub simple_form : Rule Sort.form
simple_form =
    when comes (is_word word.Fill) then filling
    else when an_assert then assertion
    else when comes (is_word word.Regentlib) then printing
    else when a_named_print then printing_by
    else when come (is_name ∷ is_mark mark.Open ∷ []) then task_call
    else assignment

-- What the grammar says of small texts, computed.
use Rattle.std.proofs.Common.{◌≡◌, ℕ, pos, true, List, [], ◌∷◌, ◌++◌, Some, None, codes, refl}
use Rattle.lane_kernels.specs.declared.numbers.Op.TheVariants.{Sum, Least}
use Rattle.lane_kernels.specs.declared.numbers.Width.TheVariants.{W32}
use Rattle.regent_tree.specs.declared.expression.Arithmetic.TheVariants as arithmetic
use Rattle.regent_tree.specs.declared.expression.Operator.TheVariants as operator
use Rattle.regent_tree.specs.declared.expression.Sign.TheVariants as sign
use Rattle.regent_tree.specs.declared.program.Clause.TheVariants as clauses
use Rattle.regent_tree.specs.declared.program.Grant.TheVariants as grants
use Rattle.regent_tree.specs.declared.statement.How.TheVariants.{Set, Reduce}
use Rattle.regent_tree.specs.declared.types.Kind.TheVariants.{Int1d, Ptr}
use Rattle.regent_tree.specs.declared.types.NumberTerm.TheVariants.{Int32, Index}
use Rattle.regent_tree.specs.declared.types.Ref.TheVariants.{Named, Wild}
use Rattle.regent_tree.specs.declared.types.TypeTerm.TheVariants as term
use Rattle.regent_tree.specs.Syntax.{Expression, number_expr, chain_expr, prefix_expr, access_expr, convert_expr, no_link, a_link, no_expr, an_expr, no_step, field_step, at_step, both_initializer, a_statement, var_form, if_form, for_in_form, assert_form, print_form, call_form, assign_form, return_form, no_statement, then_statement, no_arm, an_arm, else_block, space_item}
use Rattle.regent_grammar.specs.declared.symbol.Terminal.{Terminal}
use Rattle.regent_lex.specs.declared.tables.Mark.{Mark}
use Rattle.regent_lex.specs.declared.tables.Mark.TheVariants as mark
use Rattle.regent_grammar.specs.declared.symbol.Symbol.{Symbol}
use Rattle.regent_grammar.specs.declared.symbol.Symbol.TheVariants as symbol
use Rattle.regent_lex.specs.declared.tables.Word.{Word}
use Rattle.regent_lex.specs.declared.tables.Word.TheVariants as word
use Rattle.regent_grammar.specs.Types.{type_term}
use Rattle.regent_grammar.specs.Expressions.{expression}
use Rattle.regent_grammar.specs.Statements.{statement, block}
use Rattle.regent_grammar.specs.Items.{field_space, clause, program}
use Rattle.regent_grammar.specs.Reading.{stuck, read, then_read, many_upto, reading_with, later_upto, now, reading}
use Rattle.regent_grammar.proofs.Facts.{all_rules}

-- terminals of one line
abbrev on_line : ℕ → List Symbol → List Terminal
on_line line [] = []
on_line line (s ∷ ss) = record { symbol = s; line = line } ∷ on_line line ss

abbrev a : Symbol
a = symbol.Name (codes "a")

abbrev b : Symbol
b = symbol.Name (codes "b")

abbrev c : Symbol
c = symbol.Name (codes "c")

abbrev one : Symbol
one = symbol.Number (pos 1) W32

abbrev sign_of : Mark → Symbol
sign_of x = symbol.Mark x

abbrev word_of : Word → Symbol
word_of x = symbol.Word x

-- a name alone is an access without steps
abbrev the : List ℕ → Expression
the name = access_expr name no_step

unfoldable computing : Unit {0}
unfolding all_rules reading reading_with then_read many_upto later_upto now
computing = tt

-- `a - b - c` is one chain, in order
chains_keep_order : reading expression (on_line 1 (a ∷ sign_of mark.Minus ∷ b ∷ sign_of mark.Minus ∷ c ∷ [])) ≡ read (chain_expr (the (codes "a")) (a_link (operator.Compute arithmetic.Subtract) (the (codes "b")) (a_link (operator.Compute arithmetic.Subtract) (the (codes "c")) no_link))) []
unfolding computing
chains_keep_order = refl

-- a product binds before a sum, and parentheses leave no node
products_bind_first : reading expression (on_line 1 (sign_of mark.Open ∷ a ∷ sign_of mark.Plus ∷ b ∷ sign_of mark.Close ∷ sign_of mark.Star ∷ c ∷ [])) ≡ read (chain_expr (chain_expr (the (codes "a")) (a_link (operator.Compute arithmetic.Add) (the (codes "b")) no_link)) (a_link (operator.Compute arithmetic.Multiply) (the (codes "c")) no_link)) []
unfolding computing
products_bind_first = refl

-- prefix signs stand in order before what they negate
signs_in_order : reading expression (on_line 1 (word_of word.Not ∷ sign_of mark.Minus ∷ a ∷ sign_of mark.Dot ∷ b ∷ sign_of mark.OpenSquare ∷ one ∷ sign_of mark.CloseSquare ∷ [])) ≡ read (prefix_expr (sign.Not ∷ sign.Minus ∷ []) (access_expr (codes "a") (field_step (codes "b") (at_step (number_expr (pos 1) W32) no_step)))) []
unfolding computing
signs_in_order = refl

-- a number type in brackets converts as the type alone does
brackets_convert : reading expression (on_line 1 (sign_of mark.OpenSquare ∷ word_of word.Int ∷ sign_of mark.CloseSquare ∷ sign_of mark.Open ∷ a ∷ sign_of mark.Close ∷ [])) ≡ read (convert_expr Int32 (the (codes "a"))) []
unfolding computing
brackets_convert = refl

-- a region without an index space is unstructured
unstructured_region : reading type_term (on_line 1 (word_of word.Region ∷ sign_of mark.Open ∷ a ∷ sign_of mark.Open ∷ word_of word.Wild ∷ sign_of mark.Close ∷ sign_of mark.Close ∷ [])) ≡ read (term.Region Ptr (record { name = codes "a"; args = Wild ∷ [] })) []
unfolding computing
unstructured_region = refl

-- a kind alone is a number type
kind_alone : reading type_term (on_line 1 (word_of word.Int1d ∷ [])) ≡ read (term.Number (Index Int1d)) []
unfolding computing
kind_alone = refl

-- and a pointer type before a parenthesis
kind_with_regions : reading type_term (on_line 1 (word_of word.Int1d ∷ sign_of mark.Open ∷ a ∷ sign_of mark.Comma ∷ b ∷ sign_of mark.Close ∷ [])) ≡ read (term.Pointer (record { kind = Int1d; space = record { name = codes "a"; args = [] }; regions = Named (codes "b") ∷ [] })) []
unfolding computing
kind_with_regions = refl

-- an `if` with an `elseif` and an `else`
conditional_with_arms : reading statement (on_line 1 (word_of word.If ∷ a ∷ word_of word.Then ∷ word_of word.Elseif ∷ b ∷ word_of word.Then ∷ word_of word.Else ∷ word_of word.End ∷ [])) ≡ read (a_statement 1 (if_form (an_arm (the (codes "a")) no_statement (an_arm (the (codes "b")) no_statement no_arm)) (else_block no_statement))) []
unfolding computing
conditional_with_arms = refl

-- `min =` is a reduction
least_is_reduced : reading statement (on_line 1 (a ∷ word_of word.Min ∷ sign_of mark.Assign ∷ one ∷ [])) ≡ read (a_statement 1 (assign_form (codes "a") no_step (Reduce Least) (number_expr (pos 1) W32))) []
unfolding computing
least_is_reduced = refl

-- a name before `&` is a partition
partitions_meet : reading statement (on_line 1 (word_of word.Var ∷ a ∷ sign_of mark.Assign ∷ b ∷ sign_of mark.Ampersand ∷ c ∷ [])) ≡ read (a_statement 1 (var_form (codes "a") None (Some (both_initializer (codes "b") (codes "c"))))) []
unfolding computing
partitions_meet = refl

-- a name before `.printf(` prints
alias_prints : reading statement (on_line 1 (a ∷ sign_of mark.Dot ∷ symbol.Name (codes "printf") ∷ sign_of mark.Open ∷ symbol.Text (codes "x") ∷ sign_of mark.Comma ∷ one ∷ sign_of mark.Close ∷ [])) ≡ read (a_statement 1 (print_form (Some (codes "a")) (codes "x") (an_expr (number_expr (pos 1) W32) no_expr))) []
unfolding computing
alias_prints = refl

-- and before another `.printf` it is an access
field_named_printf : reading statement (on_line 1 (a ∷ sign_of mark.Dot ∷ symbol.Name (codes "printf") ∷ sign_of mark.Assign ∷ one ∷ [])) ≡ read (a_statement 1 (assign_form (codes "a") (field_step (codes "printf") no_step) Set (number_expr (pos 1) W32))) []
unfolding computing
field_named_printf = refl

-- the text of an assert leaves no node
text_leaves_no_node : reading statement (on_line 1 (word_of word.Regentlib ∷ sign_of mark.Dot ∷ symbol.Name (codes "assert") ∷ sign_of mark.Open ∷ a ∷ sign_of mark.Comma ∷ symbol.Text (codes "x") ∷ sign_of mark.Close ∷ [])) ≡ read (a_statement 1 (assert_form (the (codes "a")))) []
unfolding computing
text_leaves_no_node = refl

-- a demanded loop begins on the line of its demand
demand_begins_the_loop : reading statement (on_line 1 (word_of word.Demand ∷ sign_of mark.Open ∷ word_of word.IndexLaunch ∷ sign_of mark.Close ∷ []) ++ on_line 2 (word_of word.For ∷ a ∷ word_of word.In ∷ b ∷ word_of word.Do ∷ c ∷ sign_of mark.Open ∷ a ∷ sign_of mark.Close ∷ word_of word.End ∷ [])) ≡ read (a_statement 1 (for_in_form true (codes "a") (the (codes "b")) (then_statement (a_statement 2 (call_form (codes "c") (an_expr (the (codes "a")) no_expr))) no_statement))) []
unfolding computing
demand_begins_the_loop = refl

-- `return` without a value, behind a `;` of the statement before it
return_ends_the_block : reading block (on_line 1 (a ∷ sign_of mark.Assign ∷ one ∷ sign_of mark.Semicolon ∷ word_of word.Return ∷ sign_of mark.Semicolon ∷ []) ++ on_line 2 (word_of word.End ∷ [])) ≡ read (then_statement (a_statement 1 (assign_form (codes "a") no_step Set (number_expr (pos 1) W32))) (then_statement (a_statement 1 (return_form None)) no_statement)) (on_line 2 (word_of word.End ∷ []))
unfolding computing
return_ends_the_block = refl

-- fields have the lines of their names, and a separator may trail
separator_may_trail : reading field_space (on_line 1 (word_of word.Fspace ∷ a ∷ sign_of mark.OpenBrace ∷ []) ++ on_line 2 (b ∷ sign_of mark.Colon ∷ word_of word.Int ∷ sign_of mark.Semicolon ∷ []) ++ on_line 3 (c ∷ sign_of mark.Colon ∷ word_of word.Bool ∷ sign_of mark.Comma ∷ sign_of mark.CloseBrace ∷ [])) ≡ read (space_item (record { name = codes "a"; params = []; fields = record { line = 2; name = codes "b"; term = term.Number Int32 } ∷ record { line = 3; name = codes "c"; term = term.Truth } ∷ [] })) []
unfolding computing
separator_may_trail = refl

-- several privileges on one list of places
grants_share_places : reading clause (on_line 1 (word_of word.Reads ∷ word_of word.Reduces ∷ sign_of mark.Plus ∷ sign_of mark.Open ∷ a ∷ sign_of mark.Dot ∷ b ∷ sign_of mark.Close ∷ [])) ≡ read (clauses.Grants (grants.Reads ∷ grants.Reduces Sum ∷ []) (record { region = codes "a"; fields = Some (codes "b" ∷ []) } ∷ [])) []
unfolding computing
grants_share_places = refl

-- a text that stops has the terminals at which it stops
unfinished_text : reading program (on_line 1 (word_of word.Import ∷ symbol.Text (codes "regent") ∷ []) ++ on_line 2 (word_of word.Regentlib ∷ sign_of mark.Dot ∷ symbol.Name (codes "start") ∷ sign_of mark.Open ∷ one ∷ sign_of mark.Close ∷ [])) ≡ stuck (on_line 2 (one ∷ sign_of mark.Close ∷ []))
unfolding computing
unfinished_text = refl

-- a program has an item
no_items : reading program ([]) ≡ stuck []
unfolding computing
no_items = refl

-- Each rule is sound, and most take a terminal.
use Rattle.std.proofs.Common.{◌≡◌, true, Option, ℕ, List, refl}
use Rattle.regent_tree.specs.declared.expression.Operator.{Operator}
use Rattle.regent_grammar.specs.declared.symbol.Symbol.{Symbol}
use Rattle.regent_lex.specs.contracts.tables.Mark as mark_contract
use Rattle.regent_lex.specs.contracts.tables.Word as word_contract
use Rattle.regent_grammar.specs.Rules.{Sort, Rule, ◌⊳◌, ◌⊲◌}
use Rattle.regent_grammar.specs.Singles as single
use Rattle.regent_grammar.specs.Types as type
use Rattle.regent_grammar.specs.Expressions as expr
use Rattle.regent_grammar.specs.Statements as stmt
use Rattle.regent_grammar.specs.Items as item
use Rattle.regent_grammar.specs.Guards.{takes, is_sound}

-- opens all rules
unfoldable pub all_rules : Unit {0}
unfolding single.a_mark single.a_word single.named single.the_text single.name single.text
    single.names single.separated single.in_parentheses single.maybe_listed single.arguments type.kind
    type.reference type.space_use type.pointer type.number type.index_space type.region_kind
    type.region_type type.disjointness type.partition_type type.type_term type.parameter
    expr.expression expr.field_step expr.place_step expr.step expr.steps expr.access expr.literal
    expr.call expr.conversion expr.bracketed_conversion expr.null_test expr.null_pointer expr.cast
    expr.new_space expr.primary expr.a_sign expr.prefix expr.an_operator expr.link expr.chain
    expr.product expr.sum expr.compare expr.conjunction expr.disjunction stmt.block stmt.new_region
    stmt.equal_partition stmt.field_partition stmt.mapping stmt.mapped_partition
    stmt.both_partitions stmt.either_partition stmt.initializer stmt.variable stmt.fields
    stmt.filling stmt.assertion stmt.further_arguments stmt.print_format stmt.print_arguments stmt.printing stmt.printing_by stmt.task_call
    stmt.assign_sign stmt.extremum stmt.assign stmt.assignment stmt.body stmt.plain_block
    stmt.while_loop stmt.arm stmt.conditional stmt.loop_in stmt.loop_to stmt.for_loop stmt.demand
    stmt.demandable_loop stmt.form stmt.statement stmt.maybe_semicolon stmt.return_value
    stmt.return_statement stmt.statements item.separator item.some_fields item.field_space
    item.operation item.reading_or_writing item.grant item.place item.privileges item.within
    item.apart item.clause item.clauses item.task item.the_import item.alias item.start_call
    item.item_form item.item item.program
all_rules = tt

pub name_sound : is_sound single.name ≡ true
unfolding all_rules is_sound takes
name_sound = refl

pub name_takes : takes single.name ≡ true
unfolding all_rules takes
name_takes = refl

pub text_sound : is_sound single.text ≡ true
unfolding all_rules is_sound takes
text_sound = refl

pub text_takes : takes single.text ≡ true
unfolding all_rules takes
text_takes = refl

pub kind_sound : is_sound type.kind ≡ true
unfolding all_rules is_sound takes
kind_sound = refl

pub kind_takes : takes type.kind ≡ true
unfolding all_rules takes
kind_takes = refl

pub reference_sound : is_sound type.reference ≡ true
unfolding all_rules is_sound takes
reference_sound = refl

pub reference_takes : takes type.reference ≡ true
unfolding all_rules takes
reference_takes = refl

pub space_use_sound : is_sound type.space_use ≡ true
unfolding all_rules is_sound takes
space_use_sound = refl

pub space_use_takes : takes type.space_use ≡ true
unfolding all_rules takes
space_use_takes = refl

pub pointer_sound : is_sound type.pointer ≡ true
unfolding all_rules is_sound takes
pointer_sound = refl

pub pointer_takes : takes type.pointer ≡ true
unfolding all_rules takes
pointer_takes = refl

pub number_sound : is_sound type.number ≡ true
unfolding all_rules is_sound takes
number_sound = refl

pub number_takes : takes type.number ≡ true
unfolding all_rules takes
number_takes = refl

pub index_space_sound : is_sound type.index_space ≡ true
unfolding all_rules is_sound takes
index_space_sound = refl

pub index_space_takes : takes type.index_space ≡ true
unfolding all_rules takes
index_space_takes = refl

pub region_kind_sound : is_sound type.region_kind ≡ true
unfolding all_rules is_sound takes
region_kind_sound = refl

pub region_type_sound : is_sound type.region_type ≡ true
unfolding all_rules is_sound takes
region_type_sound = refl

pub region_type_takes : takes type.region_type ≡ true
unfolding all_rules takes
region_type_takes = refl

pub disjointness_sound : is_sound type.disjointness ≡ true
unfolding all_rules is_sound takes
disjointness_sound = refl

pub disjointness_takes : takes type.disjointness ≡ true
unfolding all_rules takes
disjointness_takes = refl

pub partition_type_sound : is_sound type.partition_type ≡ true
unfolding all_rules is_sound takes
partition_type_sound = refl

pub partition_type_takes : takes type.partition_type ≡ true
unfolding all_rules takes
partition_type_takes = refl

pub type_term_sound : is_sound type.type_term ≡ true
unfolding all_rules is_sound takes
type_term_sound = refl

pub type_term_takes : takes type.type_term ≡ true
unfolding all_rules takes
type_term_takes = refl

pub parameter_sound : is_sound type.parameter ≡ true
unfolding all_rules is_sound takes
parameter_sound = refl

pub parameter_takes : takes type.parameter ≡ true
unfolding all_rules takes
parameter_takes = refl

pub expression_sound : is_sound expr.expression ≡ true
unfolding all_rules is_sound takes
expression_sound = refl

pub expression_takes : takes expr.expression ≡ true
unfolding all_rules takes
expression_takes = refl

pub field_step_sound : is_sound expr.field_step ≡ true
unfolding all_rules is_sound takes
field_step_sound = refl

pub field_step_takes : takes expr.field_step ≡ true
unfolding all_rules takes
field_step_takes = refl

pub place_step_sound : is_sound expr.place_step ≡ true
unfolding all_rules is_sound takes
place_step_sound = refl

pub place_step_takes : takes expr.place_step ≡ true
unfolding all_rules takes
place_step_takes = refl

pub step_sound : is_sound expr.step ≡ true
unfolding all_rules is_sound takes
step_sound = refl

pub step_takes : takes expr.step ≡ true
unfolding all_rules takes
step_takes = refl

pub steps_sound : is_sound expr.steps ≡ true
unfolding all_rules is_sound takes
steps_sound = refl

pub access_sound : is_sound expr.access ≡ true
unfolding all_rules is_sound takes
access_sound = refl

pub access_takes : takes expr.access ≡ true
unfolding all_rules takes
access_takes = refl

pub literal_sound : is_sound expr.literal ≡ true
unfolding all_rules is_sound takes
literal_sound = refl

pub literal_takes : takes expr.literal ≡ true
unfolding all_rules takes
literal_takes = refl

pub call_sound : is_sound expr.call ≡ true
unfolding all_rules is_sound takes
call_sound = refl

pub call_takes : takes expr.call ≡ true
unfolding all_rules takes
call_takes = refl

pub conversion_sound : is_sound expr.conversion ≡ true
unfolding all_rules is_sound takes
conversion_sound = refl

pub conversion_takes : takes expr.conversion ≡ true
unfolding all_rules takes
conversion_takes = refl

pub bracketed_conversion_sound : is_sound expr.bracketed_conversion ≡ true
unfolding all_rules is_sound takes
bracketed_conversion_sound = refl

pub bracketed_conversion_takes : takes expr.bracketed_conversion ≡ true
unfolding all_rules takes
bracketed_conversion_takes = refl

pub null_test_sound : is_sound expr.null_test ≡ true
unfolding all_rules is_sound takes
null_test_sound = refl

pub null_test_takes : takes expr.null_test ≡ true
unfolding all_rules takes
null_test_takes = refl

pub null_pointer_sound : is_sound expr.null_pointer ≡ true
unfolding all_rules is_sound takes
null_pointer_sound = refl

pub null_pointer_takes : takes expr.null_pointer ≡ true
unfolding all_rules takes
null_pointer_takes = refl

pub cast_sound : is_sound expr.cast ≡ true
unfolding all_rules is_sound takes
cast_sound = refl

pub cast_takes : takes expr.cast ≡ true
unfolding all_rules takes
cast_takes = refl

pub new_space_sound : is_sound expr.new_space ≡ true
unfolding all_rules is_sound takes
new_space_sound = refl

pub new_space_takes : takes expr.new_space ≡ true
unfolding all_rules takes
new_space_takes = refl

pub primary_sound : is_sound expr.primary ≡ true
unfolding all_rules is_sound takes
primary_sound = refl

pub primary_takes : takes expr.primary ≡ true
unfolding all_rules takes
primary_takes = refl

pub a_sign_sound : is_sound expr.a_sign ≡ true
unfolding all_rules is_sound takes
a_sign_sound = refl

pub a_sign_takes : takes expr.a_sign ≡ true
unfolding all_rules takes
a_sign_takes = refl

pub prefix_sound : is_sound expr.prefix ≡ true
unfolding all_rules is_sound takes
prefix_sound = refl

pub prefix_takes : takes expr.prefix ≡ true
unfolding all_rules takes
prefix_takes = refl

pub product_sound : is_sound expr.product ≡ true
unfolding all_rules is_sound takes
product_sound = refl

pub product_takes : takes expr.product ≡ true
unfolding all_rules takes
product_takes = refl

pub sum_sound : is_sound expr.sum ≡ true
unfolding all_rules is_sound takes
sum_sound = refl

pub sum_takes : takes expr.sum ≡ true
unfolding all_rules takes
sum_takes = refl

pub compare_sound : is_sound expr.compare ≡ true
unfolding all_rules is_sound takes
compare_sound = refl

pub compare_takes : takes expr.compare ≡ true
unfolding all_rules takes
compare_takes = refl

pub conjunction_sound : is_sound expr.conjunction ≡ true
unfolding all_rules is_sound takes
conjunction_sound = refl

pub conjunction_takes : takes expr.conjunction ≡ true
unfolding all_rules takes
conjunction_takes = refl

pub disjunction_sound : is_sound expr.disjunction ≡ true
unfolding all_rules is_sound takes
disjunction_sound = refl

pub disjunction_takes : takes expr.disjunction ≡ true
unfolding all_rules takes
disjunction_takes = refl

pub block_sound : is_sound stmt.block ≡ true
unfolding all_rules is_sound takes
block_sound = refl

pub new_region_sound : is_sound stmt.new_region ≡ true
unfolding all_rules is_sound takes
new_region_sound = refl

pub new_region_takes : takes stmt.new_region ≡ true
unfolding all_rules takes
new_region_takes = refl

pub equal_partition_sound : is_sound stmt.equal_partition ≡ true
unfolding all_rules is_sound takes
equal_partition_sound = refl

pub equal_partition_takes : takes stmt.equal_partition ≡ true
unfolding all_rules takes
equal_partition_takes = refl

pub field_partition_sound : is_sound stmt.field_partition ≡ true
unfolding all_rules is_sound takes
field_partition_sound = refl

pub field_partition_takes : takes stmt.field_partition ≡ true
unfolding all_rules takes
field_partition_takes = refl

pub mapping_sound : is_sound stmt.mapping ≡ true
unfolding all_rules is_sound takes
mapping_sound = refl

pub mapping_takes : takes stmt.mapping ≡ true
unfolding all_rules takes
mapping_takes = refl

pub mapped_partition_sound : is_sound stmt.mapped_partition ≡ true
unfolding all_rules is_sound takes
mapped_partition_sound = refl

pub mapped_partition_takes : takes stmt.mapped_partition ≡ true
unfolding all_rules takes
mapped_partition_takes = refl

pub both_partitions_sound : is_sound stmt.both_partitions ≡ true
unfolding all_rules is_sound takes
both_partitions_sound = refl

pub both_partitions_takes : takes stmt.both_partitions ≡ true
unfolding all_rules takes
both_partitions_takes = refl

pub either_partition_sound : is_sound stmt.either_partition ≡ true
unfolding all_rules is_sound takes
either_partition_sound = refl

pub either_partition_takes : takes stmt.either_partition ≡ true
unfolding all_rules takes
either_partition_takes = refl

pub initializer_sound : is_sound stmt.initializer ≡ true
unfolding all_rules is_sound takes
initializer_sound = refl

pub initializer_takes : takes stmt.initializer ≡ true
unfolding all_rules takes
initializer_takes = refl

pub variable_sound : is_sound stmt.variable ≡ true
unfolding all_rules is_sound takes
variable_sound = refl

pub variable_takes : takes stmt.variable ≡ true
unfolding all_rules takes
variable_takes = refl

pub fields_sound : is_sound stmt.fields ≡ true
unfolding all_rules is_sound takes
fields_sound = refl

pub fields_takes : takes stmt.fields ≡ true
unfolding all_rules takes
fields_takes = refl

pub filling_sound : is_sound stmt.filling ≡ true
unfolding all_rules is_sound takes
filling_sound = refl

pub filling_takes : takes stmt.filling ≡ true
unfolding all_rules takes
filling_takes = refl

pub assertion_sound : is_sound stmt.assertion ≡ true
unfolding all_rules is_sound takes
assertion_sound = refl

pub assertion_takes : takes stmt.assertion ≡ true
unfolding all_rules takes
assertion_takes = refl

pub further_arguments_sound : is_sound stmt.further_arguments ≡ true
unfolding all_rules is_sound takes
further_arguments_sound = refl

pub printing_sound : is_sound stmt.printing ≡ true
unfolding all_rules is_sound takes
printing_sound = refl

pub printing_takes : takes stmt.printing ≡ true
unfolding all_rules takes
printing_takes = refl

pub printing_by_sound : is_sound stmt.printing_by ≡ true
unfolding all_rules is_sound takes
printing_by_sound = refl

pub printing_by_takes : takes stmt.printing_by ≡ true
unfolding all_rules takes
printing_by_takes = refl

pub task_call_sound : is_sound stmt.task_call ≡ true
unfolding all_rules is_sound takes
task_call_sound = refl

pub task_call_takes : takes stmt.task_call ≡ true
unfolding all_rules takes
task_call_takes = refl

pub assign_sign_sound : is_sound stmt.assign_sign ≡ true
unfolding all_rules is_sound takes
assign_sign_sound = refl

pub assign_sign_takes : takes stmt.assign_sign ≡ true
unfolding all_rules takes
assign_sign_takes = refl

pub extremum_sound : is_sound stmt.extremum ≡ true
unfolding all_rules is_sound takes
extremum_sound = refl

pub extremum_takes : takes stmt.extremum ≡ true
unfolding all_rules takes
extremum_takes = refl

pub assign_sound : is_sound stmt.assign ≡ true
unfolding all_rules is_sound takes
assign_sound = refl

pub assign_takes : takes stmt.assign ≡ true
unfolding all_rules takes
assign_takes = refl

pub assignment_sound : is_sound stmt.assignment ≡ true
unfolding all_rules is_sound takes
assignment_sound = refl

pub assignment_takes : takes stmt.assignment ≡ true
unfolding all_rules takes
assignment_takes = refl

pub body_sound : is_sound stmt.body ≡ true
unfolding all_rules is_sound takes
body_sound = refl

pub body_takes : takes stmt.body ≡ true
unfolding all_rules takes
body_takes = refl

pub plain_block_sound : is_sound stmt.plain_block ≡ true
unfolding all_rules is_sound takes
plain_block_sound = refl

pub plain_block_takes : takes stmt.plain_block ≡ true
unfolding all_rules takes
plain_block_takes = refl

pub while_loop_sound : is_sound stmt.while_loop ≡ true
unfolding all_rules is_sound takes
while_loop_sound = refl

pub while_loop_takes : takes stmt.while_loop ≡ true
unfolding all_rules takes
while_loop_takes = refl

pub arm_sound : is_sound stmt.arm ≡ true
unfolding all_rules is_sound takes
arm_sound = refl

pub arm_takes : takes stmt.arm ≡ true
unfolding all_rules takes
arm_takes = refl

pub conditional_sound : is_sound stmt.conditional ≡ true
unfolding all_rules is_sound takes
conditional_sound = refl

pub conditional_takes : takes stmt.conditional ≡ true
unfolding all_rules takes
conditional_takes = refl

pub loop_in_sound : is_sound stmt.loop_in ≡ true
unfolding all_rules is_sound takes
loop_in_sound = refl

pub loop_in_takes : takes stmt.loop_in ≡ true
unfolding all_rules takes
loop_in_takes = refl

pub loop_to_sound : is_sound stmt.loop_to ≡ true
unfolding all_rules is_sound takes
loop_to_sound = refl

pub loop_to_takes : takes stmt.loop_to ≡ true
unfolding all_rules takes
loop_to_takes = refl

pub for_loop_sound : is_sound stmt.for_loop ≡ true
unfolding all_rules is_sound takes
for_loop_sound = refl

pub for_loop_takes : takes stmt.for_loop ≡ true
unfolding all_rules takes
for_loop_takes = refl

pub demand_sound : is_sound stmt.demand ≡ true
unfolding all_rules is_sound takes
demand_sound = refl

pub demandable_loop_sound : is_sound stmt.demandable_loop ≡ true
unfolding all_rules is_sound takes
demandable_loop_sound = refl

pub demandable_loop_takes : takes stmt.demandable_loop ≡ true
unfolding all_rules takes
demandable_loop_takes = refl

pub form_sound : is_sound stmt.form ≡ true
unfolding all_rules is_sound takes
form_sound = refl

pub form_takes : takes stmt.form ≡ true
unfolding all_rules takes
form_takes = refl

pub statement_sound : is_sound stmt.statement ≡ true
unfolding all_rules is_sound takes
statement_sound = refl

pub statement_takes : takes stmt.statement ≡ true
unfolding all_rules takes
statement_takes = refl

pub maybe_semicolon_sound : is_sound stmt.maybe_semicolon ≡ true
unfolding all_rules is_sound takes
maybe_semicolon_sound = refl

pub return_value_sound : is_sound stmt.return_value ≡ true
unfolding all_rules is_sound takes
return_value_sound = refl

pub return_statement_sound : is_sound stmt.return_statement ≡ true
unfolding all_rules is_sound takes
return_statement_sound = refl

pub return_statement_takes : takes stmt.return_statement ≡ true
unfolding all_rules takes
return_statement_takes = refl

pub statements_sound : is_sound stmt.statements ≡ true
unfolding all_rules is_sound takes
statements_sound = refl

pub separator_sound : is_sound item.separator ≡ true
unfolding all_rules is_sound takes
separator_sound = refl

pub separator_takes : takes item.separator ≡ true
unfolding all_rules takes
separator_takes = refl

pub some_fields_sound : is_sound item.some_fields ≡ true
unfolding all_rules is_sound takes
some_fields_sound = refl

pub some_fields_takes : takes item.some_fields ≡ true
unfolding all_rules takes
some_fields_takes = refl

pub field_space_sound : is_sound item.field_space ≡ true
unfolding all_rules is_sound takes
field_space_sound = refl

pub field_space_takes : takes item.field_space ≡ true
unfolding all_rules takes
field_space_takes = refl

pub operation_sound : is_sound item.operation ≡ true
unfolding all_rules is_sound takes
operation_sound = refl

pub operation_takes : takes item.operation ≡ true
unfolding all_rules takes
operation_takes = refl

pub reading_or_writing_sound : is_sound item.reading_or_writing ≡ true
unfolding all_rules is_sound takes
reading_or_writing_sound = refl

pub reading_or_writing_takes : takes item.reading_or_writing ≡ true
unfolding all_rules takes
reading_or_writing_takes = refl

pub grant_sound : is_sound item.grant ≡ true
unfolding all_rules is_sound takes
grant_sound = refl

pub grant_takes : takes item.grant ≡ true
unfolding all_rules takes
grant_takes = refl

pub place_sound : is_sound item.place ≡ true
unfolding all_rules is_sound takes
place_sound = refl

pub place_takes : takes item.place ≡ true
unfolding all_rules takes
place_takes = refl

pub privileges_sound : is_sound item.privileges ≡ true
unfolding all_rules is_sound takes
privileges_sound = refl

pub privileges_takes : takes item.privileges ≡ true
unfolding all_rules takes
privileges_takes = refl

pub within_sound : is_sound item.within ≡ true
unfolding all_rules is_sound takes
within_sound = refl

pub within_takes : takes item.within ≡ true
unfolding all_rules takes
within_takes = refl

pub apart_sound : is_sound item.apart ≡ true
unfolding all_rules is_sound takes
apart_sound = refl

pub apart_takes : takes item.apart ≡ true
unfolding all_rules takes
apart_takes = refl

pub clause_sound : is_sound item.clause ≡ true
unfolding all_rules is_sound takes
clause_sound = refl

pub clause_takes : takes item.clause ≡ true
unfolding all_rules takes
clause_takes = refl

pub clauses_sound : is_sound item.clauses ≡ true
unfolding all_rules is_sound takes
clauses_sound = refl

pub task_sound : is_sound item.task ≡ true
unfolding all_rules is_sound takes
task_sound = refl

pub task_takes : takes item.task ≡ true
unfolding all_rules takes
task_takes = refl

pub import_sound : is_sound item.the_import ≡ true
unfolding all_rules is_sound takes
import_sound = refl

pub import_takes : takes item.the_import ≡ true
unfolding all_rules takes
import_takes = refl

pub alias_sound : is_sound item.alias ≡ true
unfolding all_rules is_sound takes
alias_sound = refl

pub alias_takes : takes item.alias ≡ true
unfolding all_rules takes
alias_takes = refl

pub start_call_sound : is_sound item.start_call ≡ true
unfolding all_rules is_sound takes
start_call_sound = refl

pub start_call_takes : takes item.start_call ≡ true
unfolding all_rules takes
start_call_takes = refl

pub item_form_sound : is_sound item.item_form ≡ true
unfolding all_rules is_sound takes
item_form_sound = refl

pub item_form_takes : takes item.item_form ≡ true
unfolding all_rules takes
item_form_takes = refl

pub item_sound : is_sound item.item ≡ true
unfolding all_rules is_sound takes
item_sound = refl

pub item_takes : takes item.item ≡ true
unfolding all_rules takes
item_takes = refl

pub program_sound : is_sound item.program ≡ true
unfolding all_rules is_sound takes
program_sound = refl

pub program_takes : takes item.program ≡ true
unfolding all_rules takes
program_takes = refl

-- ---- rules with parts

pub a_mark_sound : (m : mark_contract.the_type.D) → is_sound (single.a_mark m) ≡ true
unfolding single.a_mark is_sound
a_mark_sound m = refl

pub a_mark_takes : (m : mark_contract.the_type.D) → takes (single.a_mark m) ≡ true
unfolding single.a_mark takes
a_mark_takes m = refl

pub a_word_sound : (w : word_contract.the_type.D) → is_sound (single.a_word w) ≡ true
unfolding single.a_word is_sound
a_word_sound w = refl

pub a_word_takes : (w : word_contract.the_type.D) → takes (single.a_word w) ≡ true
unfolding single.a_word takes
a_word_takes w = refl

pub named_sound : (bytes : List ℕ) → is_sound (single.named bytes) ≡ true
unfolding single.named is_sound
named_sound bytes = refl

pub named_takes : (bytes : List ℕ) → takes (single.named bytes) ≡ true
unfolding single.named takes
named_takes bytes = refl

pub the_text_sound : (bytes : List ℕ) → is_sound (single.the_text bytes) ≡ true
unfolding single.the_text is_sound
the_text_sound bytes = refl

pub the_text_takes : (bytes : List ℕ) → takes (single.the_text bytes) ≡ true
unfolding single.the_text takes
the_text_takes bytes = refl

pub behind_sound : {s t : Sort} (r : Rule s) (q : Rule t) → is_sound r ≡ true →
    is_sound q ≡ true → is_sound (r ⊳ q) ≡ true
unfolding is_sound
behind_sound r q h k = rw (h, k) refl

pub behind_takes : {s t : Sort} (r : Rule s) (q : Rule t) → takes r ≡ true →
    takes (r ⊳ q) ≡ true
unfolding takes
behind_takes r q h = rw h refl

pub before_sound : {s t : Sort} (r : Rule s) (q : Rule t) → is_sound r ≡ true →
    is_sound q ≡ true → is_sound (r ⊲ q) ≡ true
unfolding is_sound
before_sound r q h k = rw (h, k) refl

pub before_takes : {s t : Sort} (r : Rule s) (q : Rule t) → takes r ≡ true →
    takes (r ⊲ q) ≡ true
unfolding takes
before_takes r q h = rw h refl

pub separated_sound : {s : Sort} (r : Rule s) → is_sound r ≡ true →
    is_sound (single.separated r) ≡ true
unfolding single.separated single.a_mark is_sound takes
separated_sound r h = rw h refl

pub separated_takes : {s : Sort} (r : Rule s) → takes r ≡ true →
    takes (single.separated r) ≡ true
unfolding single.separated takes
separated_takes r h = rw h refl

pub in_parentheses_sound : {s : Sort} (r : Rule s) → is_sound r ≡ true →
    is_sound (single.in_parentheses r) ≡ true
unfolding single.in_parentheses single.a_mark is_sound
in_parentheses_sound r h = rw h refl

pub in_parentheses_takes : {s : Sort} (r : Rule s) → takes (single.in_parentheses r) ≡ true
unfolding single.in_parentheses single.a_mark takes
in_parentheses_takes r = refl

pub maybe_listed_sound : {s : Sort} (r : Rule s) → is_sound r ≡ true →
    is_sound (single.maybe_listed r) ≡ true
unfolding single.maybe_listed single.in_parentheses single.separated single.a_mark is_sound takes
maybe_listed_sound r h = rw h refl

pub arguments_sound : {s : Sort} (r : Rule s) → is_sound r ≡ true →
    is_sound (single.arguments r) ≡ true
unfolding single.arguments single.separated single.a_mark is_sound takes
arguments_sound r h = rw h refl

pub arguments_takes : {s : Sort} (r : Rule s) → takes (single.arguments r) ≡ true
unfolding single.arguments single.a_mark takes
arguments_takes r = refl

pub an_operator_sound : (table : Symbol → Option Operator) →
    is_sound (expr.an_operator table) ≡ true
unfolding expr.an_operator is_sound
an_operator_sound table = refl

pub an_operator_takes : (table : Symbol → Option Operator) → takes (expr.an_operator table) ≡ true
unfolding expr.an_operator takes
an_operator_takes table = refl

pub link_sound : (table : Symbol → Option Operator) (member : Rule Sort.expression) →
    is_sound member ≡ true → is_sound (expr.link table member) ≡ true
unfolding expr.link expr.an_operator is_sound
link_sound table member h = rw h refl

pub link_takes : (table : Symbol → Option Operator) (member : Rule Sort.expression) →
    takes (expr.link table member) ≡ true
unfolding expr.link expr.an_operator takes
link_takes table member = refl

pub chain_sound : (table : Symbol → Option Operator) (member : Rule Sort.expression) →
    is_sound member ≡ true → is_sound (expr.chain table member) ≡ true
unfolding expr.chain expr.link expr.an_operator is_sound takes
chain_sound table member h = rw h refl

pub chain_takes : (table : Symbol → Option Operator) (member : Rule Sort.expression) →
    takes member ≡ true → takes (expr.chain table member) ≡ true
unfolding expr.chain takes
chain_takes table member h = rw h refl

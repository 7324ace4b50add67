-- The plain tree of a program: what was written, without where it lies in memory. Names, types and
-- clauses are the program's own, whose lists are plain already. An expression or a statement leads
-- back to itself, so here its lists are data of their own.
use Rattle.std.specs.Prelude.{ℕ, ℤ, List, Bool, Option}
use Rattle.lane_kernels.specs.declared.numbers.Width.{Width}
use Rattle.regent_tree.specs.declared.expression.Operator.{Operator}
use Rattle.regent_tree.specs.declared.expression.Sign.{Sign}
use Rattle.regent_tree.specs.declared.types.Kind.{Kind}
use Rattle.regent_tree.specs.declared.types.NumberTerm.{NumberTerm}
use Rattle.regent_tree.specs.declared.types.PointerTerm.{PointerTerm}
use Rattle.regent_tree.specs.declared.types.SpaceUse.{SpaceUse}
use Rattle.regent_tree.specs.declared.types.TypeTerm.{TypeTerm}
use Rattle.regent_tree.specs.declared.types.Param.{Param}
use Rattle.regent_tree.specs.declared.statement.How.{How}
use Rattle.regent_tree.specs.declared.program.Clause.{Clause}
use Rattle.regent_tree.specs.declared.program.FieldSpace.{FieldSpace}

-- a name, as its bytes
abbrev pub Name : Type 0
Name = List ℕ

mutual
  pub data Expression : Type 0 where
    number_expr : ℤ → Width → Expression
    truth_expr : Bool → Expression
    chain_expr : Expression → Links → Expression
    prefix_expr : List Sign → Expression → Expression
    call_expr : Name → Expressions → Expression
    access_expr : Name → Steps → Expression
    convert_expr : NumberTerm → Expression → Expression
    is_null_expr : Expression → Expression
    null_expr : PointerTerm → Expression
    cast_expr : PointerTerm → Expression → Expression
    space_expr : Kind → Expression → Expression

  -- what follows the first member of a chain
  pub data Links : Type 0 where
    no_link : Links
    a_link : Operator → Expression → Links → Links

  -- arguments
  pub data Expressions : Type 0 where
    no_expr : Expressions
    an_expr : Expression → Expressions → Expressions

  -- the steps of an access
  pub data Steps : Type 0 where
    no_step : Steps
    field_step : Name → Steps → Steps
    at_step : Expression → Steps → Steps

-- the initializer of a variable
pub data Initializer : Type 0 where
  region_initializer : Expression → SpaceUse → Initializer
  equal_initializer : Name → Expression → Initializer
  by_field_initializer : Name → Name → Expression → Initializer
  image_initializer : Name → Name → Name → Name → Initializer
  preimage_initializer : Name → Name → Name → Name → Initializer
  both_initializer : Name → Name → Initializer
  either_initializer : Name → Name → Initializer
  plain_initializer : Expression → Initializer

mutual
  -- a statement, and the line on which it begins
  pub data Statement : Type 0 where
    a_statement : ℕ → Form → Statement

  pub data Form : Type 0 where
    var_form : Name → Option TypeTerm → Option Initializer → Form
    if_form : Arms → Otherwise → Form
    while_form : Expression → Block → Form
    for_in_form : Bool → Name → Expression → Block → Form
    for_to_form : Bool → Name → Expression → Expression → Block → Form
    do_form : Block → Form
    fill_form : Name → List Name → Expression → Form
    assert_form : Expression → Form
    print_form : Option Name → List ℕ → Expressions → Form
    call_form : Name → Expressions → Form
    assign_form : Name → Steps → How → Expression → Form
    return_form : Option Expression → Form

  -- statements in order
  pub data Block : Type 0 where
    no_statement : Block
    then_statement : Statement → Block → Block

  -- the tests of an `if` with their blocks
  pub data Arms : Type 0 where
    no_arm : Arms
    an_arm : Expression → Block → Arms → Arms

  -- the block of an `else`, where there is one
  pub data Otherwise : Type 0 where
    no_else : Otherwise
    else_block : Block → Otherwise

pub record TaskTree : Type 0 where
  pub name : Name
  pub params : List Param
  pub result : Option TypeTerm
  pub clauses : List Clause
  pub body : Block

pub data ItemForm : Type 0 where
  import_item : ItemForm
  alias_item : Name → ItemForm
  space_item : FieldSpace → ItemForm
  task_item : TaskTree → ItemForm
  start_item : Name → ItemForm

-- an item, and the line on which it begins
pub record ItemTree : Type 0 where
  pub line : ℕ
  pub form : ItemForm

-- a program's tree: its items in order
abbrev pub Tree : Type 0
Tree = List ItemTree

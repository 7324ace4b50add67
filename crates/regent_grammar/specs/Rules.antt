-- Rules of a grammar as data: what a text spells, and the value that it spells.
use Rattle.std.specs.Prelude.{ℕ, Bool, List, Option, Some, None}
use Rattle.lane_kernels.specs.declared.numbers.Op.{Op}
use Rattle.regent_tree.specs.declared.expression.Operator.{Operator}
use Rattle.regent_tree.specs.declared.expression.Sign.{Sign}
use Rattle.regent_tree.specs.declared.program.Clause.{Clause}
use Rattle.regent_tree.specs.declared.program.Grant.{Grant}
use Rattle.regent_tree.specs.declared.program.Place.{Place}
use Rattle.regent_tree.specs.declared.statement.How.{How}
use Rattle.regent_tree.specs.declared.types.Kind.{Kind}
use Rattle.regent_tree.specs.declared.types.NumberTerm.{NumberTerm}
use Rattle.regent_tree.specs.declared.types.Param.{Param}
use Rattle.regent_tree.specs.declared.types.PointerTerm.{PointerTerm}
use Rattle.regent_tree.specs.declared.types.Ref.{Ref}
use Rattle.regent_tree.specs.declared.types.SpaceUse.{SpaceUse}
use Rattle.regent_tree.specs.declared.types.TypeTerm.{TypeTerm}
use Rattle.regent_tree.specs.Syntax.{Expression, Initializer, Statement, Form, Block, ItemForm, ItemTree}
use Rattle.regent_grammar.specs.declared.symbol.Symbol.{Symbol}
use Rattle.regent_grammar.specs.Nodes.{Joined, Stepped, Accessed, Armed}
use Rattle.regent_grammar.specs.Symbols.{Test}

-- what a rule may spell
infixr 20 ◌⇒◌
pub data Sort : Type 0 where
  unit : Sort
  line : Sort
  flag : Sort
  bytes : Sort
  names : Sort
  kind : Sort
  number : Sort
  reference : Sort
  space_use : Sort
  pointer : Sort
  type_term : Sort
  parameter : Sort
  operation : Sort
  grant : Sort
  place : Sort
  clause : Sort
  operator : Sort
  sign : Sort
  joined : Sort
  step : Sort
  accessed : Sort
  expression : Sort
  initializer : Sort
  how : Sort
  arm : Sort
  form : Sort
  statement : Sort
  block : Sort
  item_form : Sort
  item : Sort
  optional : Sort → Sort
  listed : Sort → Sort
  ◌⇒◌ : Sort → Sort → Sort

abbrev pub Value : Sort → Type 0
Value Sort.unit = Unit {0}
Value Sort.line = ℕ
Value Sort.flag = Bool
Value Sort.bytes = List ℕ
Value Sort.names = List (List ℕ)
Value Sort.kind = Kind
Value Sort.number = NumberTerm
Value Sort.reference = Ref
Value Sort.space_use = SpaceUse
Value Sort.pointer = PointerTerm
Value Sort.type_term = TypeTerm
Value Sort.parameter = Param
Value Sort.operation = Op
Value Sort.grant = Grant
Value Sort.place = Place
Value Sort.clause = Clause
Value Sort.operator = Operator
Value Sort.sign = Sign
Value Sort.joined = Joined
Value Sort.step = Stepped
Value Sort.accessed = Accessed
Value Sort.expression = Expression
Value Sort.initializer = Initializer
Value Sort.how = How
Value Sort.arm = Armed
Value Sort.form = Form
Value Sort.statement = Statement
Value Sort.block = Block
Value Sort.item_form = ItemForm
Value Sort.item = ItemTree
Value (Sort.optional s) = Option (Value s)
Value (Sort.listed s) = List (Value s)
Value (s ⇒ t) = Value s → Value t

-- the productions that lead back to themselves
pub data Nonterminal : Type 0 where
  an_expression : Nonterminal
  a_block : Nonterminal

abbrev pub spelt_by : Nonterminal → Sort
spelt_by an_expression = Sort.expression
spelt_by a_block = Sort.block

infixr 5 when◌then◌else◌
pub data Rule : Sort → Type 0 where
  -- no terminal, and this value
  gives : {s : Sort} → Value s → Rule s
  -- no terminal, and the line of the next one
  here : Rule Sort.line
  -- one terminal for whose symbol the table has a value
  one : {s : Sort} → (Symbol → Option (Value s)) → Rule s
  -- the one and then the other
  both : {r s t : Sort} → (Value r → Value s → Value t) → Rule r → Rule s → Rule t
  -- the first where the test passes, else the second
  when◌then◌else◌ : {s : Sort} → Test → Rule s → Rule s → Rule s
  -- as often as the test passes
  many : {s : Sort} → Test → Rule s → Rule (Sort.listed s)
  -- a production of this name
  use' : (n : Nonterminal) → Rule (spelt_by n)

-- what the first spells, applied to what the second spells; the second alone; the first alone
infixl 12 ◌⊛◌
infixl 14 ◌⊳◌ ◌⊲◌
abbrev pub ◌⊛◌ : {s t : Sort} → Rule (s ⇒ t) → Rule s → Rule t
f ⊛ r = both (λ g x. g x) f r

abbrev pub ◌⊳◌ : {s t : Sort} → Rule s → Rule t → Rule t
r ⊳ s = both (λ x y. y) r s

abbrev pub ◌⊲◌ : {s t : Sort} → Rule s → Rule t → Rule s
r ⊲ s = both (λ x y. x) r s

-- perhaps, where the test passes
abbrev pub maybe : {s : Sort} → Test → Rule s → Rule (Sort.optional s)
maybe {s} test r =
    when test then both {r = s ⇒ Sort.optional s} (λ g x. g x) (gives (λ x. Some x)) r
    else gives None

-- An expression by the types of its parts.
use Rattle.std.specs.Prelude.{List, [], ◌∷◌}
use Rattle.regent_tree.specs.declared.typing.StaticType.{StaticType}
use Rattle.regent_tree.specs.Syntax.{Name}
use Rattle.regent_tree.specs.declared.expression.Operator.{Operator}
use Rattle.regent_tree.specs.declared.expression.Sign.{Sign}
use Rattle.regent_tree.specs.declared.types.PointerTerm.{PointerTerm}
use Rattle.regent_tree.specs.declared.types.TypeTerm.{TypeTerm}
use Rattle.regent_tree.specs.declared.types.TypeTerm.TheVariants as typed

-- an operator with the types of its operands, a prefix with that of its operand
pub record Computing : Type 0 where
  pub operator : Operator
  pub left : StaticType
  pub right : StaticType

pub record Signing : Type 0 where
  pub sign : Sign
  pub operand : StaticType

-- a step of an access: a field of something of a type, or an element of it at a place of a type
pub data Taking : Type 0 where
  field_of : StaticType → Name → Taking
  element_of : StaticType → StaticType → Taking

-- a call with the types of its arguments
pub record Calling : Type 0 where
  pub task : Name
  pub args : List StaticType

pub data TypedForm : Type 0 where
  typed_constant : TypedForm
  typed_chain : List Computing → TypedForm
  typed_prefix : List Signing → TypedForm
  typed_call : Calling → TypedForm
  typed_access : Name → List Taking → TypedForm
  typed_convert : StaticType → TypedForm
  typed_is_null : StaticType → TypedForm
  typed_null : PointerTerm → TypedForm
  typed_cast : PointerTerm → StaticType → TypedForm
  typed_space : StaticType → TypedForm

abbrev pub computing : Operator → StaticType → StaticType → Computing
computing o t u = record { operator = o; left = t; right = u }

abbrev pub calling : Name → List StaticType → Calling
calling task types = record { task = task; args = types }

-- the pointer type that an expression has written in it, as a type
abbrev pub written_in : TypedForm → List TypeTerm
written_in (typed_null p) = typed.Pointer p ∷ []
written_in (typed_cast p t) = typed.Pointer p ∷ []
written_in typed_form = []

-- the call that an expression is
abbrev pub call_in : TypedForm → List Calling
call_in (typed_call c) = c ∷ []
call_in typed_form = []

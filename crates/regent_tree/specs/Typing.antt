-- Static types of expressions of an accepted program, and the scope after each statement.
use Rattle.std.specs.Prelude.{ℕ, suc, List, [], ◌∷◌, ◌++◌, map, get_or, reverse, Bool, true, false, cond, Option, Some, None}
use Rattle.lane_kernels.specs.declared.numbers.Width.{Width}
use Rattle.lane_kernels.specs.declared.numbers.Width.TheVariants.{W64}
use Rattle.regent_tree.specs.declared.expression.Operator.{Operator}
use Rattle.regent_tree.specs.declared.expression.Operator.TheVariants.{Compute}
use Rattle.regent_tree.specs.declared.expression.Sign.{Sign}
use Rattle.regent_tree.specs.declared.expression.Sign.TheVariants.{Minus, Not}
use Rattle.regent_tree.specs.declared.facts.Colour.{Colour}
use Rattle.regent_tree.specs.declared.facts.Colour.TheVariants.{Constant, Loop, Unknown}
use Rattle.regent_tree.specs.declared.facts.Known.{Known}
use Rattle.regent_tree.specs.declared.facts.Known.TheVariants.{Within, Made}
use Rattle.regent_tree.specs.declared.facts.Term.{Term}
use Rattle.regent_tree.specs.declared.facts.Term.TheVariants as term
use Rattle.regent_tree.specs.declared.types.Kind.{Kind}
use Rattle.regent_tree.specs.declared.types.Kind.TheVariants.{Int1d}
use Rattle.regent_tree.specs.declared.types.TypeTerm.{TypeTerm}
use Rattle.regent_tree.specs.Syntax.{Name, Expression, number_expr, truth_expr, chain_expr, prefix_expr, call_expr, access_expr, convert_expr, is_null_expr, null_expr, cast_expr, space_expr, Links, no_link, a_link, Expressions, no_expr, an_expr, Steps, no_step, field_step, at_step, Initializer, region_initializer, equal_initializer, by_field_initializer, image_initializer, preimage_initializer, both_initializer, either_initializer, plain_initializer, a_statement, Form, var_form, if_form, while_form, for_in_form, for_to_form, do_form, Block, no_statement, then_statement, Arms, no_arm, an_arm, Otherwise, no_else, else_block, Tree, TaskTree}
use Rattle.regent_tree.specs.Numbers.{wider}
use Rattle.regent_tree.specs.Facts.{is_subregion}
use Rattle.regent_tree.specs.Partitions.{equal_flag, by_field_flag, image_flag, preimage_flag, both_flag, either_flag}
use Rattle.regent_tree.specs.StaticTypes.{Reach, looked_up, number_type, written_pointer, type_said, field_type, place_of_space, task_named, binding_of_term}
use Rattle.regent_tree.specs.declared.typing.StaticType.{StaticType}
use Rattle.regent_tree.specs.declared.typing.StaticType.TheVariants.{Integer as integer_type, Truth as truth_type, Index as index_type, Pointer as pointer_type, Ispace as ispace_type, Region as region_type, Partition as partition_type, Nothing as no_type, Unknown as unknown_type}
use Rattle.regent_tree.specs.Scopes.{Scope, bound_to, bound_as, with_name, knowing, past, in_scope, known_of_type, scope_of}
use Rattle.regent_tree.specs.declared.typing.Bound.{Bound}

-- ---- operators

-- a pointer in arithmetic counts as an index of its kind
abbrev pub counting_as : StaticType → StaticType
counting_as (pointer_type k s args regions) = index_type k
counting_as t = t

-- the type beside an integer: the wider integer, or what it is
abbrev pub beside_integer : Width → StaticType → StaticType
beside_integer v (integer_type w) = integer_type (wider v w)
beside_integer v t = t

-- the type of a sum and the like: two integers give the wider, an index with an integer or an index
-- stays one, and a difference of partitions is as the first
abbrev pub arithmetic_type : StaticType → StaticType → StaticType
arithmetic_type (integer_type v) t = beside_integer v t
arithmetic_type t u = t

-- the type of an operator's result
abbrev pub operated : Operator → StaticType → StaticType → StaticType
operated (Compute o) t u = arithmetic_type (counting_as t) (counting_as u)
operated _ t u = truth_type

-- the type after prefixes, the outermost first
abbrev pub signed_type : List Sign → StaticType → StaticType
signed_type [] t = t
signed_type (Not ∷ signs) t = truth_type
signed_type (Minus ∷ signs) t = counting_as t

-- whether both operands of an operator are pointers
abbrev pub is_pointer : StaticType → Bool
is_pointer (pointer_type k s args regions) = true
is_pointer _ = false

abbrev pub are_pointers : StaticType → StaticType → Bool
are_pointers (pointer_type k s args regions) u = is_pointer u
are_pointers _ u = false

-- ---- accesses

-- the colour of a child as it is written: a number, a loop variable's name, or anything else
abbrev pub colour_named : Bound → Colour
colour_named b = cond b.by_loop (Loop b.number) Unknown

abbrev pub colour_of : Scope → Expression → Colour
colour_of s (number_expr z w) = Constant z
colour_of s (access_expr n no_step) = colour_named (bound_to s.names n)
colour_of s _ = Unknown

-- the type of a child: a region as its partition's parent is
abbrev pub child_type : StaticType → Term → StaticType
child_type (region_type k s args r) t = region_type k s args t
child_type _ t = unknown_type

-- the type of `x.f` by the type of x: of a pointer its field's, of a partition its colours'
abbrev pub type_of_field : Tree → StaticType → Name → StaticType
type_of_field tree (pointer_type k s args regions) f = field_type tree s args f
type_of_field tree (partition_type d r p) f = ispace_type Int1d
type_of_field tree _ f = unknown_type

-- the type of `x[e]` by the type of x: of a region a pointer into it, of a partition a child
abbrev pub type_of_element : Scope → StaticType → Expression → StaticType
type_of_element s (region_type k sp args r) e = pointer_type k sp args (Some r ∷ [])
type_of_element s (partition_type d r p) e =
    child_type (bound_as s.names r).static_type (term.Child p (colour_of s e))
type_of_element s _ e = unknown_type

-- the type after the steps of an access
abbrev pub stepped_type : Tree → Scope → StaticType → Steps → StaticType
stepped_type tree s t no_step = t
stepped_type tree s t (field_step f rest) = stepped_type tree s (type_of_field tree t f) rest
stepped_type tree s t (at_step e rest) = stepped_type tree s (type_of_element s t e) rest

-- ---- expressions

-- the type of a task's result
abbrev pub result_type : Tree → Option TypeTerm → StaticType
result_type tree None = no_type
result_type tree (Some t) = type_said tree (λ n. None) 0 t

abbrev mutual
  pub type_of : Tree → Scope → Expression → StaticType
  type_of tree s (number_expr z w) = integer_type w
  type_of tree s (truth_expr b) = truth_type
  type_of tree s (chain_expr first rest) = linked_type tree s (type_of tree s first) rest
  type_of tree s (prefix_expr signs e) = signed_type signs (type_of tree s e)
  type_of tree s (call_expr task args) = result_type tree (task_named tree task).result
  type_of tree s (access_expr n steps) = stepped_type tree s (bound_to s.names n).static_type steps
  type_of tree s (convert_expr t e) = number_type t
  type_of tree s (is_null_expr e) = truth_type
  type_of tree s (null_expr t) = written_pointer tree (in_scope s) t
  type_of tree s (cast_expr t e) = written_pointer tree (in_scope s) t
  type_of tree s (space_expr k e) = ispace_type k

  -- the type of a chain, from the type of what stands on the left
  pub linked_type : Tree → Scope → StaticType → Links → StaticType
  linked_type tree s t no_link = t
  linked_type tree s t (a_link o e rest) =
      linked_type tree s (operated o t (type_of tree s e)) rest

-- the types of arguments
abbrev pub types_of : Tree → Scope → Expressions → List StaticType
types_of tree s no_expr = []
types_of tree s (an_expr e es) = type_of tree s e ∷ types_of tree s es

-- ---- what a pointer's positions become where it is converted

-- the regions of a pointer type's list
abbrev pub reaches_of : StaticType → List Reach
reaches_of (pointer_type k s args regions) = regions
reaches_of _ = []

abbrev pub has_wild : List Reach → Bool
has_wild [] = false
has_wild (None ∷ rs) = true
has_wild (Some t ∷ rs) = has_wild rs

-- the least position, above a given one, of a region in a list within which a region lies, or 0
abbrev pub least_above : List Known → Term → ℕ → List Reach → ℕ
least_above known a j [] = 0
least_above known a j (None ∷ bs) = least_above known a (suc j) bs
least_above known a j (Some b ∷ bs) =
    cond (is_subregion known a b) (suc j) (least_above known a (suc j) bs)

abbrev pub position_of : List Known → List Reach → Reach → ℕ
position_of known targets None = 0
position_of known targets (Some a) = least_above known a 0 targets

-- the position that each region of one list has in another; all have 0 where that has `wild`
abbrev pub positions : List Known → List Reach → List Reach → List ℕ
positions known from to = map (λ a. cond (has_wild to) 0 (position_of known to a)) from

-- ---- variables

abbrev pub kind_of_ispace : StaticType → Kind
kind_of_ispace (ispace_type k) = k
kind_of_ispace _ = Int1d

-- whether a partition's type is disjoint, and its parent
abbrev pub is_disjoint : StaticType → Bool
is_disjoint (partition_type d r p) = d
is_disjoint _ = false

abbrev pub parent_of : StaticType → ℕ
parent_of (partition_type d r p) = r
parent_of _ = 0

-- the type of a variable that begins with an expression of a type
abbrev pub owned : ℕ → StaticType → StaticType
owned own (region_type k s args r) = region_type k s args (term.Name own)
owned own (partition_type d r p) = partition_type d r own
owned own t = t

-- the type that an initializer gives the binding with a number
abbrev pub initializer_type : Tree → Scope → ℕ → Initializer → StaticType
initializer_type tree s own (region_initializer e u) = region_type (kind_of_ispace (type_of tree s e))
    (place_of_space tree u.name) (map (looked_up (in_scope s)) u.args) (term.Name own)
initializer_type tree s own (equal_initializer r e) =
    partition_type equal_flag (bound_to s.names r).number own
initializer_type tree s own (by_field_initializer r f e) =
    partition_type by_field_flag (bound_to s.names r).number own
initializer_type tree s own (image_initializer parent p r f) =
    partition_type image_flag (bound_to s.names parent).number own
initializer_type tree s own (preimage_initializer parent p r f) = partition_type
    (preimage_flag (is_disjoint (bound_to s.names p).static_type)) (bound_to s.names parent).number own
initializer_type tree s own (both_initializer p q) =
    let t = (bound_to s.names p).static_type in
    partition_type (both_flag (is_disjoint t) (is_disjoint (bound_to s.names q).static_type))
    (parent_of t) own
initializer_type tree s own (either_initializer p q) =
    partition_type either_flag (parent_of (bound_to s.names p).static_type) own
initializer_type tree s own (plain_initializer e) = owned own (type_of tree s e)

-- the type of a new variable: as it is declared, or else as its initializer's
abbrev pub var_type : Tree → Scope → Option TypeTerm → Option Initializer → StaticType
var_type tree s (Some t) initializer = type_said tree (in_scope s) s.next t
var_type tree s None (Some initializer) = initializer_type tree s s.next initializer
var_type tree s None None = unknown_type

-- what an initializer tells: `var s = p[k]` lies within p[k], and `var r = region(..)` was made
abbrev pub known_of_child_term : ℕ → Term → List Known
known_of_child_term own (term.Child p c) = Within (term.Name own) (term.Child p c) ∷ []
known_of_child_term own (term.Name r) = []

abbrev pub known_of_child : ℕ → StaticType → List Known
known_of_child own (region_type k s args t) = known_of_child_term own t
known_of_child own _ = []

abbrev pub known_of_initializer : Tree → Scope → ℕ → Option Initializer → List Known
known_of_initializer tree s own (Some (region_initializer e u)) = Made own ∷ []
known_of_initializer tree s own (Some (plain_initializer e)) = known_of_child own (type_of tree s e)
known_of_initializer tree s own _ = []

-- what a loop over a region or an index space takes: pointers into it, or its indices
abbrev pub taken_from : StaticType → StaticType
taken_from (region_type k s args r) = pointer_type k s args (Some r ∷ [])
taken_from (ispace_type k) = index_type k
taken_from _ = unknown_type

-- ---- the scope after a statement, and after blocks

abbrev mutual
  pub scope_after : Tree → Scope → Form → Scope
  scope_after tree s (var_form n t initializer) =
      let type = var_type tree s t initializer in
      knowing (with_name s n type false) (known_of_initializer tree s s.next initializer ++ known_of_type type)
  scope_after tree s (if_form arms other) =
      scope_after_else tree (scope_after_arms tree s arms) other
  scope_after tree s (while_form test body) = past s (scope_after_block tree s body)
  scope_after tree s (for_in_form demanded n domain body) = past s
      (scope_after_block tree (with_name s n (taken_from (type_of tree s domain)) true) body)
  scope_after tree s (for_to_form demanded n from to body) = past s (scope_after_block tree
      (with_name s n (arithmetic_type (type_of tree s from) (type_of tree s to)) true) body)
  scope_after tree s (do_form body) = past s (scope_after_block tree s body)
  scope_after tree s _ = s

  pub scope_after_block : Tree → Scope → Block → Scope
  scope_after_block tree s no_statement = s
  scope_after_block tree s (then_statement (a_statement line form) rest) =
      scope_after_block tree (scope_after tree s form) rest

  pub scope_after_arms : Tree → Scope → Arms → Scope
  scope_after_arms tree s no_arm = s
  scope_after_arms tree s (an_arm test body rest) =
      scope_after_arms tree (past s (scope_after_block tree s body)) rest

  pub scope_after_else : Tree → Scope → Otherwise → Scope
  scope_after_else tree s no_else = s
  scope_after_else tree s (else_block body) = past s (scope_after_block tree s body)

-- ---- parameters

-- the region that an argument for a region parameter is
abbrev pub reach_of : StaticType → Reach
reach_of (region_type k s args t) = Some t
reach_of _ = None

-- a region that a parameter's type names, read with the types of a call's arguments
abbrev pub put : List StaticType → Reach → Reach
put types None = None
put types (Some t) = reach_of (get_or types (binding_of_term t) unknown_type)

-- a parameter's type, read with the types of a call's arguments
abbrev pub put_in : List StaticType → StaticType → StaticType
put_in types (pointer_type k s args regions) =
    pointer_type k s (map (put types) args) (map (put types) regions)
put_in types t = t

-- the types of a task's parameters, by themselves
abbrev pub param_types : Tree → TaskTree → List StaticType
param_types tree t = map (λ (b : Bound). b.static_type) (reverse (scope_of tree t).names)

-- the types of a task's parameters where it is called with these arguments
abbrev pub params_at : Tree → Scope → TaskTree → Expressions → List StaticType
params_at tree s t args = map (put_in (types_of tree s args)) (param_types tree t)

-- the width of an integer type
abbrev pub width_of_type : StaticType → Width
width_of_type (integer_type w) = w
width_of_type _ = W64

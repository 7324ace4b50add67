-- What expressions mean. They are evaluated from left to right.
use Rattle.std.specs.Prelude.{List, [], ◌∷◌, ◌++◌, get_or, false}
use Rattle.regent_tree.specs.declared.expression.Operator.TheVariants.{Or, And}
use Rattle.regent_tree.specs.Syntax.{Name, Expression, number_expr, truth_expr, chain_expr, prefix_expr, call_expr, access_expr, convert_expr, is_null_expr, null_expr, cast_expr, space_expr, Links, no_link, a_link, Expressions, no_expr, an_expr, Steps, no_step, field_step, at_step}
use Rattle.regent_tree.specs.Values.{Value, a_number, a_truth, a_pointer, null_target, truth_of, number_of, target_of, is_null_target}
use Rattle.regent_tree.specs.StaticTypes.{task_named}
use Rattle.regent_tree.specs.declared.typing.StaticType.{StaticType}
use Rattle.regent_tree.specs.declared.typing.StaticType.TheVariants.{Truth as truth_type, Unknown as unknown_type}
use Rattle.regent_tree.specs.Scopes.{bound_to}
use Rattle.regent_tree.specs.Typing.{type_of, operated, type_of_field, type_of_element, params_at}
use Rattle.regent_tree.specs.Running.{Here, Run, gives, fails, Called, came_back, broke, given, ◌>>=◌, state, if_true, pay}
use Rattle.regent_tree.specs.Accesses.{standing, regions_written, converted, take_field, take_element}
use Rattle.regent_tree.specs.Operators.{compares_pointers, operand, combined, all_signed, as_number, space_of_size, cast_to}

-- ---- calls

-- what a call gave: the text printed in it comes behind the caller's
abbrev pub answered : Called → Run Value
answered (came_back v store text) s =
    gives v (record s { store = store; text = s.text ++ text })
answered (broke f text) s = fails f (record s { text = s.text ++ text })

-- a call, after its arguments were evaluated: it costs the caller a turn
abbrev pub called : Here → Name → List Value → Run Value
called h task vs = do
  _ ← pay h
  s ← state
  answered (h.calls h.line task vs s.store)

-- ---- names and types

-- the value of a name; the truth that stands for a missing one isn't reached in an accepted program,
-- where each name that is used is bound and has its value at its place
abbrev pub named_value : Here → Name → Run Value
named_value h n s = gives (get_or s.names (bound_to h.scope.names n).place (a_truth false)) s

abbrev pub static_type_of : Here → Name → StaticType
static_type_of h n = (bound_to h.scope.names n).static_type

abbrev pub typed : Here → Expression → StaticType
typed h e = type_of h.tree h.scope e

abbrev pub first_type : List StaticType → StaticType
first_type [] = unknown_type
first_type (t ∷ ts) = t

abbrev pub other_types : List StaticType → List StaticType
other_types [] = []
other_types (t ∷ ts) = ts

-- ---- expressions

abbrev mutual
  pub value : Here → Expression → Run Value
  value h (number_expr z w) = given (a_number w z)
  value h (truth_expr b) = given (a_truth b)
  value h (chain_expr first rest) = do
    v ← value h first
    linked h (typed h first) v rest
  value h (prefix_expr signs e) = do
    v ← value h e
    u ← standing h v
    given (all_signed signs u)
  value h (call_expr task args) = do
    vs ← values h (params_at h.tree h.scope (task_named h.tree task) args) args
    called h task vs
  value h (access_expr n steps) = do
    v ← named_value h n
    stepped h (static_type_of h n) v steps
  value h (convert_expr t e) = do
    v ← value h e
    u ← standing h v
    given (as_number t u)
  value h (is_null_expr e) = do
    v ← value h e
    given (a_truth (is_null_target (target_of v)))
  value h (null_expr t) = do
    regions ← regions_written h t
    given (a_pointer null_target regions)
  value h (cast_expr t e) = do
    v ← value h e
    regions ← regions_written h t
    given (cast_to regions v)
  value h (space_expr k e) = do
    v ← value h e
    space_of_size h (number_of v)

  -- a chain goes on from the value on its left, which has a type; `or` and `and` stop early
  pub linked : Here → StaticType → Value → Links → Run Value
  linked h t v no_link = given v
  linked h t v (a_link Or e rest) = if_true (truth_of v)
      (linked h truth_type v rest)
      (value h e >>= λ u. linked h truth_type u rest)
  linked h t v (a_link And e rest) = if_true (truth_of v)
      (value h e >>= λ u. linked h truth_type u rest)
      (linked h truth_type v rest)
  linked h t v (a_link o e rest) = do
    a ← operand h (compares_pointers o t (typed h e)) v
    u ← value h e
    b ← operand h (compares_pointers o t (typed h e)) u
    c ← combined h o a b
    linked h (operated o t (typed h e)) c rest

  -- arguments, each converted to its parameter's type before the next is evaluated
  pub values : Here → List StaticType → Expressions → Run (List Value)
  values h types no_expr = given []
  values h types (an_expr e es) = do
    v ← value h e
    u ← converted h (typed h e) (first_type types) [] v
    us ← values h (other_types types) es
    given (u ∷ us)

  -- the steps of an access, from a value of a type
  pub stepped : Here → StaticType → Value → Steps → Run Value
  stepped h t v no_step = given v
  stepped h t v (field_step f rest) = do
    u ← take_field h t f v
    stepped h (type_of_field h.tree t f) u rest
  stepped h t v (at_step e rest) = do
    w ← value h e
    z ← standing h w
    u ← take_element h (number_of z) v
    stepped h (type_of_element h.scope t e) u rest

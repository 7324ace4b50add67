-- What statements mean.
use Rattle.std.specs.Prelude.{ℕ, zero, suc, ℤ, pos, ◌+ℤ◌, List, [], ◌∷◌, ◌++◌, map, length, take, true, false, slice_set, Some, None}
use Rattle.lane_kernels.specs.declared.numbers.Mode.{Mode}
use Rattle.lane_kernels.specs.declared.numbers.Mode.TheVariants.{Write, Reduce}
use Rattle.lane_kernels.specs.declared.numbers.Width.{Width}
use Rattle.plain_values.specs.Points.{points}
use Rattle.regent_tree.specs.declared.outcome.FaultKind.TheVariants.{AssertFailed, Turns}
use Rattle.regent_tree.specs.declared.statement.How.{How}
use Rattle.regent_tree.specs.declared.statement.How.TheVariants as how
use Rattle.regent_tree.specs.Syntax.{Name, Expression, access_expr, Steps, no_step, field_step, at_step, a_statement, Form, var_form, if_form, while_form, for_in_form, for_to_form, do_form, fill_form, assert_form, print_form, call_form, assign_form, return_form, Block, no_statement, then_statement, Arms, no_arm, an_arm, Otherwise, no_else, else_block}
use Rattle.lane_kernels.specs.Numbers.{wrapped, applied}
use Rattle.regent_tree.specs.Numbers.{distance}
use Rattle.regent_tree.specs.Values.{Value, a_number, a_truth, an_index, a_pointer, a_space, a_region, point_target, Region, truth_of, number_of, region_of, regions_of, width_of, kept_number, meant}
use Rattle.regent_tree.specs.Store.{read_at, write_at, write_all, touch_all}
use Rattle.regent_tree.specs.StaticTypes.{field_type, field_place, field_kind, task_named}
use Rattle.regent_tree.specs.declared.typing.StaticType.{StaticType}
use Rattle.regent_tree.specs.Scopes.{bound_to, with_name, past}
use Rattle.regent_tree.specs.Typing.{stepped_type, arithmetic_type, params_at, var_type, scope_after, scope_after_block, scope_after_arms, taken_from, width_of_type}
use Rattle.regent_tree.specs.Running.{State, Here, Run, Result, gives, given, ◌>>=◌, and_then, state, change, fault, if_true, pay, touch, touch_at}
use Rattle.regent_tree.specs.Accesses.{converted, Aim, hits, misses, aimed, space_in, args_in}
use Rattle.regent_tree.specs.Evaluation.{value, values, stepped, named_value, static_type_of, typed, called}
use Rattle.regent_tree.specs.Initializers.{initial_value}
use Rattle.regent_tree.specs.Printing.{printed}

-- whether a run goes on after a statement, or has returned a value
pub data Going : Type 0 where
  goes_on : Going
  returned : Value → Going

-- what follows a statement is run where the run goes on
abbrev pub going_on : Run Going → Going → Run Going
going_on rest goes_on = rest
going_on rest (returned v) = given (returned v)

-- a change of the state, after which the run goes on
abbrev pub changing : (State → State) → Run Going
changing f s = gives goes_on (f s)

-- a block gives back the names that it was given
abbrev pub leaving : ℕ → Result Going → Result Going
leaving n r = and_then r (λ g s. gives g (record s { names = take n s.names }))

abbrev pub scoped : Run Going → Run Going
scoped body s = leaving (length s.names) (body s)

-- one more name has a value
abbrev pub bind : Value → Run Going
bind v = changing (λ s. record s { names = s.names ++ v ∷ [] })

-- ---- loops

-- a turn of a loop with its variable: it is paid for before the body begins
abbrev pub round : Here → Value → Run Going → Run Going
round h v body = do
  _ ← pay h
  scoped (bind v >>= λ _. body)

-- a loop over a list of values
abbrev pub rounds : Here → List Value → Run Going → Run Going
rounds h [] body = given goes_on
rounds h (v ∷ vs) body = do
  g ← round h v body
  going_on (rounds h vs body) g

-- a counted loop: so many turns, from a number of a width on
abbrev pub counting : Here → ℕ → Width → ℤ → Run Going → Run Going
counting h zero w i body = given goes_on
counting h (suc k) w i body = do
  g ← round h (a_number w i) body
  going_on (counting h k w (i +ℤ pos 1) body) g

-- a turn of a loop with a test: it is paid for after the test was true
abbrev pub turn : Here → Value → Run Going → Run Going → Run Going
turn h v body again =
    if_true (truth_of v) (pay h >>= λ _. body >>= λ g. going_on again g) (given goes_on)

-- a loop with a test, of at most so many turns: each is paid for, so that there are never more than
-- those that were left when the loop began
abbrev pub turning : Here → ℕ → Run Value → Run Going → Run Going
turning h zero test body = do
  v ← test
  if_true (truth_of v) (fault h Turns) (given goes_on)
turning h (suc k) test body = do
  v ← test
  turn h v body (turning h k test body)

-- what a loop over a region or an index space takes, by ascending point
abbrev pub items_of : Value → List Value
items_of (a_region r) = map (λ n. a_pointer (point_target n 1) (r ∷ [])) r.points
items_of (a_space n) = map (λ i. an_index (pos i)) (points n)
items_of _ = []

-- ---- assignments

-- the value that replaces an old one; a reduction wraps the right side's number first
abbrev pub updated : How → Value → Value → Value
updated how.Set old v = v
updated (how.Reduce o) old v =
    let w = width_of old in
    a_number w (applied o w (number_of old) (wrapped w (number_of v)))

abbrev pub access_of : How → Mode
access_of how.Set = Write
access_of (how.Reduce o) = Reduce o

-- a pointer that is put into a variable goes with the regions of the variable's type
abbrev pub with_regions_of : Value → Value → Value
with_regions_of old (a_pointer t regions) = a_pointer t (regions_of old)
with_regions_of old v = v

-- the steps before the last one, and the field that is last
abbrev pub before_last : Steps → Steps
before_last no_step = no_step
before_last (field_step f no_step) = no_step
before_last (at_step e no_step) = no_step
before_last (field_step f rest) = field_step f (before_last rest)
before_last (at_step e rest) = at_step e (before_last rest)

abbrev pub last_field : Steps → Name
last_field no_step = []
last_field (field_step f no_step) = f
last_field (at_step e no_step) = []
last_field (field_step f rest) = last_field rest
last_field (at_step e rest) = last_field rest

-- a value is written to the field of what a pointer of a type aims at
abbrev pub write_field : Here → StaticType → Name → How → Value → Aim → Run Going
write_field h t f how v (misses k) = fault h k
write_field h t f how v (hits root n) = do
  let place = field_place h.tree (space_in t) f
  _ ← touch_at root place n (access_of how)
  s ← state
  let old = meant (field_kind h.tree (space_in t) place) [] (read_at s.store root place n)
  changing (λ u. record u {
    store = write_at u.store root place n (kept_number (updated how old v));
  })

-- a value is written to a variable
abbrev pub write_name : Here → Name → How → Value → Run Going
write_name h n how v = do
  old ← named_value h n
  changing (λ s. record s {
    names = slice_set s.names (bound_to h.scope.names n).place
        (updated how old (with_regions_of old v));
  })

-- a value is written to a variable, or to the last field of an access
abbrev pub write_to : Here → Name → Steps → How → Value → Run Going
write_to h n no_step how v = write_name h n how v
write_to h n steps how v = do
  u ← named_value h n
  p ← stepped h (static_type_of h n) u (before_last steps)
  write_field h (stepped_type h.tree h.scope (static_type_of h n) (before_last steps))
      (last_field steps) how v (aimed p)

-- the right side of an assignment: converted to the target's type, but not for a reduction
abbrev pub right_side : Here → Name → Steps → How → Expression → Run Value
right_side h n steps (how.Reduce o) e = value h e
right_side h n steps how.Set e = do
  v ← value h e
  converted h (typed h e) (typed h (access_expr n steps)) [] v

-- a value of a type is written to these fields of a region of a type, at each of its points
abbrev pub fill_fields : Here → StaticType → Value → StaticType → Region → List Name → Run Going
fill_fields h from v t r [] = given goes_on
fill_fields h from v t r (f ∷ fs) = do
  let place = field_place h.tree (space_in t) f
  u ← converted h from (field_type h.tree (space_in t) (args_in t) f) [] v
  _ ← touch (touch_all r.root place Write r.points)
  _ ← change (λ s. record s { store = write_all s.store r.root place r.points (kept_number u) })
  fill_fields h from v t r fs

-- ---- statements

-- the same place on another line, with a name that a loop binds, after a statement, and behind the
-- first arm of an `if` or all of them
abbrev pub on_line : Here → ℕ → Here
on_line h line = record h { line = line }

abbrev pub looping : Here → Name → StaticType → Here
looping h n t = record h { scope = with_name h.scope n t true }

abbrev pub after_statement : Here → Form → Here
after_statement h form = record h { scope = scope_after h.tree h.scope form }

abbrev pub after_arm : Here → Block → Here
after_arm h body = record h { scope = past h.scope (scope_after_block h.tree h.scope body) }

abbrev pub after_arms : Here → Arms → Here
after_arms h arms = record h { scope = scope_after_arms h.tree h.scope arms }

abbrev mutual
  pub exec : Here → Form → Run Going
  exec h (var_form n t initializer) = do
    v ← initial_value h t (var_type h.tree h.scope t initializer) initializer
    bind v
  exec h (if_form arms other) = exec_arms h h arms (exec_else (after_arms h arms) other)
  exec h (while_form test body) = do
    s ← state
    turning h s.turns (value h test) (scoped (exec_block h body))
  exec h (for_in_form demanded n domain body) = do
    v ← value h domain
    rounds h (items_of v) (exec_block (looping h n (taken_from (typed h domain))) body)
  exec h (for_to_form demanded n from to body) = do
    a ← value h from
    b ← value h to
    let t = arithmetic_type (typed h from) (typed h to)
    counting h (distance (number_of a) (number_of b)) (width_of_type t) (number_of a)
        (exec_block (looping h n t) body)
  exec h (do_form body) = scoped (exec_block h body)
  exec h (fill_form r fields e) = do
    v ← value h e
    w ← named_value h r
    fill_fields h (typed h e) v (static_type_of h r) (region_of w) fields
  exec h (assert_form e) = do
    v ← value h e
    if_true (truth_of v) (given goes_on) (fault h AssertFailed)
  exec h (print_form alias format args) = do
    vs ← values h [] args
    changing (λ s. record s { text = s.text ++ printed format (map number_of vs) })
  exec h (call_form task args) = do
    vs ← values h (params_at h.tree h.scope (task_named h.tree task) args) args
    _ ← called h task vs
    given goes_on
  exec h (assign_form n steps how e) = do
    v ← right_side h n steps how e
    write_to h n steps how v
  exec h (return_form None) = given (returned (a_truth false))
  exec h (return_form (Some e)) = do
    v ← value h e
    u ← converted h (typed h e) h.result [] v
    given (returned u)

  -- the first arm whose test is true, or else what another step does: each test is evaluated in the
  -- scope of the `if` itself, and a block begins past the binding numbers of the arms before it
  pub exec_arms : Here → Here → Arms → Run Going → Run Going
  exec_arms own h no_arm other = other
  exec_arms own h (an_arm test body rest) other = do
    v ← value own test
    if_true (truth_of v) (scoped (exec_block h body))
        (exec_arms own (after_arm h body) rest other)

  pub exec_else : Here → Otherwise → Run Going
  exec_else h no_else = given goes_on
  exec_else h (else_block body) = scoped (exec_block h body)

  -- statements in order; where a block ends, `scoped` takes its names away
  pub exec_block : Here → Block → Run Going
  exec_block h no_statement = given goes_on
  exec_block h (then_statement (a_statement line form) rest) = do
    g ← exec (on_line h line) form
    going_on (exec_block (after_statement h form) rest) g

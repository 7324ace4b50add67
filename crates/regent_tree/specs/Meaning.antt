-- What calls and programs mean.
use Rattle.std.specs.Prelude.{ℕ, zero, suc, ℤ, List, [], ◌∷◌, length, take}
use Rattle.regent_tree.specs.declared.outcome.Ending.TheVariants.{Finished, Faulted}
use Rattle.regent_tree.specs.declared.outcome.FaultKind.TheVariants.{Depth}
use Rattle.regent_tree.specs.declared.outcome.Outcome.{Outcome}
use Rattle.regent_tree.specs.Syntax.{Tree, TaskTree}
use Rattle.regent_tree.specs.Values.{Value, a_number, a_pointer}
use Rattle.regent_tree.specs.Store.{Store}
use Rattle.regent_tree.specs.StaticTypes.{entry_name, task_named}
use Rattle.regent_tree.specs.declared.typing.StaticType.{StaticType}
use Rattle.regent_tree.specs.declared.typing.StaticType.TheVariants.{Pointer as pointer_type}
use Rattle.regent_tree.specs.Scopes.{Scope, scope_of}
use Rattle.regent_tree.specs.Typing.{result_type, param_types, width_of_type}
use Rattle.regent_tree.specs.Running.{State, Here, Result, gives, fails, Called, came_back, broke, Calls}
use Rattle.regent_tree.specs.Accesses.{regions_reached}
use Rattle.regent_tree.specs.Initializers.{zero_of}
use Rattle.regent_tree.specs.Execution.{Going, goes_on, returned, exec_block}

-- an argument as the task has it: a pointer goes with the regions of its parameter's type
abbrev pub entered_as : Scope → List Value → StaticType → Value → Value
entered_as s vs (pointer_type k sp args reaches) (a_pointer t regions) =
    a_pointer t (regions_reached s vs reaches)
entered_as s vs type v = v

abbrev pub entered : Scope → List Value → List StaticType → List Value → List Value
entered s vs (t ∷ ts) (u ∷ us) = entered_as s vs t u ∷ entered s vs ts us
entered s vs _ us = us

-- what a body's end gives: the value that was returned, or 0 or false
abbrev pub value_at_end : Scope → StaticType → Going → Value
value_at_end s t (returned v) = v
value_at_end s t goes_on = zero_of s [] t

-- where a task's body stands
abbrev pub body_of : Tree → Calls → TaskTree → Here
body_of tree calls t = record {
  tree = tree;
  calls = calls;
  scope = scope_of tree t;
  result = result_type tree t.result;
  line = 0;
}

-- the state in which it begins: its parameters have these values, and it has all the run's turns
abbrev pub opening : Tree → ℕ → TaskTree → List Value → Store → State
opening tree turns t vs store = record {
  names = entered (scope_of tree t) vs (param_types tree t) vs;
  store = store;
  turns = turns;
  text = [];
  touches = [];
}

-- a task's body on a store
abbrev pub run_task : Tree → ℕ → Calls → TaskTree → List Value → Store → Result Going
run_task tree turns calls t vs store =
    exec_block (body_of tree calls t) t.body (opening tree turns t vs store)

-- a task's end: the roots that it made are the last ones, and are dropped
abbrev pub ended : ℕ → Scope → StaticType → Result Going → Called
ended roots s t (gives g u) = came_back (value_at_end s t g) (take roots u.store) u.text
ended roots s t (fails f u) = broke f u.text

-- calls where so many more may nest; a call where none may is a fault on the line of the call
abbrev pub calls_at : Tree → ℕ → ℕ → Calls
calls_at tree turns zero line task vs store = broke (record { kind = Depth; line = line }) []
calls_at tree turns (suc more) line task vs store =
    let t = task_named tree task in
    ended (length store) (scope_of tree t) (result_type tree t.result)
    (run_task tree turns (calls_at tree turns more) t vs store)

-- what is told of a whole run: its text with the contents of the entry task's roots, or its text
-- up to the first fault with that fault
abbrev pub outcome : Result Going → Outcome
outcome (gives g s) = record { text = s.text; ending = Finished s.store }
outcome (fails f s) = record { text = s.text; ending = Faulted f }

-- the numbers that are given to the entry task, at the widths of its parameters
abbrev pub inputs_of : List StaticType → List ℤ → List Value
inputs_of (t ∷ ts) (z ∷ zs) = a_number (width_of_type t) z ∷ inputs_of ts zs
inputs_of _ _ = []

-- The meaning of a program: the entry task runs at depth 1 on the empty store. No run is deeper
-- than 64, so 63 calls may nest below it.
abbrev pub meaning : Tree → List ℤ → ℕ → Outcome
meaning tree inputs turns =
    let t = task_named tree (entry_name tree) in
    outcome (run_task tree turns (calls_at tree turns 63) t
    (inputs_of (param_types tree t) inputs) [])

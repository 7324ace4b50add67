-- Laws of expressions in programs without a breach: their values have their static types, each touch is
-- covered, and what a call needs lies within what its caller has.
use Rattle.std.specs.Prelude.{List, None, length, ℕ, ◌≡◌}
use Rattle.regent_tree.specs.Evaluation.{value, values}
use Rattle.regent_tree.specs.Running.{Here, State}
use Rattle.regent_tree.specs.StaticTypes.{task_named}
use Rattle.regent_tree.specs.Syntax.{Expression, Expressions, Name, TaskTree}
use Rattle.regent_tree.specs.Typing.{params_at}
use Rattle.regent_tree.specs.Values.{Value}
use Rattle.check_rules.specs.first.FirstInExpressions.{first_in_args, first_in_expression, first_of_call}
use Rattle.check_rules.specs.scopes.Sound.{IsSound, IsSoundTask}
use Rattle.check_rules.specs.types.KnownTypes.{known_types}
use Rattle.check_rules.specs.types.TypedForms.{calling}
use Rattle.check_laws.specs.SoundScopes.{IsSoundScope}
use Rattle.fact_laws.specs.Regions.{Interpretation}
use Rattle.expression_laws.specs.Kinds.{IsWellScoped}
use Rattle.expression_laws.specs.Needs.{IsCallWithin}
use Rattle.expression_laws.specs.Sound.{AreFitting, AreSoundAnswers, EndsIn, Instance, IsSoundFault, IsSoundPlace, IsSoundState, IsValueOf, KeepsSound}
use Rattle.expression_laws.specs.Writing.{AreWritten, IsWritten}

-- a task instance at a place of its body
abbrev pub instance_at : TaskTree → List Value → ℕ → Here → Instance
instance_at task args roots h = record { tree = h.tree; calls = h.calls; task = task; args = args; roots = roots }

-- A place of a body: the declarations have no breach, all names have known types that speak of what is in
-- scope, the known facts hold, and each call whose arguments fit gives a value of the called task's result
-- type, whatever else it gives.
pub record IsReadyToEvaluate (task : TaskTree) (args : List Value) (roots : ℕ) (m : Interpretation) (h : Here) : Type 0 where
  pub sound : IsSound h.tree
  pub sound_task : IsSoundTask h.tree task
  pub scope : IsSoundScope h.scope
  pub well_scoped : IsWellScoped h.scope
  pub place : IsSoundPlace (instance_at task args roots h) m h.scope
  pub answers : AreSoundAnswers m h.tree h.calls

-- An expression of which no breach is told gives a value of its static type, and keeps what holds of the
-- state: the names' values have their types still, and each touch is covered. Where it faults, each touch
-- up to the fault is covered.
abbrev pub ValuesHaveTheirTypes : Type 0
ValuesHaveTheirTypes = (task : TaskTree) (args : List Value) (roots : ℕ) (m : Interpretation) (h : Here) → IsReadyToEvaluate task args roots m h →
    (e : Expression) → IsWritten e → first_in_expression h.tree task h.scope e ≡ None →
    (u : State) → IsSoundState (instance_at task args roots h) m h.scope u →
    KeepsSound (instance_at task args roots h) m h.scope (IsValueOf m h.tree h.scope e) (value h e u)

-- Of a call of which no breach is told, what the called task needs of the arguments' values lies within
-- what the caller has: at each field of each point.
abbrev pub CallsLieWithin : Type 0
CallsLieWithin = (task : TaskTree) (args : List Value) (roots : ℕ) (m : Interpretation) (h : Here) → IsReadyToEvaluate task args roots m h →
    (name : Name) (es : Expressions) → AreWritten es → first_in_args h.tree task h.scope es ≡ None →
    first_of_call h.tree task h.scope (calling name (known_types h.tree h.scope es)) ≡ None →
    (u : State) → IsSoundState (instance_at task args roots h) m h.scope u →
    KeepsSound (instance_at task args roots h) m h.scope (IsCallWithin (instance_at task args roots h) (task_named h.tree name))
    (values h (params_at h.tree h.scope (task_named h.tree name) es) es u)

-- And they fit the called task: each is of its parameter's type, and what the task asks of its parameters holds
-- of them.
abbrev pub ArgumentsFit : Type 0
ArgumentsFit = (task : TaskTree) (args : List Value) (roots : ℕ) (m : Interpretation) (h : Here) → IsReadyToEvaluate task args roots m h →
    (name : Name) (es : Expressions) → AreWritten es → first_in_args h.tree task h.scope es ≡ None →
    first_of_call h.tree task h.scope (calling name (known_types h.tree h.scope es)) ≡ None →
    (u : State) → IsSoundState (instance_at task args roots h) m h.scope u →
    EndsIn (λ vs w. IsSoundState (instance_at task args roots h) m h.scope w × AreFitting h.tree (task_named h.tree name) vs (length w.store))
    (λ f w. IsSoundFault (instance_at task args roots h) f w)
    (values h (params_at h.tree h.scope (task_named h.tree name) es) es u)

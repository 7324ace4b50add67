-- Places of a body at which statements stand, and what a statement keeps.
use Rattle.std.specs.Prelude.{List, None, ℕ, ◌≡◌}
use Rattle.regent_tree.specs.Execution.{exec}
use Rattle.regent_tree.specs.Running.{Here, State}
use Rattle.regent_tree.specs.Syntax.{Form, TaskTree}
use Rattle.regent_tree.specs.Typing.{result_type, scope_after}
use Rattle.regent_tree.specs.Values.{Value}
use Rattle.check_rules.specs.first.FirstInStatements.{first_of_form, first_within}
use Rattle.check_rules.specs.scopes.Sound.{IsSound, IsSoundTask}
use Rattle.check_laws.specs.SoundScopes.{IsSoundScope}
use Rattle.fact_laws.specs.Regions.{Interpretation}
use Rattle.expression_laws.specs.Laws.{instance_at}
use Rattle.expression_laws.specs.Sound.{AreSoundAnswers, IsSoundPlace, IsSoundState}
use Rattle.statement_laws.specs.Steady.{GoesOnSound, IsStaticPlace}
use Rattle.expression_laws.specs.WrittenStatements.{IsWrittenForm}

-- A place of a body in a program without a breach: all names have known types that speak of what is in
-- scope, what is known speaks of what was bound, the known facts hold, and each call gives a value of the
-- called task's result type, whatever else it gives.
pub record IsReady (task : TaskTree) (args : List Value) (roots : ℕ) (m : Interpretation) (h : Here) : Type 0 where
  pub sound : IsSound h.tree
  pub sound_task : IsSoundTask h.tree task
  pub scope : IsSoundScope h.scope
  pub static : IsStaticPlace (instance_at task args roots h) h.scope
  pub place : IsSoundPlace (instance_at task args roots h) m h.scope
  pub answers : AreSoundAnswers m h.tree h.calls
  pub result : h.result ≡ result_type h.tree task.result

-- From each state in which names have values of their types and each touch is covered, a statement of
-- which no breach is told goes on to such a state, at the place after it; or it returns or faults, with each
-- touch up to there covered.
abbrev pub FormGoes : TaskTree → List Value → ℕ → Here → Form → Type 0
FormGoes task args roots h form = (m : Interpretation) → IsReady task args roots m h →
    first_of_form h.tree task h.scope form ≡ None → first_within h.tree task h.scope form ≡ None → IsWrittenForm form →
    (u : State) → IsSoundState (instance_at task args roots h) m h.scope u →
    GoesOnSound (instance_at task args roots h) m h.scope.next (scope_after h.tree h.scope form) (exec h form u)

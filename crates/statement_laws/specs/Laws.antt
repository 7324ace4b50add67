-- Laws of statements in programs without a breach: they keep what holds at each place of a body, and each
-- touch is covered.
use Rattle.std.specs.Prelude.{List, [], length, ℕ, ◌≡◌}
use Rattle.regent_tree.specs.Execution.{Going, exec_block}
use Rattle.regent_tree.specs.Meaning.{body_of, calls_at, opening, run_task}
use Rattle.regent_tree.specs.Running.{Calls, Here, Result, State, fails, gives}
use Rattle.regent_tree.specs.Scopes.{scope_of}
use Rattle.regent_tree.specs.Store.{Store}
use Rattle.regent_tree.specs.Syntax.{Form, TaskTree, Tree}
use Rattle.regent_tree.specs.Values.{Value}
use Rattle.check_rules.specs.Breaches.{breaches}
use Rattle.check_rules.specs.scopes.Sound.{StandsIn}
use Rattle.fact_laws.specs.Regions.{Interpretation}
use Rattle.expression_laws.specs.Sound.{AreCovered, AreFitting, AreSoundAnswers, Instance, IsSoundPlace, IsSoundState, of_arguments}
use Rattle.statement_laws.specs.Places.{FormGoes}
use Rattle.statement_laws.specs.Steady.{IsStaticPlace}
use Rattle.expression_laws.specs.WrittenStatements.{AreWrittenTasks, IsWrittenBlock}

-- Every statement keeps what holds: loops, choices and blocks, variables, partition operations among them,
-- writes, reductions, fills, calls, and what is returned.
abbrev pub StatementsKeep : Type 0
StatementsKeep = (task : TaskTree) (args : List Value) (roots : ℕ) (form : Form) (h : Here) → FormGoes task args roots h form

-- what holds where a body begins
pub record IsSoundOpening (x : Instance) (m : Interpretation) (u : State) : Type 0 where
  pub static : IsStaticPlace x (scope_of x.tree x.task)
  pub place : IsSoundPlace x m (scope_of x.tree x.task)
  pub state : IsSoundState x m (scope_of x.tree x.task) u

-- In a program without a breach a body begins so, where the arguments fit its task.
abbrev pub OpeningsAreSound : Type 0
OpeningsAreSound = (tree : Tree) (calls : Calls) (turns : ℕ) (task : TaskTree) (args : List Value) (store : Store) → breaches tree ≡ [] → StandsIn tree task →
    AreFitting tree task args (length store) →
    IsSoundOpening (record { tree = tree; calls = calls; task = task; args = args; roots = length store }) (of_arguments args) (opening tree turns task args store)

-- the state up to which a run went
abbrev pub state_of : Result Going → State
state_of (gives g u) = u
state_of (fails f u) = u

-- In a program without a breach each touch that a body makes is covered by what its task declares, whatever
-- the calls in it give of their result types.
abbrev pub BodiesAreCovered : Type 0
BodiesAreCovered = (tree : Tree) (calls : Calls) (task : TaskTree) (args : List Value) (roots : ℕ) (m : Interpretation) →
    breaches tree ≡ [] → StandsIn tree task → IsWrittenBlock task.body → AreSoundAnswers m tree calls →
    (u : State) → IsSoundOpening (record { tree = tree; calls = calls; task = task; args = args; roots = roots }) m u →
    AreCovered (record { tree = tree; calls = calls; task = task; args = args; roots = roots })
    (state_of (exec_block (body_of tree calls task) task.body u)).touches

-- In a program without a breach calls give values of the called tasks' result types, and leave as many roots,
-- however deep they may nest.
abbrev pub AnswersAreSound : Type 0
AnswersAreSound = (tree : Tree) (turns more : ℕ) (m : Interpretation) → breaches tree ≡ [] → AreWrittenTasks tree → AreSoundAnswers m tree (calls_at tree turns more)

-- So each touch of an instance whose arguments fit its task is covered by what the task declares.
abbrev pub InstancesAreCovered : Type 0
InstancesAreCovered = (tree : Tree) (turns more : ℕ) (task : TaskTree) (args : List Value) (store : Store) → breaches tree ≡ [] → AreWrittenTasks tree → StandsIn tree task →
    AreFitting tree task args (length store) →
    AreCovered (record { tree = tree; calls = calls_at tree turns more; task = task; args = args; roots = length store }) (state_of (run_task tree turns (calls_at tree turns more) task args store)).touches

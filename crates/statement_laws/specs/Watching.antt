-- Runs of whole programs in which each call is watched.
--
-- A watched call answers as the meaning's does where each touch of the called task's instance is covered by what
-- that task declares. Where one isn't, it gives an alarm in place of its answer: any answer, the same for the whole
-- run. A run without an uncovered touch in its calls is the meaning's own whatever the alarm. With one it is another
-- run: where the alarm is a fault, that run ends with it.
use Rattle.std.specs.Prelude.{Bool, List, [], false, length, suc, true, zero, ℕ, ℤ, ◌≡◌}
use Rattle.std.specs.List.{list_all}
use Rattle.regent_tree.specs.Cover.{is_covered}
use Rattle.regent_tree.specs.Execution.{Going}
use Rattle.regent_tree.specs.Meaning.{calls_at, ended, inputs_of, meaning, outcome, run_task}
use Rattle.regent_tree.specs.Running.{Called, Calls, Result}
use Rattle.regent_tree.specs.Scopes.{scope_of}
use Rattle.regent_tree.specs.StaticTypes.{entry_name, task_named}
use Rattle.regent_tree.specs.Syntax.{TaskTree, Tree}
use Rattle.regent_tree.specs.Typing.{param_types, result_type}
use Rattle.regent_tree.specs.Values.{Value}
use Rattle.check_rules.specs.Breaches.{breaches}
use Rattle.statement_laws.specs.Laws.{state_of}
use Rattle.expression_laws.specs.WrittenStatements.{AreWrittenTasks}

-- whether each touch of an instance is covered by what its task declares: of the roots that were there before it,
-- its task, its arguments and its run
abbrev pub keeps_privileges : Tree → ℕ → TaskTree → List Value → Result Going → Bool
keeps_privileges tree roots task vs r = list_all (is_covered tree roots task vs) (state_of r).touches

abbrev pub unless_alarmed : Bool → Called → Called → Called
unless_alarmed true answer alarm = answer
unless_alarmed false answer alarm = alarm

-- the meaning's calls, watched
abbrev pub watched_calls : Called → Tree → ℕ → ℕ → Calls
watched_calls alarm tree turns zero line task vs store = calls_at tree turns zero line task vs store
watched_calls alarm tree turns (suc more) line task vs store =
    let t = task_named tree task in
    let r = run_task tree turns (watched_calls alarm tree turns more) t vs store in
    unless_alarmed (keeps_privileges tree (length store) t vs r) (ended (length store) (scope_of tree t) (result_type tree t.result) r) alarm

-- what the entry task is given
abbrev pub entry_args : Tree → List ℤ → List Value
entry_args tree inputs = inputs_of (param_types tree (task_named tree (entry_name tree))) inputs

-- a program's run with these calls, with the meaning's own, and with watched ones
abbrev pub run_with : Calls → Tree → List ℤ → ℕ → Result Going
run_with calls tree inputs turns = run_task tree turns calls (task_named tree (entry_name tree)) (entry_args tree inputs) []

abbrev pub own_run : Tree → List ℤ → ℕ → Result Going
own_run tree inputs turns = run_with (calls_at tree turns 63) tree inputs turns

abbrev pub watched_run : Called → Tree → List ℤ → ℕ → Result Going
watched_run alarm tree inputs turns = run_with (watched_calls alarm tree turns 63) tree inputs turns

-- each touch of the entry task is covered, and so is each touch of each task instance that the run opens: whatever
-- the alarm, the watched run is the program's own, and its outcome is what the program means
pub record IsWithinPrivileges (tree : Tree) (inputs : List ℤ) (turns : ℕ) : Type 0 where
  pub entry : keeps_privileges tree 0 (task_named tree (entry_name tree)) (entry_args tree inputs) (own_run tree inputs turns) ≡ true
  pub calls : (alarm : Called) → watched_run alarm tree inputs turns ≡ own_run tree inputs turns
  pub meant : (alarm : Called) → outcome (watched_run alarm tree inputs turns) ≡ meaning tree inputs turns

-- In a program without a breach no task touches an element outside its declared privileges, whatever the inputs
-- and the turns.
abbrev pub ProgramsKeepPrivileges : Type 0
ProgramsKeepPrivileges = (tree : Tree) (inputs : List ℤ) (turns : ℕ) → breaches tree ≡ [] → AreWrittenTasks tree →
    length inputs ≡ length (task_named tree (entry_name tree)).params → IsWithinPrivileges tree inputs turns

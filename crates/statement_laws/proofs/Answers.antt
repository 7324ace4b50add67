-- What calls give, at every depth, by recursion on how many more may nest.
use Rattle.std.proofs.Common.{List, [], None, Option, Some, false, ℕ, zero, suc, ◌≡◌, length, map}
use Rattle.std.proofs.lemmas.List.{length-take-le}
use Rattle.regent_tree.proofs.Members.{Contains-from_Has}
use Rattle.regent_tree.specs.Execution.{Going, goes_on, returned}
use Rattle.regent_tree.specs.Initializers.{zero_of}
use Rattle.regent_tree.specs.Meaning.{calls_at, ended, opening, run_task}
use Rattle.regent_tree.specs.Running.{Calls, Result, fails, gives}
use Rattle.regent_tree.specs.Scopes.{Scope, scope_of}
use Rattle.regent_tree.specs.StaticTypes.{task_named}
use Rattle.regent_tree.specs.Store.{Store}
use Rattle.regent_tree.specs.Syntax.{ItemTree, Name, TaskTree, Tree, task_item}
use Rattle.regent_tree.specs.Typing.{result_type, scope_after_block}
use Rattle.regent_tree.specs.Values.{Value}
use Rattle.regent_tree.specs.declared.types.NumberTerm.TheVariants as number
use Rattle.regent_tree.specs.declared.types.TypeTerm.{TypeTerm}
use Rattle.regent_tree.specs.declared.types.TypeTerm.TheVariants as typed_as
use Rattle.check_rules.specs.Breaches.{breaches}
use Rattle.check_rules.specs.scopes.Sound.{StandsIn}
use Rattle.check_rules.specs.types.Declarations.{is_no_result_type}
use Rattle.check_laws.proofs.Bodies.{body_told}
use Rattle.check_laws.proofs.Parts.{contrary}
use Rattle.fact_laws.specs.Regions.{Interpretation}
use Rattle.expression_laws.proofs.Fitting.{standing_task}
use Rattle.expression_laws.specs.Kinds.{IsOfType, is_index, is_nothing, is_number, is_truth}
use Rattle.expression_laws.specs.Sound.{AreCovered, AreFitting, AreSoundAnswers, IsSoundAnswer, of_arguments}
use Rattle.statement_laws.specs.Laws.{AnswersAreSound, InstancesAreCovered, state_of}
use Rattle.statement_laws.specs.Steady.{GoesOnSound}
use Rattle.expression_laws.specs.WrittenStatements.{AreWrittenTasks}
use Rattle.statement_laws.proofs.Openings.{sound_opening}
use Rattle.statement_laws.proofs.Tasks.{body_goes, covered_there}

-- the value that a body gives that doesn't return is of its result type
zero_is : (tree : Tree) (r : Option TypeTerm) (s : Scope) (m : Interpretation) → is_no_result_type r ≡ false → IsOfType m (result_type tree r) (zero_of s [] (result_type tree r))
zero_is tree None s m e = is_nothing
zero_is tree (Some (typed_as.Number number.Int32)) s m e = is_number
zero_is tree (Some (typed_as.Number number.Int64)) s m e = is_number
zero_is tree (Some (typed_as.Number (number.Index k))) s m e = is_index
zero_is tree (Some typed_as.Truth) s m e = is_truth
zero_is tree (Some (typed_as.Pointer p)) s m e = absurd (contrary e)
zero_is tree (Some (typed_as.Ispace k)) s m e = absurd (contrary e)
zero_is tree (Some (typed_as.Region k u)) s m e = absurd (contrary e)
zero_is tree (Some (typed_as.Partition d r c)) s m e = absurd (contrary e)

module _ (tree : Tree) (turns : ℕ) (none : breaches tree ≡ []) (written : AreWrittenTasks tree) where
  -- an instance whose arguments fit keeps what holds to its end
  pub instance_goes : (calls : Calls) (task : TaskTree) (vs : List Value) (store : Store) → StandsIn tree task → AreFitting tree task vs (length store) →
      AreSoundAnswers (of_arguments vs) tree calls →
      GoesOnSound (record { tree = tree; calls = calls; task = task; args = vs; roots = length store }) (of_arguments vs) (scope_of tree task).next (scope_after_block tree (scope_of tree task) task.body)
      (run_task tree turns calls task vs store)
  instance_goes calls task vs store stands fit answers =
      body_goes tree calls task vs (length store) (of_arguments vs) none stands (written task stands) answers (opening tree turns task vs store)
      (sound_opening tree task (body_told tree task none stands) calls turns vs store fit)

  pub task_ended : (calls : Calls) (m b : Interpretation) (name : Name) (vs : List Value) (store : Store) (n : ℕ) (t : Scope) → is_no_result_type (task_named tree name).result ≡ false → (r : Result Going) →
      GoesOnSound (record { tree = tree; calls = calls; task = task_named tree name; args = vs; roots = length store }) b n t r →
      IsSoundAnswer m tree name store (ended (length store) (scope_of tree (task_named tree name)) (result_type tree (task_named tree name).result) r)
  task_ended calls m b name vs store n t e (gives goes_on u) goes = (zero_is tree (task_named tree name).result (scope_of tree (task_named tree name)) m e, length-take-le (length store) u.store goes.state.grown)
  task_ended calls m b name vs store n t e (gives (returned v) u) goes = (goes.is_of m, length-take-le (length store) u.store goes.grown)
  task_ended calls m b name vs store n t e (fails f u) goes = tt

  pub answers : (more : ℕ) (m : Interpretation) → AreSoundAnswers m tree (calls_at tree turns more)
  answers zero m line name vs store there fit = tt
  answers (suc more) m line name vs store there fit =
      let stands = Contains-from_Has (map (λ (i : ItemTree). i.form) tree) (task_item (task_named tree name)) (standing_task tree name there) in
      task_ended (calls_at tree turns more) m (of_arguments vs) name vs store _ _ (body_told tree (task_named tree name) none stands).sound_task.result (run_task tree turns (calls_at tree turns more) (task_named tree name) vs store)
      (instance_goes (calls_at tree turns more) (task_named tree name) vs store stands fit (answers more (of_arguments vs)))

  pub covered : (more : ℕ) (task : TaskTree) (vs : List Value) (store : Store) → StandsIn tree task → AreFitting tree task vs (length store) →
      AreCovered (record { tree = tree; calls = calls_at tree turns more; task = task; args = vs; roots = length store }) (state_of (run_task tree turns (calls_at tree turns more) task vs store)).touches
  covered more task vs store stands fit =
      covered_there (record { tree = tree; calls = calls_at tree turns more; task = task; args = vs; roots = length store }) (of_arguments vs) (scope_of tree task).next (scope_after_block tree (scope_of tree task) task.body)
      (run_task tree turns (calls_at tree turns more) task vs store) (instance_goes (calls_at tree turns more) task vs store stands fit (answers more (of_arguments vs)))

pub answers_are_sound : AnswersAreSound
answers_are_sound tree turns more m none written = answers tree turns none written more m

pub instances_are_covered : InstancesAreCovered
instances_are_covered tree turns more task args store none written stands fit = covered tree turns none written more task args store stands fit

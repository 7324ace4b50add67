-- Calls and runs of a program without a breach: a task's body begins in a state that fits, and what it gives fits.
use Rattle.std.specs.List.{All}
use Rattle.std.specs.Prelude.{List, None, [], false, ℕ, ◌≡◌}
use Rattle.regent_tree.specs.Limits.{KeepsLimit, WithinLimits, parts_of_block}
use Rattle.regent_tree.specs.Execution.{Going}
use Rattle.regent_tree.specs.Meaning.{calls_at, run_task}
use Rattle.regent_tree.specs.Running.{Result}
use Rattle.regent_tree.specs.Scopes.{scope_of}
use Rattle.regent_tree.specs.StaticTypes.{Reach, entry_name, task_named}
use Rattle.regent_tree.specs.Syntax.{Name, TaskTree, Tree}
use Rattle.regent_tree.specs.Typing.{param_types, result_type, scope_after_block}
use Rattle.regent_tree.specs.Values.{Value}
use Rattle.regent_tree.specs.declared.types.Kind.{Kind}
use Rattle.regent_tree.specs.declared.typing.StaticType.TheVariants.{Pointer as pointer_type}
use Rattle.check_rules.specs.Breaches.{breaches}
use Rattle.check_rules.specs.first.FirstInStatements.{first_in_block}
use Rattle.check_rules.specs.scopes.Sound.{IsSound}
use Rattle.check_rules.specs.types.Declarations.{is_no_result_type}
use Rattle.check_rules.specs.types.Sorts.{type_at}
use Rattle.check_laws.specs.SoundScopes.{IsSoundScope}
use Rattle.expression_laws.specs.WrittenStatements.{AreWrittenTasks, IsWrittenBlock}
use Rattle.state_laws.specs.Going.{GoesOnFit}
use Rattle.value_laws.specs.Keeping.{AnswersFit, ArgumentsFit}
use Rattle.value_laws.specs.Spaces.{AreSpaced, HasSpacedDeclarations, NamesRegionOf}

-- A task's text: in the scope in which its body begins all is known, the types of parameters are as the field spaces
-- declare, and nothing is told of the body.
pub record IsBodyOfFit (tree : Tree) (t : TaskTree) : Type 0 where
  pub scope : IsSoundScope (scope_of tree t)
  pub spaced : AreSpaced tree (scope_of tree t).names
  pub regions : (i : ℕ) (k : Kind) (space : ℕ) (args terms : List Reach) →
      type_at (param_types tree t) i ≡ pointer_type k space args terms → All (NamesRegionOf (scope_of tree t).names space) terms
  pub result : is_no_result_type t.result ≡ false
  pub told : first_in_block tree t (scope_of tree t) t.body ≡ None
  pub written : IsWrittenBlock t.body
  pub limits : All KeepsLimit (parts_of_block t.body)

-- a program's text: its declarations are as the laws on places suppose, and so is each task, also where a name has none
pub record IsTextOfFit (tree : Tree) : Type 0 where
  pub sound : IsSound tree
  pub declared : HasSpacedDeclarations tree
  pub bodies : (n : Name) → IsBodyOfFit tree (task_named tree n)

-- So is the text of a program without a breach that keeps the limits.
abbrev pub TextsFit : Type 0
TextsFit = (tree : Tree) → breaches tree ≡ [] → WithinLimits tree → AreWrittenTasks tree → IsTextOfFit tree

-- The calls of such a program give fitting answers on fitting arguments, however many may nest.
abbrev pub CallsFit : Type 0
CallsFit = (tree : Tree) → breaches tree ≡ [] → WithinLimits tree → AreWrittenTasks tree →
    (turns more : ℕ) → AnswersFit tree (calls_at tree turns more)

-- a run of a task from no roots
abbrev pub RunFits : Tree → TaskTree → Result Going → Type 0
RunFits tree t r = GoesOnFit tree [] (scope_after_block tree (scope_of tree t) t.body).names (result_type tree t.result) r

-- So does a whole run: from inputs that fit it ends in a store that fits, with a value that fits the entry task's
-- result type, or it faults with a store that fits.
abbrev pub RunsFit : Type 0
RunsFit = (tree : Tree) → breaches tree ≡ [] → WithinLimits tree → AreWrittenTasks tree →
    (turns : ℕ) (inputs : List Value) → ArgumentsFit tree [] (task_named tree (entry_name tree)) inputs →
    RunFits tree (task_named tree (entry_name tree))
    (run_task tree turns (calls_at tree turns 63) (task_named tree (entry_name tree)) inputs [])

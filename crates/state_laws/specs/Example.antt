-- A place of a body, with a region of a root as an argument, where each premise of the law on statements holds.
use Rattle.std.specs.List.{All}
use Rattle.std.specs.Prelude.{None, ◌≡◌}
use Rattle.regent_tree.specs.Laws.{shapes}
use Rattle.regent_tree.specs.Limits.{KeepsLimit, parts_of_block}
use Rattle.regent_tree.specs.Meaning.{body_of, calls_at}
use Rattle.regent_tree.specs.Running.{Here}
use Rattle.check_rules.specs.first.FirstInStatements.{first_in_block}
use Rattle.statement_laws.specs.Example.{example_state, example_task, example_tree}
use Rattle.expression_laws.specs.WrittenStatements.{IsWrittenBlock}
use Rattle.state_laws.specs.Going.{IsPlaceOfRun}
use Rattle.value_laws.specs.Keeping.{StateFits}

abbrev pub example_place : Here
example_place = body_of example_tree (calls_at example_tree 10 0) example_task

pub record ExampleFits : Type 0 where
  pub place : IsPlaceOfRun example_task (shapes example_state.store) example_place
  pub told : first_in_block example_tree example_task example_place.scope example_task.body ≡ None
  pub written : IsWrittenBlock example_task.body
  pub limits : All KeepsLimit (parts_of_block example_task.body)
  pub state : StateFits example_tree (shapes example_state.store) example_place.scope.names example_state

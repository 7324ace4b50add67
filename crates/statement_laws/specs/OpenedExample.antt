-- The instance that the main task of a program opens by its call, with its two touches.
use Rattle.std.specs.Prelude.{[], ◌∷◌, ◌≡◌, codes, length}
use Rattle.regent_tree.specs.StaticTypes.{task_named}
use Rattle.regent_tree.specs.Values.{a_region}
use Rattle.statement_laws.specs.Example.{two_points}
use Rattle.statement_laws.specs.Laws.{state_of}
use Rattle.statement_laws.specs.Opened.{Opened, Opens, run_of_opened}
use Rattle.statement_laws.specs.PlaceExample.{caller_tree}
use Rattle.worked_examples.specs.Words.{naturals, root}

abbrev pub opened_by_call : Opened
opened_by_call = record {
  more = 62;
  task = task_named caller_tree (codes "t");
  args = a_region two_points ∷ [];
  store = root 0 2 (naturals (0 ∷ 0 ∷ []) ∷ []) ∷ [];
}

pub record OpenedExampleHolds : Type 0 where
  pub opened : Opens caller_tree [] 10 opened_by_call
  pub touches : length (state_of (run_of_opened caller_tree 10 opened_by_call)).touches ≡ 2

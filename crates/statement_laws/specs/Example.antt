-- A task that reads a field of one point of its region and adds the number to that of another, and what
-- holds where its body begins.
use Rattle.std.specs.Prelude.{List, [], codes, length, ◌++◌, ◌∷◌, ◌≡◌}
use Rattle.lane_kernels.specs.declared.numbers.Op.TheVariants.{Sum}
use Rattle.regent_tree.specs.Execution.{exec_block}
use Rattle.regent_tree.specs.Meaning.{body_of, calls_at, opening}
use Rattle.regent_tree.specs.Running.{State}
use Rattle.regent_tree.specs.StaticTypes.{task_named}
use Rattle.regent_tree.specs.Store.{Touch}
use Rattle.regent_tree.specs.Syntax.{TaskTree, Tree}
use Rattle.regent_tree.specs.Values.{Region, Value, a_region}
use Rattle.regent_tree.specs.declared.program.Grant.TheVariants.{Reads, Reduces}
use Rattle.check_rules.specs.Breaches.{breaches}
use Rattle.check_rules.specs.scopes.Sound.{StandsIn}
use Rattle.expression_laws.specs.Sound.{AreFitting, of_arguments}
use Rattle.statement_laws.specs.Laws.{IsSoundOpening, state_of}
use Rattle.expression_laws.specs.WrittenStatements.{IsWrittenBlock}
use Rattle.worked_examples.specs.Touches.{sum_of_two, task_with}
use Rattle.worked_examples.specs.Words.{fields, grants, item, naturals, root, task}

abbrev pub example_tree : Tree
example_tree = task_with (grants (Reads ∷ Reduces Sum ∷ []) (fields "r" ("x" ∷ []) ∷ []) ∷ []) sum_of_two
    ++ item 4 (task "main" [] [] []) ∷ []

abbrev pub example_task : TaskTree
example_task = task_named example_tree (codes "t")

abbrev pub two_points : Region
two_points = record { root = 0; points = 0 ∷ 1 ∷ [] }

abbrev pub example_args : List Value
example_args = a_region two_points ∷ []

abbrev pub example_state : State
example_state = opening example_tree 10 example_task example_args (root 0 2 (naturals (0 ∷ 0 ∷ []) ∷ []) ∷ [])

-- the touches of its body: a read at the second point, and a reduction at the first
abbrev pub example_touches : List Touch
example_touches = (state_of (exec_block (body_of example_tree (calls_at example_tree 10 63) example_task) example_task.body example_state)).touches

-- Each premise of the laws on openings, bodies and instances holds here, and the body touches two points.
pub record ExampleHolds : Type 0 where
  pub accepted : breaches example_tree ≡ []
  pub stands : StandsIn example_tree example_task
  pub written : IsWrittenBlock example_task.body
  pub fitting : AreFitting example_tree example_task example_args 1
  pub opening : IsSoundOpening (record { tree = example_tree; calls = calls_at example_tree 10 63; task = example_task; args = example_args; roots = 1 }) (of_arguments example_args) example_state
  pub touches : length example_touches ≡ 2

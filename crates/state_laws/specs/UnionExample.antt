-- A place in the middle of a body, behind a new region and a partition of it, where a union stands: each premise of
-- the law on statements holds there.
use Rattle.std.specs.List.{All}
use Rattle.std.specs.Prelude.{List, None, [], codes, ◌∷◌, ◌≡◌}
use Rattle.regent_tree.specs.Execution.{after_statement, exec, on_line}
use Rattle.regent_tree.specs.Laws.{Shape, shapes}
use Rattle.regent_tree.specs.Limits.{KeepsLimit, parts_of_form}
use Rattle.regent_tree.specs.Meaning.{body_of, calls_at, opening}
use Rattle.regent_tree.specs.Running.{Here, State}
use Rattle.regent_tree.specs.StaticTypes.{task_named}
use Rattle.regent_tree.specs.Syntax.{Form, TaskTree, Tree}
use Rattle.regent_tree.specs.declared.types.NumberTerm.TheVariants.{Int64}
use Rattle.check_rules.specs.first.FirstInStatements.{first_of_form, first_within}
use Rattle.statement_laws.specs.Laws.{state_of}
use Rattle.expression_laws.specs.WrittenStatements.{IsWrittenForm}
use Rattle.worked_examples.specs.Words.{either, equal, field_space, int, item, line, new_region, number, param, space, space_of, task, var_from}
use Rattle.state_laws.specs.Going.{IsPlaceOfRun}
use Rattle.value_laws.specs.Keeping.{StateFits}

abbrev pub region_made : Form
region_made = var_from "s" (new_region (space (int 2)) (space_of "f" []))

abbrev pub parted : Form
parted = var_from "p" (equal "s" (space (int 2)))

abbrev pub joined : Form
joined = var_from "q" (either "p" "p")

abbrev pub union_tree : Tree
union_tree = item 1 (field_space "f" [] (param 1 "x" (number Int64) ∷ []))
    ∷ item 2 (task "main" [] [] (line 3 region_made ∷ line 4 parted ∷ line 5 joined ∷ []))
    ∷ []

abbrev pub union_task : TaskTree
union_task = task_named union_tree (codes "main")

-- the place of each of the three variables, and the state behind the first two
abbrev pub region_here : Here
region_here = on_line (body_of union_tree (calls_at union_tree 10 63) union_task) 3

abbrev pub parted_here : Here
parted_here = on_line (after_statement region_here region_made) 4

abbrev pub union_here : Here
union_here = on_line (after_statement parted_here parted) 5

abbrev pub union_state : State
union_state = state_of (exec parted_here parted (state_of (exec region_here region_made (opening union_tree 10 union_task [] []))))

abbrev pub union_roots : List Shape
union_roots = shapes union_state.store

pub record UnionExampleFits : Type 0 where
  pub place : IsPlaceOfRun union_task union_roots union_here
  pub told : first_of_form union_tree union_task union_here.scope joined ≡ None
  pub within : first_within union_tree union_task union_here.scope joined ≡ None
  pub written : IsWrittenForm joined
  pub limits : All KeepsLimit (parts_of_form joined)
  pub state : StateFits union_tree union_roots union_here.scope.names union_state

-- The tasks of a program, as the compiler lists them.
use Rattle.std.specs.Prelude.{ℕ, List, [], ◌∷◌, map, bytes_eq}
use Rattle.std.specs.Borrow.{Bor}
use Rattle.std.specs.List.{position_or_len}
use Rattle.regent_tree.specs.declared.program.Item.{Item}
use Rattle.regent_tree.specs.declared.program.ItemKind.{ItemKind}
use Rattle.regent_tree.specs.declared.program.ItemKind.TheVariants as kind
use Rattle.regent_tree.specs.declared.program.Task.{Task}
use Rattle.regent_tree.specs.PlainProgram.{task_of}
use Rattle.regent_tree.specs.Syntax.{Name, TaskTree}

abbrev pub named_tasks : List (Bor Task) → List Task
named_tasks tasks = map (λ r. r.now) tasks

abbrev pub task_before : ItemKind → List Task → List Task
task_before (kind.Task t) rest = t ∷ rest
task_before _ rest = rest

abbrev pub tasks_in : List Item → List Task
tasks_in [] = []
tasks_in (i ∷ items) = task_before i.what (tasks_in items)

abbrev pub place_among : List Task → Name → ℕ
place_among tasks n = position_or_len (λ (t : TaskTree). bytes_eq t.name n) (map task_of tasks)

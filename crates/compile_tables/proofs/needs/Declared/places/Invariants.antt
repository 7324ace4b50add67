use Rattle.std.proofs.Common.{◌≡◌, ◌++◌, drop}
use Rattle.regent_tree.specs.PlainProgram.{task_of, tree_of}
use Rattle.code_rules.specs.Needs.{needs_of_places}
use Rattle.compile_tables.proofs.needs.Declared.places.Given as goal

abbrev pub invariant-loop-place : goal.invariant-loop-place
invariant-loop-place l =
    l.needs ++ needs_of_places (tree_of l.self.tables.now) (task_of l.self.task.now) l.mode (drop l.place-index l.places)
    ≡ l.initial.needs ++ needs_of_places (tree_of l.self.tables.now) (task_of l.self.task.now) l.mode l.places
